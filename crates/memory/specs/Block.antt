-- The whole machine is one list of 646 numbers, a block. A field names one of its numbers; `slot` says where that stands.
-- A field past the 64 words, 16 descriptors with a status and 13 numbers of body, 8 workers of 8 numbers that a block has room for stands nowhere: it reads 0, and a store there
-- changes nothing. (n, k and w, which may be smaller, play no part here.)
use Rattle.std.specs.Prelude.{ℕ, ◌+◌, ◌*◌, cond, List, ltb, get_or, set}
use Rattle.memory.specs.declared.Copy.{Copy}
use Rattle.memory.specs.declared.Copy.TheVariants.{Cached, Persisted}

abbrev pub Block : Type 0
Block = List ℕ

pub data Field : Type 0 where
  -- a copy of the word at an address, of the status of a descriptor
  word status : Copy → ℕ → Field
  -- a copy of a number of a descriptor's body: 0 the count; 1 + 3i, 2 + 3i, 3 + 3i the address, expected and desired of entry i
  body : Copy → ℕ → ℕ → Field
  -- a number of a worker's row: its tag, what it owns, its job, its place there, the entry, what it noted; two more are not used
  worker : ℕ → ℕ → Field
  -- n, k and w
  size : ℕ → Field
  -- recovery's place: whether there is one, the descriptor, the steps done
  recovery : ℕ → Field

abbrev pub nowhere : ℕ
nowhere = 646

abbrev pub base_of : Copy → ℕ
base_of Cached = 0
base_of Persisted = 288

unfoldable pub slot : Field → ℕ
slot (word c a) = cond (ltb a 64) (base_of c + a) nowhere
slot (status c d) = cond (ltb d 16) (base_of c + 64 + d) nowhere
slot (body c d j) = cond (ltb d 16) (cond (ltb j 13) (base_of c + 80 + 13 * d + j) nowhere) nowhere
slot (worker w j) = cond (ltb w 8) (cond (ltb j 8) (576 + 8 * w + j) nowhere) nowhere
slot (size j) = cond (ltb j 3) (640 + j) nowhere
slot (recovery j) = cond (ltb j 3) (643 + j) nowhere

-- the number at a slot, and the block with another number there
unfoldable pub at : Block → ℕ → ℕ
at m i = cond (ltb i nowhere) (get_or m i 0) 0

unfoldable pub store : Block → ℕ → ℕ → Block
store m i v = cond (ltb i nowhere) (set m i v) m

abbrev pub get : Block → Field → ℕ
get m f = at m (slot f)

abbrev pub put : Block → Field → ℕ → Block
put m f v = store m (slot f) v
