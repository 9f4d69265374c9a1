-- "Numbers little-endian": a number is its bytes, the lowest first (document 01, "Schedule records", "Images for the C runtime").
use Rattle.std.specs.Prelude.{ℕ, zero, suc, ◌+◌, ◌*◌, ◌/◌, ◌%◌, cond, List, [], ◌∷◌, ◌++◌, leb, length, take, drop}

-- the number of a list of bytes
abbrev pub number_of : List ℕ → ℕ
number_of [] = 0
number_of (b ∷ bs) = b + 256 * number_of bs

-- the k lowest bytes of a number
abbrev pub bytes_of : ℕ → ℕ → List ℕ
bytes_of zero v = []
bytes_of (suc k) v = v % 256 ∷ bytes_of k (v / 256)

-- the number of the eight bytes from a place on; 0 where they do not all lie in the list
unfoldable pub number_at : List ℕ → ℕ → ℕ
number_at s at = cond (leb (at + 8) (length s)) (number_of (take 8 (drop at s))) 0

-- the list with the eight bytes of a number from a place on; as it was where they do not all lie in it
unfoldable pub with_number : List ℕ → ℕ → ℕ → List ℕ
with_number s at v = cond (leb (at + 8) (length s)) (take at s ++ bytes_of 8 v ++ drop (at + 8) s) s
