-- The value of a word (document 01, "What the memory holds"): read from persisted copies only.
use Rattle.std.specs.Prelude.{ℕ, Bool, true, false, cond, ◌&&◌, ltb, eqb, None, Option, Some}
use Rattle.word.specs.declared.Sort.{Sort}
use Rattle.word.specs.declared.Sort.TheVariants.{Plain, Pointer, Neither}
use Rattle.word.specs.declared.Outcome.{Outcome}
use Rattle.word.specs.declared.Outcome.TheVariants.{Succeeded, Failed}
use Rattle.word.specs.declared.Status.{Status}
use Rattle.word.specs.declared.Status.TheVariants.{Free, Undecided, Decided, Bad}
use Rattle.memory.specs.declared.Copy.{Copy}
use Rattle.memory.specs.declared.Copy.TheVariants.{Persisted}
use Rattle.steps.specs.declared.Entry.{Entry}
use Rattle.memory.specs.Block.{Block}
use Rattle.memory.specs.Content.{word_in, status_in, count_in, entry_in}

-- entry i is below the count, and for address a
abbrev pub has_at : Copy → Block → ℕ → ℕ → ℕ → Bool
has_at c m d a i = ltb i (count_in c m d) && eqb (entry_in c m d i).address a

-- the first of the four entries that is
unfoldable pub entry_for : Copy → Block → ℕ → ℕ → Option ℕ
entry_for c m d a =
    cond (has_at c m d a 0) (Some 0)
    (cond (has_at c m d a 1) (Some 1)
    (cond (has_at c m d a 2) (Some 2)
    (cond (has_at c m d a 3) (Some 3) None)))

abbrev pub is_success : Outcome → Bool
is_success Succeeded = true
is_success Failed = false

-- Succeeded, dirty or not
abbrev pub succeeded : Status → Bool
succeeded Free = false
succeeded Undecided = false
succeeded (Decided o dirty) = is_success o
succeeded (Bad x) = false

-- desired if the status is Succeeded, else expected
abbrev pub entry_value : Status → Entry → ℕ
entry_value s e = cond (succeeded s) e.desired e.expected

-- a pointer without an entry for its address is given the value 0
abbrev pub found_value : Block → ℕ → Option ℕ → ℕ
found_value m d (Some i) = entry_value (status_in Persisted m d) (entry_in Persisted m d i)
found_value m d None = 0

abbrev pub pointer_value : Block → ℕ → ℕ → ℕ
pointer_value m d a = found_value m d (entry_for Persisted m d a)

-- a plain word without its dirty bit; for a pointer to d, desired or expected of d's entry for that address; a number that is neither is given the value 0
abbrev pub sort_value : Block → ℕ → Sort → ℕ
sort_value m a (Plain v dirty) = v
sort_value m a (Pointer d dirty) = pointer_value m d a
sort_value m a (Neither w) = 0

unfoldable pub value_of : Block → ℕ → ℕ
value_of m a = sort_value m a (word_in Persisted m a)
