-- In `A3 12`, 12 is the line of the paper's Algorithm 3. What the rules share: tests of a word, the value that an operation leaves, one store; and the read.
use Rattle.std.specs.Prelude.{Bool, true, false, cond, ◌&&◌, ℕ, eqb}
use Rattle.word.specs.declared.Sort.{Sort}
use Rattle.word.specs.declared.Sort.TheVariants.{Plain, Pointer, Neither}
use Rattle.word.specs.declared.Outcome.{Outcome}
use Rattle.word.specs.declared.Outcome.TheVariants.{Succeeded, Failed}
use Rattle.word.specs.declared.Status.{Status}
use Rattle.word.specs.declared.Status.TheVariants.{Free, Undecided, Decided, Bad}
use Rattle.steps.specs.declared.Entry.{Entry}
use Rattle.steps.specs.declared.Effect.{Effect}
use Rattle.steps.specs.declared.Effect.TheVariants.{Nothing, StoreWord, BackWord}
use Rattle.steps.specs.declared.Plan.{Plan}
use Rattle.steps.specs.declared.ReadNext.TheVariants.{Meet, Clear, Value}
use Rattle.steps.specs.declared.ReadNext.{ReadNext}

abbrev pub planned : {N : Type 0} → Effect → N → Plan N
planned e n = record { effect = e; next = n }

-- a pointer to d, dirty or clean
abbrev pub points_to : Sort → ℕ → Bool
points_to (Plain v dirty) d = false
points_to (Pointer e dirty) d = eqb e d
points_to (Neither w) d = false

-- exactly d's dirty pointer
abbrev pub is_dirty_pointer : Sort → ℕ → Bool
is_dirty_pointer (Plain v dirty) d = false
is_dirty_pointer (Pointer e dirty) d = dirty && eqb e d
is_dirty_pointer (Neither w) d = false

-- exactly the value v, dirty
abbrev pub is_dirty_plain : Sort → ℕ → Bool
is_dirty_plain (Plain x dirty) v = dirty && eqb x v
is_dirty_plain (Pointer e dirty) v = false
is_dirty_plain (Neither w) v = false

abbrev pub is_free : Status → Bool
is_free Free = true
is_free Undecided = false
is_free (Decided o dirty) = false
is_free (Bad x) = false

-- the outcome that a status holds, dirty or not; one that is not decided counts as Failed, so that it picks expected
abbrev pub outcome_of : Status → Outcome
outcome_of Free = Failed
outcome_of Undecided = Failed
outcome_of (Decided o dirty) = o
outcome_of (Bad x) = Failed

-- desired (Succeeded) or expected (Failed)
abbrev pub chosen : Outcome → Entry → ℕ
chosen Succeeded e = e.desired
chosen Failed e = e.expected

abbrev pub left_value : Status → Entry → ℕ
left_value s e = chosen (outcome_of s) e

abbrev pub store_if : Bool → ℕ → Sort → Effect
store_if t a s = cond t (StoreWord a s) Nothing

-- Read: a pointer to e is helped (A3 12-14); a clean word is answered (A3 3, 15); a dirty plain word is written back (A3 8-9). (A number that is no word, which is never met, is
-- answered 0, its value.)
abbrev pub read_by : ℕ → ℕ → Bool → Plan ReadNext
read_by a v true = record { effect = BackWord a; next = Clear v }
read_by a v false = record { effect = Nothing; next = Value v }

abbrev pub read_plan : ℕ → Sort → Plan ReadNext
read_plan a (Plain v dirty) = read_by a v dirty
read_plan a (Pointer e dirty) = record { effect = Nothing; next = Meet e }
read_plan a (Neither w) = record { effect = Nothing; next = Value 0 }

-- the next step clears the bit if the word is unchanged, and answers the value first seen (A3 9-10, 15)
abbrev pub read_clear_plan : ℕ → ℕ → Sort → Plan ReadNext
read_clear_plan a v s = record { effect = store_if (is_dirty_plain s v) a (Plain v false); next = Value v }
