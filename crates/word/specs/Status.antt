-- The status of a descriptor: 0 Free, 1 Undecided, 2 Succeeded, 3 Failed; bit 63 dirty is allowed on 2 and 3 only
-- (document 01, "What the memory holds").
use Rattle.std.specs.Prelude.{ℕ, ◌/◌, ◌%◌, ◌^◌, false, cond, not, eqb}
use Rattle.word.specs.declared.Outcome.{Outcome}
use Rattle.word.specs.declared.Outcome.TheVariants.{Succeeded, Failed}
use Rattle.word.specs.declared.Status.{Status}
use Rattle.word.specs.declared.Status.TheVariants.{Free, Undecided, Decided, Bad}
use Rattle.word.specs.Word.{marked}

-- what a number below 2 ^ 64 is as a status
unfoldable pub status_of : ℕ → Status
status_of x =
    cond (eqb x 0) Free
    (cond (eqb x 1) Undecided
    (cond (eqb (x % 2 ^ 63) 2) (Decided Succeeded (not (eqb (x / 2 ^ 63) 0)))
    (cond (eqb (x % 2 ^ 63) 3) (Decided Failed (not (eqb (x / 2 ^ 63) 0)))
    (Bad x))))

-- document 01's number for each outcome, for each status
abbrev pub outcome_number : Outcome → ℕ
outcome_number Succeeded = 2
outcome_number Failed = 3

abbrev pub status_number : Status → ℕ
status_number Free = 0
status_number Undecided = 1
status_number (Decided o dirty) = marked dirty (outcome_number o)
status_number (Bad x) = x

-- the status with its dirty bit cleared; a number that is no status has no dirty bit
abbrev pub status_cleared : Status → Status
status_cleared Free = Free
status_cleared Undecided = Undecided
status_cleared (Decided o dirty) = Decided o false
status_cleared (Bad x) = Bad x
