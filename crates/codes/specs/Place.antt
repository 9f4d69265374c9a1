-- A place in the steps of an operation as three numbers: which of the 17 (numbers of the block's own, not document 01's), the entry, what was noted.
use Rattle.std.specs.Prelude.{cond, ℕ, eqb}
use Rattle.word.specs.declared.Outcome.{Outcome}
use Rattle.word.specs.declared.Outcome.TheVariants.{Succeeded, Failed}
use Rattle.steps.specs.declared.Place.{Place}
use Rattle.steps.specs.declared.Place.TheVariants.{BackBody, StoreUndecided, BackUndecided, Install, InstallClear, Persist, PersistClear, Decide, Settle, SettleClear, Swap, SwapBack, SwapClear, StoreFree, BackFree}

-- any other number reads as the first place
unfoldable pub place_of : ℕ → ℕ → ℕ → Place
place_of k i v =
    cond (eqb k 1) StoreUndecided
    (cond (eqb k 2) BackUndecided
    (cond (eqb k 3) (Install i)
    (cond (eqb k 4) (InstallClear i v)
    (cond (eqb k 5) (Persist i)
    (cond (eqb k 6) (PersistClear i)
    (cond (eqb k 7) (Decide Succeeded)
    (cond (eqb k 8) (Decide Failed)
    (cond (eqb k 9) Settle
    (cond (eqb k 10) SettleClear
    (cond (eqb k 11) (Swap i)
    (cond (eqb k 12) (SwapBack i)
    (cond (eqb k 13) (SwapClear i)
    (cond (eqb k 14) StoreFree
    (cond (eqb k 15) (BackFree Succeeded)
    (cond (eqb k 16) (BackFree Failed) BackBody)))))))))))))))

abbrev pub outcome_or : Outcome → ℕ → ℕ → ℕ
outcome_or Succeeded s f = s
outcome_or Failed s f = f

abbrev pub place_number : Place → ℕ
place_number BackBody = 0
place_number StoreUndecided = 1
place_number BackUndecided = 2
place_number (Install i) = 3
place_number (InstallClear i v) = 4
place_number (Persist i) = 5
place_number (PersistClear i) = 6
place_number (Decide o) = outcome_or o 7 8
place_number Settle = 9
place_number SettleClear = 10
place_number (Swap i) = 11
place_number (SwapBack i) = 12
place_number (SwapClear i) = 13
place_number StoreFree = 14
place_number (BackFree o) = outcome_or o 15 16

-- the entry that a place is at
abbrev pub place_entry : Place → ℕ
place_entry BackBody = 0
place_entry StoreUndecided = 0
place_entry BackUndecided = 0
place_entry (Install i) = i
place_entry (InstallClear i v) = i
place_entry (Persist i) = i
place_entry (PersistClear i) = i
place_entry (Decide o) = 0
place_entry Settle = 0
place_entry SettleClear = 0
place_entry (Swap i) = i
place_entry (SwapBack i) = i
place_entry (SwapClear i) = i
place_entry StoreFree = 0
place_entry (BackFree o) = 0

-- what it noted: the value that was written back
abbrev pub place_noted : Place → ℕ
place_noted BackBody = 0
place_noted StoreUndecided = 0
place_noted BackUndecided = 0
place_noted (Install i) = 0
place_noted (InstallClear i v) = v
place_noted (Persist i) = 0
place_noted (PersistClear i) = 0
place_noted (Decide o) = 0
place_noted Settle = 0
place_noted SettleClear = 0
place_noted (Swap i) = 0
place_noted (SwapBack i) = 0
place_noted (SwapClear i) = 0
place_noted StoreFree = 0
place_noted (BackFree o) = 0
