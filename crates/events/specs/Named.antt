-- A refusal is known by its number.
use Rattle.std.specs.Prelude.{◌≡◌, refl, ℕ, cond, eqb, Result, Ok, Err}
use Rattle.std.proofs.Common.{sym, ap, ◌∙◌}
use Rattle.events.specs.declared.Refusal.{Refusal}
use Rattle.events.specs.declared.Refusal.TheVariants.{BadSizes, Short, UnknownKind, NoWorker, InRecovery, OutsideRecovery, OwnsSomething, NotBuilding, NoneQualifies, NoAddress, TooLarge, FifthWord, AlreadyAdded, NotThere, CountZero, RunsNothing, NoDescriptor}
use Rattle.events.specs.Refusal.{refused}

-- what a table of checks comes to, by the number; any other number refuses nothing
named : ℕ → Result Unit Refusal
named n =
    cond (eqb n 1) (Err BadSizes)
    (cond (eqb n 2) (Err Short)
    (cond (eqb n 3) (Err UnknownKind)
    (cond (eqb n 4) (Err NoWorker)
    (cond (eqb n 5) (Err InRecovery)
    (cond (eqb n 6) (Err OutsideRecovery)
    (cond (eqb n 7) (Err OwnsSomething)
    (cond (eqb n 8) (Err NotBuilding)
    (cond (eqb n 9) (Err NoneQualifies)
    (cond (eqb n 10) (Err NoAddress)
    (cond (eqb n 11) (Err TooLarge)
    (cond (eqb n 12) (Err FifthWord)
    (cond (eqb n 13) (Err AlreadyAdded)
    (cond (eqb n 14) (Err NotThere)
    (cond (eqb n 15) (Err CountZero)
    (cond (eqb n 16) (Err RunsNothing)
    (cond (eqb n 17) (Err NoDescriptor) (Ok tt)))))))))))))))))

named_refused : (r : Result Unit Refusal) → named (refused r) ≡ r
unfolding named
named_refused (Ok u) = refl
named_refused (Err BadSizes) = refl
named_refused (Err Short) = refl
named_refused (Err UnknownKind) = refl
named_refused (Err NoWorker) = refl
named_refused (Err InRecovery) = refl
named_refused (Err OutsideRecovery) = refl
named_refused (Err OwnsSomething) = refl
named_refused (Err NotBuilding) = refl
named_refused (Err NoneQualifies) = refl
named_refused (Err NoAddress) = refl
named_refused (Err TooLarge) = refl
named_refused (Err FifthWord) = refl
named_refused (Err AlreadyAdded) = refl
named_refused (Err NotThere) = refl
named_refused (Err CountZero) = refl
named_refused (Err RunsNothing) = refl
named_refused (Err NoDescriptor) = refl

pub refused_once : (r s : Result Unit Refusal) (n : ℕ) → refused r ≡ n → refused s ≡ n → r ≡ s
refused_once r s n e f = sym (named_refused r) ∙ (ap named e ∙ (sym (ap named f) ∙ named_refused s))
