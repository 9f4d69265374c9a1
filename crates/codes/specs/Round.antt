-- Decoding what was encoded gives it back.
use Rattle.std.specs.Prelude.{◌≡◌, refl, Bool, true, false, cond, ℕ, eqb}
use Rattle.std.proofs.Common.{arith}
use borrow.Author.Tests.{eqb-true}
use Rattle.word.specs.declared.Outcome.TheVariants.{Succeeded, Failed}
use Rattle.steps.specs.declared.Place.{Place}
use Rattle.steps.specs.declared.Place.TheVariants.{BackBody, StoreUndecided, BackUndecided, Install, InstallClear, Persist, PersistClear, Decide, Settle, SettleClear, Swap, SwapBack, SwapClear, StoreFree, BackFree}
use Rattle.steps.specs.declared.Own.TheVariants.{Operation, Read}
use Rattle.steps.specs.declared.Worker.{Worker}
use Rattle.steps.specs.declared.Worker.TheVariants.{Idle, Building, Working, Reading, ReadClear}
use Rattle.steps.specs.declared.RecoveryPlace.{RecoveryPlace}
use Rattle.steps.specs.declared.RecoveryPlace.TheVariants.{Outside, At}
use Rattle.codes.specs.declared.Row.{Row}
use Rattle.codes.specs.Place.{place_of, place_number, place_entry, place_noted}
use Rattle.codes.specs.Row.{place_in, own_in, is_working, worker_of, row_of, recovery_of, recovery_row}

pub place_round : (p : Place) → place_of (place_number p) (place_entry p) (place_noted p) ≡ p
unfolding place_of
place_round BackBody = refl
place_round StoreUndecided = refl
place_round BackUndecided = refl
place_round (Install i) = refl
place_round (InstallClear i v) = refl
place_round (Persist i) = refl
place_round (PersistClear i) = refl
place_round (Decide Succeeded) = refl
place_round (Decide Failed) = refl
place_round Settle = refl
place_round SettleClear = refl
place_round (Swap i) = refl
place_round (SwapBack i) = refl
place_round (SwapClear i) = refl
place_round StoreFree = refl
place_round (BackFree Succeeded) = refl
place_round (BackFree Failed) = refl

pub worker_round : (x : Worker) → worker_of (row_of x) ≡ x
unfolding worker_of
worker_round Idle = refl
worker_round (Building d) = refl
worker_round (Working (Operation d) e p) = rw place_round
worker_round (Working (Read a) e p) = rw place_round
worker_round (Reading a) = refl
worker_round (ReadClear a v) = refl

never : {A : Type 0} → false ≡ true → A
never e = let z : ◌≡◌ {A = ℕ} 0 1 = cc in absurd (omega arith)

-- a row that runs an operation, read in its parts
module _ (r : Row) where
  by_tags : (a b c d e : Bool) → (b ≡ true → c ≡ false)
      → is_working (cond a (Building r.own) (cond b (Working (Operation r.own) r.job (place_in r)) (cond c (Working (Read r.own) r.job (place_in r)) (cond d (Reading r.own) (cond e (ReadClear r.own r.noted) Idle))))) ≡ true
      → cond a (Building r.own) (cond b (Working (Operation r.own) r.job (place_in r)) (cond c (Working (Read r.own) r.job (place_in r)) (cond d (Reading r.own) (cond e (ReadClear r.own r.noted) Idle))))
      ≡ Working (cond c (Read r.own) (Operation r.own)) r.job (place_in r)
  by_tags true b c d e h w = never w
  by_tags false true c d e h w = rw (h refl)
  by_tags false false true d e h w = refl
  by_tags false false false true e h w = never w
  by_tags false false false false true h w = never w
  by_tags false false false false false h w = never w

  pub working_row : is_working (worker_of r) ≡ true → worker_of r ≡ Working (own_in r) r.job (place_in r)
  unfolding worker_of
  working_row w = by_tags (eqb r.tag 1) (eqb r.tag 2) (eqb r.tag 3) (eqb r.tag 4) (eqb r.tag 5) (λ e. let k : r.tag ≡ 2 = eqb-true r.tag 2 e in simp k) w

pub recovery_round : (p : RecoveryPlace) → recovery_of (recovery_row p) ≡ p
unfolding recovery_of
recovery_round Outside = refl
recovery_round (At d s) = refl
