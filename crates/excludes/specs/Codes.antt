-- The crate `codes`: what its promises rule out.
use Rattle.std.specs.Prelude.{◌≡◌, refl, ◌≢◌, true, false, ℕ}
use Rattle.word.specs.declared.Outcome.TheVariants.{Succeeded, Failed}
use Rattle.steps.specs.declared.Place.{Place}
use Rattle.steps.specs.declared.Place.TheVariants.{BackBody, BackFree}
use Rattle.steps.specs.declared.Own.{Own}
use Rattle.steps.specs.declared.Own.TheVariants.{Operation, Read}
use Rattle.steps.specs.declared.Worker.{Worker}
use Rattle.steps.specs.declared.Worker.TheVariants.{Idle, Building, Working, Reading, ReadClear}
use Rattle.steps.specs.declared.RecoveryPlace.TheVariants.{Outside, At}
use Rattle.codes.specs.declared.Row.{Row}
use Rattle.codes.specs.declared.RecoveryRow.{RecoveryRow}
use Rattle.codes.specs.Row.{place_in, own_in, is_working, worker_of, row_of, row_working, recovery_of, recovery_row}
use Rattle.codes.specs.Round.{place_round, worker_round, recovery_round}
use Rattle.excludes.specs.Differ.{clash, differ, by, seen}

-- the place that a row was made from is read in it
place_again : (o : Own) (job : ℕ) (p : Place) → place_in (row_working o job p) ≡ p
place_again (Operation d) job p = place_round p
place_again (Read a) job p = place_round p

pub place_in_not_another_place : (o : Own) (job : ℕ) (p q : Place) → q ≢ p → q ≢ place_in (row_working o job p)
place_in_not_another_place o job p q n = rw (place_again o job p) n

pub place_in_not_failed_always : (o : Own) (job : ℕ) → BackFree Failed ≢ place_in (row_working o job (BackFree Succeeded))
place_in_not_failed_always o job = place_in_not_another_place o job (BackFree Succeeded) (BackFree Failed) (λ e. clash (cc))

-- a helper owns its own operation, and not the one that it helps
pub own_in_not_the_job : (d e : ℕ) (p : Place) → e ≢ d → Operation e ≢ own_in (row_working (Operation d) e p)
own_in_not_the_job d e p n q = let z : e ≡ d = cc in n z

pub own_in_not_an_operation_in_a_read : (a d e : ℕ) (p : Place) → Operation d ≢ own_in (row_working (Read a) e p)
own_in_not_an_operation_in_a_read a d e p q = clash (cc)

pub is_working_not_in_a_read : (a : ℕ) → true ≢ is_working (worker_of (row_of (Reading a)))
is_working_not_in_a_read a = rw (worker_round (Reading a)) (λ e. clash (cc))

-- a read that helps runs an operation
pub is_working_not_its_own_alone : (a e : ℕ) (p : Place) → false ≢ is_working (worker_of (row_of (Working (Read a) e p)))
is_working_not_its_own_alone a e p = rw (worker_round (Working (Read a) e p)) (λ q. clash (cc))

pub worker_of_not_idle_while_building : (d : ℕ) → Idle ≢ worker_of (row_of (Building d))
worker_of_not_idle_while_building d = rw (worker_round (Building d)) (λ e. clash (cc))

pub worker_of_not_its_own_for_its_job : (d e : ℕ) (p : Place) → d ≢ e → Working (Operation d) d p ≢ worker_of (row_of (Working (Operation d) e p))
worker_of_not_its_own_for_its_job d e p n = rw (worker_round (Working (Operation d) e p)) (λ q. let z : d ≡ e = cc in n z)

-- no two workers have one row
pub row_of_not_anothers : (x y : Worker) → x ≢ y → row_of x ≢ row_of y
row_of_not_anothers x y n = seen worker_of (worker_round x) (worker_round y) n

pub row_of_not_without_the_value_seen : (a v : ℕ) → row_of (Reading a) ≢ row_of (ReadClear a v)
row_of_not_without_the_value_seen a v = row_of_not_anothers (Reading a) (ReadClear a v) (λ e. clash (cc))

pub row_working_not_at_the_start : (o : Own) (job : ℕ) (p : Place) → BackBody ≢ p → row_working o job BackBody ≢ row_working o job p
row_working_not_at_the_start o job p n = seen place_in (place_again o job BackBody) (place_again o job p) n

pub row_working_not_its_own_for_its_job : (d e : ℕ) (p : Place) → d ≢ e → row_working (Operation d) d p ≢ row_working (Operation d) e p
row_working_not_its_own_for_its_job d e p n = by (λ (r : Row). r.job) n

pub recovery_of_not_outside_at_the_start : Outside ≢ recovery_of (recovery_row (At 0 0))
recovery_of_not_outside_at_the_start = rw (recovery_round (At 0 0)) (λ e. clash (cc))

-- the steps done are not forgotten
pub recovery_of_not_from_the_first_step : (d s : ℕ) → 0 ≢ s → At d 0 ≢ recovery_of (recovery_row (At d s))
recovery_of_not_from_the_first_step d s n = rw (recovery_round (At d s)) (λ e. let z : 0 ≡ s = cc in n z)

pub recovery_row_not_outside : (d s : ℕ) → recovery_row Outside ≢ recovery_row (At d s)
recovery_row_not_outside d s = differ (λ (r : RecoveryRow). r.on) refl

pub recovery_row_not_descriptor_and_steps_exchanged : (d s : ℕ) → s ≢ d → recovery_row (At s d) ≢ recovery_row (At d s)
recovery_row_not_descriptor_and_steps_exchanged d s n = by (λ (r : RecoveryRow). r.descriptor) n
