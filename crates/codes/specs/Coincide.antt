-- For every public function: two results that keep its promise coincide.
use Rattle.std.specs.Prelude.{◌≡◌, Bool, ℕ}
use Rattle.word.specs.Coincide.{coincide}
use Rattle.steps.specs.declared.Place.{Place}
use Rattle.steps.specs.declared.Own.{Own}
use Rattle.steps.specs.declared.Worker.{Worker}
use Rattle.steps.specs.declared.RecoveryPlace.{RecoveryPlace}
use Rattle.codes.specs.declared.Row.{Row}
use Rattle.codes.specs.declared.RecoveryRow.{RecoveryRow}
use Rattle.codes.specs.Row.{place_in, own_in, is_working, worker_of, row_of, row_working, recovery_of, recovery_row}

pub place-in : (x : Row) (r s : Place) → r ≡ place_in x → s ≡ place_in x → r ≡ s
place-in x r s = coincide

pub own-in : (x : Row) (r s : Own) → r ≡ own_in x → s ≡ own_in x → r ≡ s
own-in x r s = coincide

pub is-working : (x : Row) (r s : Bool) → r ≡ is_working (worker_of x) → s ≡ is_working (worker_of x) → r ≡ s
is-working x r s = coincide

pub worker-of : (x : Row) (r s : Worker) → r ≡ worker_of x → s ≡ worker_of x → r ≡ s
worker-of x r s = coincide

pub row-of : (x : Worker) (r s : Row) → r ≡ row_of x → s ≡ row_of x → r ≡ s
row-of x r s = coincide

pub row-working : (o : Own) (job : ℕ) (p : Place) (r s : Row) → r ≡ row_working o job p → s ≡ row_working o job p → r ≡ s
row-working o job p r s = coincide

pub recovery-of : (x : RecoveryRow) (r s : RecoveryPlace) → r ≡ recovery_of x → s ≡ recovery_of x → r ≡ s
recovery-of x r s = coincide

pub recovery-row : (x : RecoveryPlace) (r s : RecoveryRow) → r ≡ recovery_row x → s ≡ recovery_row x → r ≡ s
recovery-row x r s = coincide
