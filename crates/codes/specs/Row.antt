-- A worker as the six numbers of its row, recovery's place as three.
use Rattle.std.specs.Prelude.{Bool, true, false, cond, ℕ, eqb}
use Rattle.steps.specs.declared.Place.{Place}
use Rattle.steps.specs.declared.Own.{Own}
use Rattle.steps.specs.declared.Own.TheVariants.{Operation, Read}
use Rattle.steps.specs.declared.Worker.{Worker}
use Rattle.steps.specs.declared.Worker.TheVariants.{Idle, Building, Working, Reading, ReadClear}
use Rattle.steps.specs.declared.RecoveryPlace.{RecoveryPlace}
use Rattle.steps.specs.declared.RecoveryPlace.TheVariants.{Outside, At}
use Rattle.codes.specs.declared.Row.{Row}
use Rattle.codes.specs.declared.RecoveryRow.{RecoveryRow}
use Rattle.codes.specs.Place.{place_of, place_number, place_entry, place_noted}

abbrev pub place_in : Row → Place
place_in r = place_of r.place r.entry r.noted

-- what a worker owns that runs an operation
abbrev pub own_in : Row → Own
own_in r = cond (eqb r.tag 3) (Read r.own) (Operation r.own)

-- the worker runs an operation, its own or another's
abbrev pub is_working : Worker → Bool
is_working Idle = false
is_working (Building d) = false
is_working (Working o e p) = true
is_working (Reading a) = false
is_working (ReadClear a v) = false

-- any other tag reads as an idle worker
unfoldable pub worker_of : Row → Worker
worker_of r =
    cond (eqb r.tag 1) (Building r.own)
    (cond (eqb r.tag 2) (Working (Operation r.own) r.job (place_in r))
    (cond (eqb r.tag 3) (Working (Read r.own) r.job (place_in r))
    (cond (eqb r.tag 4) (Reading r.own)
    (cond (eqb r.tag 5) (ReadClear r.own r.noted) Idle))))

abbrev pub row_bare : ℕ → ℕ → ℕ → Row
row_bare k o v = record { tag = k; own = o; job = 0; place = 0; entry = 0; noted = v }

abbrev pub row_at : ℕ → ℕ → ℕ → Place → Row
row_at k o j p = record { tag = k; own = o; job = j; place = place_number p; entry = place_entry p; noted = place_noted p }

abbrev pub row_working : Own → ℕ → Place → Row
row_working (Operation d) e p = row_at 2 d e p
row_working (Read a) e p = row_at 3 a e p

abbrev pub row_of : Worker → Row
row_of Idle = row_bare 0 0 0
row_of (Building d) = row_bare 1 d 0
row_of (Working o e p) = row_working o e p
row_of (Reading a) = row_bare 4 a 0
row_of (ReadClear a v) = row_bare 5 a v

unfoldable pub recovery_of : RecoveryRow → RecoveryPlace
recovery_of s = cond (eqb s.on 0) Outside (At s.descriptor s.done)

abbrev pub recovery_row : RecoveryPlace → RecoveryRow
recovery_row Outside = record { on = 0; descriptor = 0; done = 0 }
recovery_row (At d s) = record { on = 1; descriptor = d; done = s }
