-- The crate `codes`: the contract of every public function, as it is written in src/, asks nothing and gives the equation.
use Rattle.codes.specs.Row.{is_working, own_in, place_in, recovery_of, recovery_row, row_of, row_working, worker_of}
use Rattle.std.specs.Prelude.{◌≡◌}
use Rattle.codes.proofs.place_in.Reads as FnPlaceIn
use Rattle.codes.proofs.is_working.Reads as FnIsWorking
use Rattle.codes.proofs.own_in.Reads as FnOwnIn
use Rattle.codes.proofs.worker_of.Reads as FnWorkerOf
use Rattle.codes.proofs.row_working.Reads as FnRowWorking
use Rattle.codes.proofs.row_of.Reads as FnRowOf
use Rattle.codes.proofs.recovery_of.Reads as FnRecoveryOf
use Rattle.codes.proofs.recovery_row.Reads as FnRecoveryRow

pub place-in : (κs r p r' : _) → FnPlaceIn.Asked κs (r, tt) × (FnPlaceIn.Learnt κs (r, tt) p (r', tt) → p ≡ place_in r)
place-in _ _ _ _ = (tt, λ given. given)

pub is-working : (κs r t r' : _) → FnIsWorking.Asked κs (r, tt) × (FnIsWorking.Learnt κs (r, tt) t (r', tt) → t ≡ is_working (worker_of r))
is-working _ _ _ _ = (tt, λ given. given)

pub own-in : (κs r o r' : _) → FnOwnIn.Asked κs (r, tt) × (FnOwnIn.Learnt κs (r, tt) o (r', tt) → o ≡ own_in r)
own-in _ _ _ _ = (tt, λ given. given)

pub worker-of : (κs r x r' : _) → FnWorkerOf.Asked κs (r, tt) × (FnWorkerOf.Learnt κs (r, tt) x (r', tt) → x ≡ worker_of r)
worker-of _ _ _ _ = (tt, λ given. given)

pub row-working : (κs o job p r o' job' p' : _) → FnRowWorking.Asked κs (o, (job, (p, tt))) × (FnRowWorking.Learnt κs (o, (job, (p, tt))) r (o', (job', (p', tt))) → r ≡ row_working o job p)
row-working _ _ _ _ _ _ _ _ = (tt, λ given. given)

pub row-of : (κs x r x' : _) → FnRowOf.Asked κs (x, tt) × (FnRowOf.Learnt κs (x, tt) r (x', tt) → r ≡ row_of x)
row-of _ _ _ _ = (tt, λ given. given)

pub recovery-of : (κs s r s' : _) → FnRecoveryOf.Asked κs (s, tt) × (FnRecoveryOf.Learnt κs (s, tt) r (s', tt) → r ≡ recovery_of s)
recovery-of _ _ _ _ = (tt, λ given. given)

pub recovery-row : (κs p r p' : _) → FnRecoveryRow.Asked κs (p, tt) × (FnRecoveryRow.Learnt κs (p, tt) r (p', tt) → r ≡ recovery_row p)
recovery-row _ _ _ _ = (tt, λ given. given)
