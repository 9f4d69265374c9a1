-- The crate `machine`: the contract of every public function, as it is written in src/, asks nothing and gives the equation.
use Rattle.events.specs.Left.{left}
use Rattle.machine.specs.Apply.{apply_of}
use Rattle.std.specs.Prelude.{◌≡◌}
use Rattle.machine.proofs.apply.Reads as FnApply

pub apply : (κs m e r m' e' : _) → FnApply.Asked κs (m, (e, tt)) × (FnApply.Learnt κs (m, (e, tt)) r (m', (e', tt)) → left m'.now r ≡ apply_of m.now e)
apply _ _ _ _ _ _ = (tt, λ given. given)
