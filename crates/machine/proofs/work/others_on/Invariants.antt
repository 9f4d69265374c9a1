use Rattle.std.proofs.Common.{◌≡◌, false}
use Rattle.machine.specs.Step.{others_on}
use Rattle.machine.proofs.work.others_on.Given as goal

abbrev pub invariant-loop-v : goal.invariant-loop-v
invariant-loop-v l = others_on l.m l.w l.d l.v ≡ false
