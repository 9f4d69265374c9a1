use Rattle.std.proofs.Common.{◌≡◌, false}
use Rattle.events.specs.Build.{owned_below}
use Rattle.events.proofs.build.owned.Given as goal

abbrev pub invariant-loop-w : goal.invariant-loop-w
invariant-loop-w l = owned_below l.m l.d l.w ≡ false
