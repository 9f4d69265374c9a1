use Rattle.std.proofs.Common.{◌≡◌, ◌-◌}
use Rattle.events.specs.Build.{moved_down}
use Rattle.events.proofs.build.move_down.Given as goal

abbrev pub invariant-loop-j : goal.invariant-loop-j
invariant-loop-j l = moved_down (l.j-end - l.j) l.m l.d l.j ≡ moved_down l.n l.initial.m l.d l.i
