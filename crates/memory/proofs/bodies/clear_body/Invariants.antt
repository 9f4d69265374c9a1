use mathlib.Core.Path.{◌≡◌}
use Rattle.memory.specs.Content.{cleared_to}
use Rattle.memory.proofs.bodies.clear_body.Given as goal

abbrev pub invariant-loop-j : goal.invariant-loop-j
invariant-loop-j l = l.m ≡ cleared_to l.j l.initial.m l.d
