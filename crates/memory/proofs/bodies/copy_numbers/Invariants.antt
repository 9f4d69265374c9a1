use mathlib.Core.Path.{◌≡◌}
use Rattle.memory.specs.Content.{copied}
use Rattle.memory.proofs.bodies.copy_numbers.Given as goal

abbrev pub invariant-loop-i : goal.invariant-loop-i
invariant-loop-i l = l.m ≡ copied l.initial.m l.from l.to l.i
