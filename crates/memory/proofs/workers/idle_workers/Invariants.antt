use mathlib.Core.Path.{◌≡◌}
use Rattle.memory.specs.Content.{idled}
use Rattle.memory.proofs.workers.idle_workers.Given as goal

abbrev pub invariant-loop-w : goal.invariant-loop-w
invariant-loop-w l = l.m ≡ idled l.initial.m l.w
