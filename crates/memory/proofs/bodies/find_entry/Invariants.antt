use Rattle.std.proofs.Common.{◌≡◌, ◌<◌, ℕ, false}
use Rattle.memory.specs.Value.{has_at}
use Rattle.memory.proofs.bodies.find_entry.Given as goal

abbrev pub invariant-loop-i : goal.invariant-loop-i
invariant-loop-i l = (k : ℕ) → k < l.i → has_at l.c l.m l.d l.a k ≡ false
