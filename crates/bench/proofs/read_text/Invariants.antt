use Rattle.std.proofs.Common.{◌-◌, ◌≤◌}
use Rattle.bench.proofs.read_text.Given as goal

abbrev pub invariant-loop-n : goal.invariant-loop-n
invariant-loop-n g l = l.n ≤ 32

abbrev pub decreases-loop-n : goal.decreases-loop-n
decreases-loop-n g l = 32 - l.n
