use Rattle.std.proofs.Common.{◌<◌}
use Rattle.bench.proofs.number_in.Given as goal

abbrev pub invariant-loop-b : goal.invariant-loop-b
invariant-loop-b l = l.n < 1000000000
