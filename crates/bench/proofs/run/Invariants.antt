use Rattle.std.proofs.Common.{◌≤◌, ◌+◌}
use Rattle.bench.proofs.run.Given as goal

abbrev pub invariant-loop : goal.invariant-loop
invariant-loop l = l.c.won + l.c.lost ≤ l.counter
