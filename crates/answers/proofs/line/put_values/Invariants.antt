use Rattle.std.proofs.Common.{◌≡◌}
use Rattle.answers.specs.Put.{filled, put_of}
use Rattle.answers.specs.Line.{spaced, values_below}
use Rattle.answers.proofs.line.put_values.Given as goal

abbrev pub invariant-loop-a : goal.invariant-loop-a
invariant-loop-a l = filled l.out l.to ≡ put_of l.initial.out l.at (spaced (values_below l.m l.a))
