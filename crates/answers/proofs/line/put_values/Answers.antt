use Rattle.std.proofs.Common.{rules}
use Rattle.answers.proofs.LineLaws.{values_next}
use Rattle.answers.proofs.line.put_values.Goals as goal

pub loop-a-preserved : goal.loop-a-preserved
loop-a-preserved c = search (rules, values_next)
