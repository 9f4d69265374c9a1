use Rattle.answers.proofs.LineLaws.{line}
use Rattle.std.proofs.Common.{rules}
use Rattle.answers.proofs.line.put_line.Goals as goal

pub returns : goal.returns
returns c = search (rules, line)
