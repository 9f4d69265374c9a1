use Rattle.answers.proofs.LineLaws.{last-line}
use Rattle.std.proofs.Common.{rules}
use Rattle.answers.proofs.line.put_last.Goals as goal

pub returns : goal.returns
returns c = search (rules, last-line)
