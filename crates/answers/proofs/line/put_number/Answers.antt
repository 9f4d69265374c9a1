use Rattle.answers.proofs.LineLaws.{number}
use Rattle.std.proofs.Common.{rules}
use Rattle.answers.proofs.line.put_number.Goals as goal

pub returns : goal.returns
returns c = search (rules, number)
