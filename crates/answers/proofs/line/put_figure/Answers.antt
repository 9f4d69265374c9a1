use Rattle.answers.proofs.TextLaws.{joined}
use Rattle.std.proofs.Common.{rules}
use Rattle.answers.proofs.line.put_figure.Goals as goal

pub returns : goal.returns
returns c = search (rules, joined)
