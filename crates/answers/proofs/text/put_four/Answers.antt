use Rattle.answers.proofs.TextLaws.{four_places}
use Rattle.std.proofs.Common.{rules}
use Rattle.answers.proofs.text.put_four.Goals as goal

pub returns : goal.returns
returns c = search (rules, four_places)
