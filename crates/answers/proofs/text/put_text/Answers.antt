use Rattle.std.proofs.Common.{rules}
use Rattle.answers.proofs.TextLaws.{text_next}
use Rattle.answers.proofs.text.put_text.Goals as goal

pub loop-b-preserved : goal.loop-b-preserved
loop-b-preserved c = search (rules, text_next)
