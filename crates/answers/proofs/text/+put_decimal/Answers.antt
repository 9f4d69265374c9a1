use Rattle.std.proofs.Common.{rules}
use Rattle.answers.proofs.TextLaws.{groups}
use Rattle.answers.proofs.text.+put_decimal.Goals as goal

pub returns-then-n-lt100000000 : goal.returns-then-n-lt100000000
returns-then-n-lt100000000 t c = search (rules, groups)

pub returns : goal.returns
returns t c = search (rules, groups)
