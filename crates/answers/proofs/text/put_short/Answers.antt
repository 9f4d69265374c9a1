use Rattle.answers.proofs.TextLaws.{one_digit, two_digits, three_digits, four_digits}
use Rattle.std.proofs.Common.{rules}
use Rattle.answers.proofs.text.put_short.Goals as goal

pub returns-then-n-lt10 : goal.returns-then-n-lt10
returns-then-n-lt10 c = search (rules, one_digit)

pub returns-then-n-lt100 : goal.returns-then-n-lt100
returns-then-n-lt100 c = search (rules, two_digits)

pub returns-then-n-lt1000 : goal.returns-then-n-lt1000
returns-then-n-lt1000 c = search (rules, three_digits)

pub returns : goal.returns
returns c = search (rules, four_digits)
