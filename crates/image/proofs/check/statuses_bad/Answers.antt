use Rattle.std.proofs.Common.{rules}
use Rattle.std.proofs.Math.Path.{refl}
use borrow.Author.Tests.{tests}
use Rattle.image.proofs.AnyLaws.{any_below}
use Rattle.image.proofs.check.statuses_bad.Goals as goal

pub returns : goal.returns
returns c = any_below _ _ _ _ _ _ refl c.any.ensures.ran (λ x b q k. search (rules, tests))
