use Rattle.image.proofs.VisitLaws.{visit_free}
use Rattle.image.proofs.recover.visit_any.Goals as goal

pub returns-in-Free : goal.returns-in-Free
returns-in-Free c = visit_free _ _ _ _ _ _ c.part.ensures c.in-Free.ensures c.checked_sub.ensures
