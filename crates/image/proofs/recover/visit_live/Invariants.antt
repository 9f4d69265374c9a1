use Rattle.image.proofs.VisitLaws.{Going}
use Rattle.image.proofs.recover.visit_live.Given as goal

abbrev pub invariant-loop-i : goal.invariant-loop-i
invariant-loop-i l = Going l.sizes.words l.d l.allowance l.status l.initial.image l.image l.count l.i l.left
