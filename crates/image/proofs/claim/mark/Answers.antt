use Rattle.std.proofs.Common.{rules}
use Rattle.image.proofs.ClaimLaws.{marks_first, marks_set, marks_kept, address_small}
use Rattle.image.proofs.claim.mark.Goals as goal
use Rattle.image.proofs.claim.mark.Goals.{then-points_to, else-points_to}

pub loop-i-init : goal.loop-i-init
loop-i-init c = search (rules, marks_first)

pub loop-i-preserved : goal.loop-i-preserved
loop-i-preserved c =
    elim c.if-points_to.branch [ then-points_to w ↦ rw w.marks-is (search (rules, marks_set, address_small)) | else-points_to w ↦ rw w.marks-is (search (rules, marks_kept)) ]
