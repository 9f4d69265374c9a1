use Rattle.std.proofs.Common.{rules}
use Rattle.image.proofs.ClaimLaws.{claimed_first, live_few, live_small, claimed_free, claimed_live}
use Rattle.image.proofs.claim.claimed.Goals as goal
use Rattle.image.proofs.claim.claimed.Goals.{then-not-is_free, else-not-is_free}

pub loop-d-init : goal.loop-d-init
loop-d-init c = claimed_first _ _

pub mark-requires : goal.mark-requires
mark-requires c = ((search rules, search (rules, live_few)), search (rules, live_small))

pub loop-d-preserved : goal.loop-d-preserved
loop-d-preserved c =
    elim c.if-not-is_free.branch [ then-not-is_free w ↦ rw w.marks-is (search (rules, claimed_live)) | else-not-is_free w ↦ rw w.marks-is (search (rules, claimed_free)) ]
