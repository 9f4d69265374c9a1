use Rattle.image.specs.Claims.{Marked}
use Rattle.image.proofs.claim.claimed.Given as goal

abbrev pub invariant-loop-d : goal.invariant-loop-d
invariant-loop-d l = Marked l.sizes.words l.d l.image l.marks
