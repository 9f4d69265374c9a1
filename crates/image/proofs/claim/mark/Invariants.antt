use Rattle.image.specs.Claims.{MarkedBy}
use Rattle.image.proofs.claim.mark.Given as goal

abbrev pub invariant-loop-i : goal.invariant-loop-i
invariant-loop-i l = MarkedBy l.initial.marks l.marks l.image l.part l.d l.i
