use Rattle.std.proofs.Common.{◌≡◌, take}
use Rattle.answers.specs.Put.{filled, put_of}
use Rattle.answers.proofs.text.put_text.Given as goal

abbrev pub invariant-loop-b : goal.invariant-loop-b
invariant-loop-b l = filled l.out l.to ≡ put_of l.initial.out l.at (take l.b-index l.text)
