use Rattle.std.proofs.Common.{rules}
use Rattle.machine.proofs.work.others_on.Goals as goal

pub returns : goal.returns
returns c = search rules
