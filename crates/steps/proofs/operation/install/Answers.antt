use Rattle.std.proofs.Common.{rules}
use Rattle.steps.specs.Operation.{install}
use Rattle.steps.proofs.operation.install.Goals as goal

pub returns : goal.returns
unfolding install
returns c = search rules
