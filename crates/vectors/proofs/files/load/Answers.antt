use Rattle.std.proofs.Common.{rules}
use Rattle.vectors.proofs.files.load.Goals as goal

pub returns : goal.returns
returns g c = search rules
