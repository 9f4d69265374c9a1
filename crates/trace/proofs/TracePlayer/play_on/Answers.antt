use Rattle.std.proofs.Common.{rules}
use Rattle.trace.proofs.TracePlayer.play_on.Goals as goal

pub returns-then-is_half_full-clause-played : goal.returns-then-is_half_full-clause-played
returns-then-is_half_full-clause-played g c = search rules
