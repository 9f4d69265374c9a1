use Rattle.std.proofs.Common.{length, ◌-◌, ◌≤◌}
use Rattle.drive.specs.Playing.{Calls}
use Rattle.drive.proofs.player.Player.play_all.Given as goal

abbrev pub invariant-loop-used : goal.invariant-loop-used
invariant-loop-used g l = (l.used ≤ length l.input) × Calls g.Self.Player.plays l.fn.self l.input l.self l.used

abbrev pub decreases-loop-used : goal.decreases-loop-used
decreases-loop-used g l = length l.input - l.used
