use Rattle.std.proofs.Common.{length, ◌≤◌}
use Rattle.std.specs.Prelude.{take}
use Rattle.play.specs.Reading.{over_in}
use Rattle.drive.specs.Playing.{Rounds}
use Rattle.drive.proofs.player.Player.play_input.Given as goal

abbrev pub invariant-loop : goal.invariant-loop
invariant-loop g l =
    (l.have ≤ length l.buf)
    × Rounds g.Self.Player.plays g.Self.Player.flushes (λ s. over_in (g.Self.Player.stage_of s)) l.fn.self l.counter l.self (take l.have l.buf)
