use Rattle.std.proofs.Common.{◌≡◌, ◌-◌, drop}
use Rattle.play.specs.Tick.{play_of}
use Rattle.play.specs.Done.{done_from, played_into}
use Rattle.play.proofs.run.play.Given as goal

abbrev pub invariant-loop : goal.invariant-loop
invariant-loop l =
    done_from l.out l.p.written l.p.used (play_of (l.end - l.counter) l.m l.p.stage (drop l.p.used l.input)) ≡ played_into l.initial.m l.initial.p.stage l.input l.initial.out
