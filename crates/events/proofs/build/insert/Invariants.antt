use Rattle.std.proofs.Common.{◌≡◌}
use Rattle.events.specs.Build.{inserted}
use Rattle.events.proofs.build.insert.Given as goal

abbrev pub invariant-loop-i : goal.invariant-loop-i
invariant-loop-i l = inserted l.i l.m l.d l.e ≡ inserted l.count l.initial.m l.d l.e
