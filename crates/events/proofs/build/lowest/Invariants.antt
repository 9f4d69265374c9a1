use Rattle.std.proofs.Common.{◌≡◌, None}
use Rattle.events.specs.Build.{lowest_below}
use Rattle.events.proofs.build.lowest.Given as goal

abbrev pub invariant-loop-d : goal.invariant-loop-d
invariant-loop-d l = lowest_below l.m l.d ≡ None
