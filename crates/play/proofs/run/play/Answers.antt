use Rattle.play.proofs.RunLaws.{goes_in, goes-on, goes_no_further, goes_out}
use Rattle.play.specs.Room.{progress_fits}
use Rattle.std.proofs.Common.{rules}
use Rattle.play.proofs.run.play.Goals as goal

pub loop-init : goal.loop-init
loop-init c = search (rules, goes_in)

pub loop-preserved : goal.loop-preserved
loop-preserved c = search (rules, goes-on)

pub returns-then-p-used-clause-played : goal.returns-then-p-used-clause-played
returns-then-p-used-clause-played c = search (rules, goes_no_further)

pub returns-then-p-used-clause-inside : goal.returns-then-p-used-clause-inside
returns-then-p-used-clause-inside c = progress_fits _ _ _ _ _ _ _ (returns-then-p-used-clause-played c)

pub returns-clause-played : goal.returns-clause-played
returns-clause-played c = search (rules, goes_out)

pub returns-clause-inside : goal.returns-clause-inside
returns-clause-inside c = progress_fits _ _ _ _ _ _ _ (returns-clause-played c)
