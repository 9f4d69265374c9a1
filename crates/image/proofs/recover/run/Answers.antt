use Rattle.image.proofs.RunLaws.{visit_kept, goes_within, goes-on, stops, goes_out}
use Rattle.std.proofs.Common.{rules}
use Rattle.image.proofs.recover.run.Goals as goal

pub returns-in_default : goal.returns-in_default
returns-in_default c = search (rules, stops)

pub loop-d-preserved : goal.loop-d-preserved
loop-d-preserved c = (search (rules, goes_within), (search (rules, visit_kept), search (rules, goes-on)))

pub returns : goal.returns
returns c = search (rules, goes_out)
