use Rattle.image.proofs.RunLaws.{refused, runs, is_good}
use Rattle.image.proofs.pmwcas_recover.Goals as goal

pub run-requires : goal.run-requires
run-requires c = let s = c.in-Ok.ensures.sizes in rw (s.0, s.1) (is_good _ _ _ c.in-Ok.ensures.refusal)

pub returns-in-Ok : goal.returns-in-Ok
returns-in-Ok c = let s = c.in-Ok.ensures.sizes in runs _ _ _ c.in-Ok.ensures.refusal _ _ (rw (s.0, s.1) at c.run.ensures)

pub returns-in-Err : goal.returns-in-Err
returns-in-Err c = rw c.from.ensures (refused _ _ _ _ _ c.in-Err.ensures.refusal)
