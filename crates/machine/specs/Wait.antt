-- Document 01, 7: the owner answers W and changes nothing while another worker's current job is d.
use Rattle.std.specs.Prelude.{◌≡◌, true, ℕ}
use Rattle.std.proofs.Common.{ap}
use Rattle.steps.specs.declared.Own.{Own}
use Rattle.steps.specs.declared.Place.TheVariants.{StoreFree}
use Rattle.steps.specs.declared.Worker.TheVariants.{Working}
use Rattle.codes.specs.Row.{row_of}
use Rattle.memory.specs.Block.{Block}
use Rattle.memory.specs.Content.{row_in}
use Rattle.memory.specs.StoreLaws.{row_same}
use Rattle.events.specs.declared.Answer.TheVariants.{Waits}
use Rattle.events.specs.Left.{left}
use Rattle.machine.specs.Step.{others_on, plan_at, work_step}

-- (a worker's row is always that of a worker: every store of one goes through `put_worker`)
pub waits : (m : Block) (w : ℕ) (o : Own) (d : ℕ) → row_in m w ≡ row_of (Working o d StoreFree) → others_on m w d 8 ≡ true → work_step m w o d StoreFree ≡ left m Waits
unfolding work_step plan_at
waits m w o d e h = rw h (ap (λ (x : Block). left x Waits) (rw (← e) (row_same m w)))
