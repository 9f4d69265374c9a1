-- Records 0B and 0C: the crash, and one step of recovery (the paper's section 4.4).
use Rattle.std.specs.Prelude.{cond, ℕ, suc, ◌/◌, ltb, None, Option, Some}
use Rattle.steps.specs.declared.RecoveryPlace.{RecoveryPlace}
use Rattle.steps.specs.declared.RecoveryPlace.TheVariants.{Outside, At}
use Rattle.steps.specs.Recovery.{recovery_plan}
use Rattle.memory.specs.declared.Copy.TheVariants.{Persisted}
use Rattle.memory.specs.Block.{Block}
use Rattle.memory.specs.Content.{crash_copied, idled, put_recovery}
use Rattle.events.specs.declared.Answer.{Answer}
use Rattle.events.specs.declared.Answer.TheVariants.{Recovering, Recovered, Refused}
use Rattle.events.specs.Left.{Left, left}
use Rattle.machine.specs.Step.{seen_in, performed}
use Rattle.steps.specs.declared.Plan.{Plan}

-- cached becomes persisted, all workers idle, recovery begins at descriptor 0
unfoldable pub crashed : Block → Block
crashed m = put_recovery (idled (crash_copied m) 8) (At 0 0)

-- the descriptor after d, of k
unfoldable pub visit_after : ℕ → ℕ → RecoveryPlace
visit_after d k = cond (ltb (suc d) k) (At (suc d) 0) Outside

-- where recovery stands after a step at d
abbrev pub place_after : ℕ → ℕ → Option ℕ → RecoveryPlace
place_after k d (Some s) = At d s
place_after k d None = visit_after d k

-- Z on the very last step
abbrev pub recovery_answer : RecoveryPlace → Answer
recovery_answer Outside = Recovered
recovery_answer (At d s) = Recovering

unfoldable pub recovery_plan_at : Block → ℕ → ℕ → Plan (Option ℕ)
recovery_plan_at m d s = recovery_plan d s (seen_in Persisted m d (s / 2))

abbrev pub recovery_out : Block → ℕ → ℕ → Plan (Option ℕ) → Left
recovery_out m k d q = left (put_recovery (performed m d q.effect) (place_after k d q.next)) (recovery_answer (place_after k d q.next))

-- one step at descriptor d of k, s of its steps done
unfoldable pub recovery_step_at : Block → ℕ → ℕ → ℕ → Left
recovery_step_at m k d s = recovery_out m k d (recovery_plan_at m d s)

-- (outside recovery, the table has refused 6 before)
abbrev pub recover_of : Block → ℕ → RecoveryPlace → Left
recover_of m k Outside = left m (Refused 6)
recover_of m k (At d s) = recovery_step_at m k d s
