-- A field that is no word, status or body: what a step, an opening and recovery change does not touch it, unless it is the worker's row or recovery's place.
use Rattle.std.specs.Prelude.{◌≡◌, ℕ, None, Option, Some}
use Rattle.steps.specs.declared.Worker.{Worker}
use Rattle.steps.specs.declared.Worker.TheVariants.{Idle, Building, Working, Reading, ReadClear}
use Rattle.steps.specs.declared.RecoveryPlace.{RecoveryPlace}
use Rattle.steps.specs.declared.RecoveryPlace.TheVariants.{Outside, At}
use Rattle.steps.specs.declared.Effect.{Effect}
use Rattle.steps.specs.declared.Effect.TheVariants.{Nothing, StoreWord, BackWord, StoreStatus, BackStatus, BackBody}
use Rattle.memory.specs.declared.Copy.{Copy}
use Rattle.memory.specs.declared.Copy.TheVariants.{Cached, Persisted}
use Rattle.memory.specs.Block.{Block, Field}
use Rattle.memory.specs.Block.Field.{word, status, recovery}
use Rattle.memory.specs.Content.{word_in}
use Rattle.machine.specs.Step.{plan_at}
use Rattle.machine.specs.Recover.{recovery_plan_at}
use Rattle.machine.specs.Kept.{NotWorker, NotBody, SparedBy, SparedByStep, SparedByOpen, SparedByRecovery}
use Rattle.ledger.specs.Rules.{read_plan, read_clear_plan}

pub record Apart (f : Field) : Type 0 where
  pub words : (c : Copy) (a : ℕ) → word c a ≡ f → ⊥
  pub statuses : (c : Copy) (d : ℕ) → status c d ≡ f → ⊥
  pub bodies : (c : Copy) (d : ℕ) → NotBody c d f

module _ (f : Field) (apart : Apart f) where
  effect_spares : (d : ℕ) (e : Effect) → SparedBy d e f
  effect_spares d Nothing = tt
  effect_spares d (StoreWord a s) = apart.words Cached a
  effect_spares d (BackWord a) = apart.words Persisted a
  effect_spares d (StoreStatus s) = apart.statuses Cached d
  effect_spares d BackStatus = apart.statuses Persisted d
  effect_spares d BackBody = apart.bodies Persisted d

  pub step_spares : (m : Block) (w : ℕ) (x : Worker) → NotWorker w f → SparedByStep m w x f
  step_spares m w Idle n = tt
  step_spares m w (Building d) n = tt
  step_spares m w (Working o d p) n = (effect_spares d (plan_at m w o d p).effect, n)
  step_spares m w (Reading a) n = (effect_spares 0 (read_plan a (word_in Cached m a)).effect, n)
  step_spares m w (ReadClear a v) n = (effect_spares 0 (read_clear_plan a v (word_in Cached m a)).effect, n)

  pub open_spares : (w : ℕ) (g : Option ℕ) → NotWorker w f → SparedByOpen w g f
  open_spares w (Some d) n = (apart.bodies Cached d, n)
  open_spares w None n = tt

  pub recovery_spares : (m : Block) (p : RecoveryPlace) → ((j : ℕ) → recovery j ≡ f → ⊥) → SparedByRecovery m p f
  recovery_spares m Outside n = tt
  recovery_spares m (At d t) n = (effect_spares d (recovery_plan_at m d t).effect, n)
