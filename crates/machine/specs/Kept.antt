-- What an event's rule does not name is as it was: for each event, the fields that it spares.
use Rattle.std.specs.Prelude.{◌≡◌, Bool, cond, ltb}
use Rattle.std.proofs.Math.Path.{refl}
use Rattle.std.proofs.Common.{◌∙◌, None, Option, Some, ℕ}
use Rattle.std.proofs.Math.Bool.{true, false}
use Prim.Native.Nat.{ℕ, zero, suc, ◌+◌, ◌-◌}
use Rattle.steps.specs.declared.Entry.{Entry}
use Rattle.steps.specs.declared.Worker.{Worker}
use Rattle.steps.specs.declared.Worker.TheVariants.{Idle, Building, Working, Reading, ReadClear}
use Rattle.steps.specs.declared.Own.TheVariants.{Operation}
use Rattle.steps.specs.declared.Place as P
use Rattle.steps.specs.declared.Effect as E
use Rattle.steps.specs.declared.Effect.{Effect}
use Rattle.steps.specs.declared.Effect.TheVariants.{Nothing, StoreWord, StoreStatus}
use Rattle.steps.specs.declared.RecoveryPlace.{RecoveryPlace}
use Rattle.steps.specs.declared.RecoveryPlace.TheVariants.{Outside, At}
use Rattle.steps.specs.Plan.{read_plan, read_clear_plan}
use Rattle.codes.specs.Row.{row_of}
use Rattle.memory.specs.declared.Copy.{Copy}
use Rattle.memory.specs.declared.Copy.TheVariants.{Cached, Persisted}
use Rattle.memory.specs.Block.{Block, Field, get, put}
use Rattle.memory.specs.Block.Field.{word, status, body, worker, recovery}
use Rattle.memory.specs.Content.{word_in, entry_in, put_entry, count_in, crash_copied, clear_body, worker_in, put_worker, recovery_in}
use Rattle.memory.specs.Fresh.{sizes_in}
use Rattle.memory.specs.Value.{entry_for}
use Rattle.memory.specs.Fields.{get_other}
use Rattle.memory.specs.StoreLaws.{entry_other, cleared_other, row_other, idled_other, recovery_other}
use Rattle.memory.specs.CopyLaws.{body_back_other, crash_copy_other}
use Rattle.events.specs.declared.Event.{Event}
use Rattle.events.specs.declared.Event.TheVariants.{Open, Add, Remove, Submit, Discard, Read, Step, BackWord, BackStatus, BackBody, Crash, Recover}
use Rattle.events.specs.Refusal.{refusal_of}
use Rattle.events.specs.Build.{lowest_below, opened, build_of, inserted, added, no_entry, moved_down, removed_entry, removed_at}
use Rattle.machine.specs.Step.{performed, worker_after, read_after, plan_at, work_step, read_step, read_clear_step, step_of}
use Rattle.machine.specs.Recover.{crashed, place_after, recovery_plan_at, recovery_step_at, recover_of}
use Rattle.machine.specs.Apply.{acted, unless_refused, apply_of}

-- f is no number of this worker, of this body
abbrev pub NotWorker : ℕ → Field → Type 0
NotWorker w f = (j : ℕ) → worker w j ≡ f → ⊥

abbrev pub NotBody : Copy → ℕ → Field → Type 0
NotBody c d f = (j : ℕ) → body c d j ≡ f → ⊥

-- f is not what the effect of a step of d changes
abbrev pub SparedBy : ℕ → Effect → Field → Type 0
SparedBy d Nothing f = Unit
SparedBy d (StoreWord a s) f = word Cached a ≡ f → ⊥
SparedBy d (E.TheVariants.BackWord a) f = word Persisted a ≡ f → ⊥
SparedBy d (StoreStatus s) f = status Cached d ≡ f → ⊥
SparedBy d E.TheVariants.BackStatus f = status Persisted d ≡ f → ⊥
SparedBy d E.TheVariants.BackBody f = NotBody Persisted d f

-- 07: the worker, and the one effect of its plan
abbrev pub SparedByStep : Block → ℕ → Worker → Field → Type 0
SparedByStep m w Idle f = Unit
SparedByStep m w (Building d) f = Unit
SparedByStep m w (Working o e p) f = SparedBy e (plan_at m w o e p).effect f × NotWorker w f
SparedByStep m w (Reading a) f = SparedBy 0 (read_plan a (word_in Cached m a)).effect f × NotWorker w f
SparedByStep m w (ReadClear a v) f = SparedBy 0 (read_clear_plan a v (word_in Cached m a)).effect f × NotWorker w f

abbrev pub SparedByOpen : ℕ → Option ℕ → Field → Type 0
SparedByOpen w (Some d) f = NotBody Cached d f × NotWorker w f
SparedByOpen w None f = Unit

abbrev pub SparedByRecovery : Block → RecoveryPlace → Field → Type 0
SparedByRecovery m Outside f = Unit
SparedByRecovery m (At d s) f = SparedBy d (recovery_plan_at m d s).effect f × ((j : ℕ) → recovery j ≡ f → ⊥)

-- 0B: every cached word, status and body; every worker; recovery's place
pub record SparedByCrash (f : Field) : Type 0 where
  pub words : (a : ℕ) → word Cached a ≡ f → ⊥
  pub statuses : (d : ℕ) → status Cached d ≡ f → ⊥
  pub bodies : (d : ℕ) → NotBody Cached d f
  pub workers : (w j : ℕ) → worker w j ≡ f → ⊥
  pub place : (j : ℕ) → recovery j ≡ f → ⊥

-- what an event spares
abbrev pub Spared : Block → Event → Field → Type 0
Spared m (Open w) f = SparedByOpen w (lowest_below m (sizes_in m).k) f
Spared m (Add w a x y) f = NotBody Cached (build_of (worker_in m w)) f
Spared m (Remove w a) f = NotBody Cached (build_of (worker_in m w)) f
Spared m (Submit w) f = NotWorker w f
Spared m (Discard w) f = NotWorker w f
Spared m (Read w a) f = NotWorker w f
Spared m (Step w) f = SparedByStep m w (worker_in m w) f
Spared m (BackWord a) f = word Persisted a ≡ f → ⊥
Spared m (BackStatus d) f = status Persisted d ≡ f → ⊥
Spared m (BackBody d) f = NotBody Persisted d f
Spared m Crash f = SparedByCrash f
Spared m Recover f = SparedByRecovery m (recovery_in m) f

-- each effect
module _ (f : Field) where
  performed_kept : (m : Block) (d : ℕ) (e : Effect) → SparedBy d e f → get (performed m d e) f ≡ get m f
  performed_kept m d Nothing n = refl
  performed_kept m d (StoreWord a s) n = get_other m _ _ f n
  performed_kept m d (E.TheVariants.BackWord a) n = get_other m _ _ f n
  performed_kept m d (StoreStatus s) n = get_other m _ _ f n
  performed_kept m d E.TheVariants.BackStatus n = get_other m _ _ f n
  performed_kept m d E.TheVariants.BackBody n = body_back_other m d f n

  worker_kept : (m : Block) (w : ℕ) (x : Worker) → NotWorker w f → get (put_worker m w x) f ≡ get m f
  worker_kept m w x n = row_other m w (row_of x) f (λ j l. n j)

  inserted_kept : (i : ℕ) (m : Block) (d : ℕ) (e : Entry) → NotBody Cached d f → get (inserted i m d e) f ≡ get m f
  unfolding inserted
  inserted_kept zero m d e n = entry_other m d 0 e f (λ j l k. n j)
  inserted_kept (suc i) m d e n =
      go (ltb e.address (entry_in Cached m d i).address) (λ x. inserted_kept i x d e n)
    where
      go : (t : Bool) → ((x : Block) → get (inserted i x d e) f ≡ get x f)
          → get (cond t (inserted i (put_entry m d (suc i) (entry_in Cached m d i)) d e) (put_entry m d (suc i) e)) f ≡ get m f
      go true r = r (put_entry m d (suc i) (entry_in Cached m d i)) ∙ entry_other m d (suc i) (entry_in Cached m d i) f (λ j l k. n j)
      go false r = entry_other m d (suc i) e f (λ j l k. n j)

  added_kept : (m : Block) (d : ℕ) (e : Entry) → NotBody Cached d f → get (added m d e) f ≡ get m f
  unfolding added
  added_kept m d e n = go (ltb (count_in Cached m d) 4)
    where
      go : (t : Bool) → get (cond t (put (inserted (count_in Cached m d) m d e) (body Cached d 0) (count_in Cached m d + 1)) m) f ≡ get m f
      go true = get_other _ (body Cached d 0) _ f (n 0) ∙ inserted_kept (count_in Cached m d) m d e n
      go false = refl

  moved_kept : (k : ℕ) (m : Block) (d i : ℕ) → NotBody Cached d f → get (moved_down k m d i) f ≡ get m f
  unfolding moved_down
  moved_kept zero m d i n = entry_other m d i no_entry f (λ j l o. n j)
  moved_kept (suc k) m d i n =
      moved_kept k (put_entry m d i (entry_in Cached m d (suc i))) d (suc i) n
      ∙ entry_other m d i (entry_in Cached m d (suc i)) f (λ j l o. n j)

  removed_kept : (m : Block) (d : ℕ) (g : Option ℕ) → NotBody Cached d f → get (removed_at m d g) f ≡ get m f
  unfolding removed_entry
  removed_kept m d None n = refl
  removed_kept m d (Some i) n = go (ltb i (count_in Cached m d))
    where
      go : (t : Bool) → get (cond t (put (moved_down (count_in Cached m d - 1 - i) m d i) (body Cached d 0) (count_in Cached m d - 1)) m) f ≡ get m f
      go true = get_other _ (body Cached d 0) _ f (n 0) ∙ moved_kept (count_in Cached m d - 1 - i) m d i n
      go false = refl

  step_kept : (m : Block) (w : ℕ) (x : Worker) → SparedByStep m w x f → get (step_of m w x).memory f ≡ get m f
  unfolding work_step read_step read_clear_step
  step_kept m w Idle n = refl
  step_kept m w (Building d) n = refl
  step_kept m w (Working o e p) n = worker_kept _ w (worker_after o e p (plan_at m w o e p).next) n.1 ∙ performed_kept m e (plan_at m w o e p).effect n.0
  step_kept m w (Reading a) n = worker_kept _ w (read_after a (read_plan a (word_in Cached m a)).next) n.1 ∙ performed_kept m 0 (read_plan a (word_in Cached m a)).effect n.0
  step_kept m w (ReadClear a v) n = worker_kept _ w (read_after a (read_clear_plan a v (word_in Cached m a)).next) n.1 ∙ performed_kept m 0 (read_clear_plan a v (word_in Cached m a)).effect n.0

  opened_kept : (m : Block) (w : ℕ) (g : Option ℕ) → SparedByOpen w g f → get (opened m w g).memory f ≡ get m f
  opened_kept m w (Some d) n = worker_kept (clear_body m d) w (Building d) n.1 ∙ cleared_other m d 13 f n.0
  opened_kept m w None n = refl

  recovered_kept : (m : Block) (k : ℕ) (p : RecoveryPlace) → SparedByRecovery m p f → get (recover_of m k p).memory f ≡ get m f
  unfolding recovery_step_at
  recovered_kept m k Outside n = refl
  recovered_kept m k (At d s) n = recovery_other _ (place_after k d (recovery_plan_at m d s).next) f n.1 ∙ performed_kept m d (recovery_plan_at m d s).effect n.0

  crash_kept : (m : Block) → SparedByCrash f → get (crashed m) f ≡ get m f
  unfolding crashed
  crash_kept m n = recovery_other _ (At 0 0) f n.place ∙ idled_other (crash_copied m) 8 f n.workers ∙ crash_copy_other m f n.words n.statuses n.bodies

  pub acted_kept : (m : Block) (e : Event) → Spared m e f → get (acted m e).memory f ≡ get m f
  acted_kept m (Open w) n = opened_kept m w (lowest_below m (sizes_in m).k) n
  acted_kept m (Add w a x y) n = added_kept m (build_of (worker_in m w)) (record { address = a; expected = x; desired = y }) n
  acted_kept m (Remove w a) n = removed_kept m (build_of (worker_in m w)) (entry_for Cached m (build_of (worker_in m w)) a) n
  acted_kept m (Submit w) n = worker_kept m w (Working (Operation (build_of (worker_in m w))) (build_of (worker_in m w)) P.TheVariants.BackBody) n
  acted_kept m (Discard w) n = worker_kept m w Idle n
  acted_kept m (Read w a) n = worker_kept m w (Reading a) n
  acted_kept m (Step w) n = step_kept m w (worker_in m w) n
  acted_kept m (BackWord a) n = get_other m (word Persisted a) _ f n
  acted_kept m (BackStatus d) n = get_other m (status Persisted d) _ f n
  acted_kept m (BackBody d) n = body_back_other m d f n
  acted_kept m Crash n = crash_kept m n
  acted_kept m Recover n = recovered_kept m (sizes_in m).k (recovery_in m) n

  -- every field that the event spares is as it was
  pub spared_kept : (m : Block) (e : Event) → Spared m e f → get (apply_of m e).memory f ≡ get m f
  unfolding apply_of
  spared_kept m e n = go (refusal_of m e)
    where
      go : (r : ℕ) → get (unless_refused r m e).memory f ≡ get m f
      go zero = acted_kept m e n
      go (suc r) = refl
