-- A step of the block is a turn of the machine on cells, with the same answer.
use Rattle.std.specs.Prelude.{◌≡◌, refl, ◌≢◌, Bool, false, not, ◌&&◌, ◌||◌, ℕ, zero, suc, ◌<◌, ◌≤◌, ◌/◌, eqb, length}
use Rattle.std.proofs.Common.{sym, ap, ◌∙◌, arith, ne_eqb}
use Rattle.std.proofs.Math.Path.{subst}
use Rattle.std.proofs.Math.Decide.{ℕ_discrete, dec_lt}
use Rattle.steps.specs.declared.Place.{Place}
use Rattle.steps.specs.declared.Own.{Own}
use Rattle.steps.specs.declared.Worker.{Worker}
use Rattle.steps.specs.declared.Worker.TheVariants.{Idle, Building, Working, Reading, ReadClear}
use Rattle.steps.specs.declared.RecoveryPlace.{RecoveryPlace}
use Rattle.steps.specs.declared.RecoveryPlace.TheVariants.{Outside, At}
use Rattle.steps.specs.declared.Effect as F
use Rattle.steps.specs.declared.Effect.{Effect}
use Rattle.steps.specs.declared.Seen.{Seen}
use Rattle.steps.specs.declared.Plan.{Plan}
use Rattle.codes.specs.Place.{place_entry}
use Rattle.memory.specs.declared.Copy.TheVariants.{Cached, Persisted}
use Rattle.memory.specs.Block.{Block}
use Rattle.memory.specs.Content.{word_in, worker_in, put_worker, recovery_in, put_recovery}
use Rattle.memory.specs.Fields.{Whole}
use Rattle.events.specs.declared.Event.{Event}
use Rattle.events.specs.declared.Event.TheVariants.{Step, BackWord, BackStatus, BackBody, Crash, Recover}
use Rattle.events.specs.declared.Answer.TheVariants.{Ok}
use Rattle.events.specs.Left.{Left, left}
use Rattle.events.specs.Build.{owner_of}
use Rattle.machine.specs.Step.{seen_in, performed, on_job, other_on, others_on, busy_at, worker_after, answer_of, plan_at, work_step, read_after, read_answer, read_step, read_clear_step, step_of}
use Rattle.machine.specs.Whole.{performed_whole}
use Rattle.machine.specs.Recover.{crashed, place_after, recovery_answer, recovery_plan_at, recovery_step_at, recover_of}
use Rattle.image.specs.CheckLaws.{or_left, or_right}
use Rattle.ledger.specs.Rules.{plan_of, read_plan, read_clear_plan, recovery_plan}
use Rattle.ledger.specs.Cells.{cell_of, Cells, State, applied, with_cells, with_worker, with_recovery}
use Rattle.ledger.specs.View.{cells_of, view, view_put_worker, view_put_recovery}
use Rattle.ledger.specs.ViewCrash.{view_crash, past_worker}
use Rattle.ledger.specs.Seen.{Sees, block_sees}
use Rattle.ledger.specs.Fits.{CellFits, CellsFit, EffectFits, view_performed}
use Rattle.ledger.proofs.PlanFits.{Placed, plan_fits, read_fits, read_clear_fits, recovery_fits}
use Rattle.ledger.proofs.Machine.{Turn, Acts, Alone, refused, works, reads, clears, backs_word, backs_status, backs_body, crashes, recovers}
use Rattle.steps.specs.declared.Next.{Next}
use Rattle.steps.specs.declared.ReadNext.{ReadNext}

-- what an event leaves is a turn
abbrev pub Follows : ℕ → ℕ → Block → Event → Left → Type 0
Follows n k m e l = Turn n k (view m) e (view l.memory) l.answer

-- a worker's numbers are in range: its job below k, at an entry below the count; its address below n
abbrev pub WorkerFits : ℕ → ℕ → Cells → Worker → Type 0
WorkerFits n k M Idle = Unit {0}
WorkerFits n k M (Building d) = d < k
WorkerFits n k M (Working o e p) = (e < k) × Placed p (length (M.body Cached e))
WorkerFits n k M (Reading a) = a < n
WorkerFits n k M (ReadClear a v) = a < n

pub or_no : (s t : Bool) → (s || t) ≡ false → (s ≡ false) × (t ≡ false)
or_no s t e = (or_left s t e, or_right s t e)

-- none of the first workers is on d, but w
others_no : (m : Block) (w d i : ℕ) → others_on m w d i ≡ false → (v : ℕ) → v < i → v ≢ w → on_job (worker_in m v) d ≡ false
unfolding others_on other_on
others_no m w d zero e v l q = absurd (omega arith)
others_no m w d (suc i) e v l q =
    let z = or_no (others_on m w d i) (not (eqb i w) && on_job (worker_in m i) d) e in
    elim (ℕ_discrete v i) [
      | yes p ↦ (let y : eqb i w ≡ false = ne_eqb i w (λ r. q (p ∙ r)) in let f : (not (eqb i w) && on_job (worker_in m i) d) ≡ false = z.1 in rw p (rw y at f))
      | no p ↦ others_no m w d i z.0 v (omega arith) q
    ]

module _ (n k : ℕ) (nn : n ≤ 64) (kk : k ≤ 16) (m : Block) (h : Whole m) (fit : CellsFit n k (cells_of m)) where
  -- an effect, and then the worker; and then recovery's place
  acted_view : (d : ℕ) (e : Effect) (w : ℕ) (x : Worker) → d < k → EffectFits n k e → w < 8
      → view (put_worker (performed m d e) w x) ≡ with_worker (with_cells (view m) (applied (cells_of m) d e)) w x
  acted_view d e w x dk f l = view_put_worker (performed m d e) (performed_whole m d e h) w x l
      ∙ ap (λ (s : State). with_worker s w x) (view_performed n k nn kk m h d dk e f)

  recovered_view : (d : ℕ) (e : Effect) (p : RecoveryPlace) → d < k → EffectFits n k e
      → view (put_recovery (performed m d e) p) ≡ with_recovery (with_cells (view m) (applied (cells_of m) d e)) p
  recovered_view d e p dk f = view_put_recovery (performed m d e) (performed_whole m d e h) p
      ∙ ap (λ (s : State). with_recovery s p) (view_performed n k nn kk m h d dk e f)

  module _ (w : ℕ) (wl : w < 8) (out : recovery_in m ≡ Outside) where
    acts : (x : Worker) → worker_in m w ≡ x → Acts n k (view m) w x
    acts x e = record { below = wl; outside = out; is = e }

    work_follows : (o : Own) (d : ℕ) (p : Place) → worker_in m w ≡ Working o d p → d < k → Placed p (length ((cells_of m).body Cached d)) → Follows n k m (Step w) (work_step m w o d p)
    unfolding work_step plan_at
    work_follows o d p e dk l = subst (λ (s : State). Turn n k (view m) (Step w) s (answer_of q.next))
        (sym (acted_view d q.effect w (worker_after o d p q.next) dk (plan_fits n k (cells_of m) fit d dk p x sees l (busy_at m w d p) (owner_of o d)).0 wl))
        (works w o d p x (busy_at m w d p) (acts (Working o d p) e) sees alone)
      where
        x : Seen
        x = seen_in Cached m d (place_entry p)

        sees : Sees (cells_of m) Cached d (place_entry p) x
        sees = block_sees Cached m d (place_entry p)

        q : Plan Next
        q = plan_of p d x (busy_at m w d p) (owner_of o d)

        alone : Alone (view m) w d p (busy_at m w d p)
        alone t b v r = elim (dec_lt v 8) [
          | yes j ↦ others_no m w d 8 (rw t at b) v j r
          | no j ↦ rw (past_worker m v (omega arith))
        ]

    -- a read: its effect names its own word alone
    module _ (kp : 0 < k) (a : ℕ) (an : a < n) where
      word_fits : CellFits n k (cell_of (word_in Cached m a))
      word_fits = fit.word Cached a

      read_follows : worker_in m w ≡ Reading a → Follows n k m (Step w) (read_step m w a)
      unfolding read_step
      read_follows e = subst (λ (s : State). Turn n k (view m) (Step w) s (read_answer q.next))
          (sym (acted_view 0 q.effect w (read_after a q.next) kp (read_fits n k a an (word_in Cached m a) word_fits).0 wl))
          (reads w a (word_in Cached m a) (acts (Reading a) e) refl)
        where
          q : Plan ReadNext
          q = read_plan a (word_in Cached m a)

      clear_follows : (v : ℕ) → worker_in m w ≡ ReadClear a v → Follows n k m (Step w) (read_clear_step m w a v)
      unfolding read_clear_step
      clear_follows v e = subst (λ (s : State). Turn n k (view m) (Step w) s (read_answer q.next))
          (sym (acted_view 0 q.effect w (read_after a q.next) kp (read_clear_fits n k a an v (word_in Cached m a) word_fits).0 wl))
          (clears w a v (word_in Cached m a) (acts (ReadClear a v) e) refl)
        where
          q : Plan ReadNext
          q = read_clear_plan a v (word_in Cached m a)

    -- record 07
    pub step_follows : 0 < k → (x : Worker) → worker_in m w ≡ x → WorkerFits n k (cells_of m) x → Follows n k m (Step w) (step_of m w x)
    step_follows kp Idle e f = refused (Step w) 16
    step_follows kp (Building d) e f = refused (Step w) 16
    step_follows kp (Working o d p) e f = work_follows o d p e f.0 f.1
    step_follows kp (Reading a) e f = read_follows kp a f e
    step_follows kp (ReadClear a v) e f = clear_follows kp a f v e

  -- records 08 to 0B
  pub back_word_follows : 0 < k → (a : ℕ) → a < n → Follows n k m (BackWord a) (left (performed m 0 (F.TheVariants.BackWord a)) Ok)
  back_word_follows kp a an = subst (λ (s : State). Turn n k (view m) (BackWord a) s Ok) (sym (view_performed n k nn kk m h 0 kp (F.TheVariants.BackWord a) an)) (backs_word a an)

  pub back_status_follows : (d : ℕ) → d < k → Follows n k m (BackStatus d) (left (performed m d F.TheVariants.BackStatus) Ok)
  back_status_follows d dk = subst (λ (s : State). Turn n k (view m) (BackStatus d) s Ok) (sym (view_performed n k nn kk m h d dk F.TheVariants.BackStatus tt)) (backs_status d dk)

  pub back_body_follows : (d : ℕ) → d < k → Follows n k m (BackBody d) (left (performed m d F.TheVariants.BackBody) Ok)
  back_body_follows d dk = subst (λ (s : State). Turn n k (view m) (BackBody d) s Ok) (sym (view_performed n k nn kk m h d dk F.TheVariants.BackBody tt)) (backs_body d dk)

  pub crash_follows : Follows n k m Crash (left (crashed m) Ok)
  crash_follows = subst (λ (s : State). Turn n k (view m) Crash s Ok) (sym (view_crash m h)) crashes

  -- record 0C
  pub recovery_follows : (p : RecoveryPlace) → recovery_in m ≡ p → ((d t : ℕ) → p ≡ At d t → d < k) → Follows n k m Recover (recover_of m k p)
  unfolding recovery_step_at recovery_plan_at
  recovery_follows Outside e b = refused Recover 6
  recovery_follows (At d t) e b = subst (λ (s : State). Turn n k (view m) Recover s (recovery_answer (place_after k d (recovery_plan d t x).next)))
      (sym (recovered_view d (recovery_plan d t x).effect (place_after k d (recovery_plan d t x).next) (b d t refl)
      (recovery_fits n k (cells_of m) fit d (t / 2) Persisted x sees t refl)))
      (recovers d t x e sees)
    where
      x : Seen
      x = seen_in Persisted m d (t / 2)

      sees : Sees (cells_of m) Persisted d (t / 2) x
      sees = block_sees Persisted m d (t / 2)
