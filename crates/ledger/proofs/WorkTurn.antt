-- A worker's step keeps the invariant of the machine.
use Rattle.std.specs.Prelude.{◌≡◌, refl, ◌≢◌, ◌⊎◌, Bool, true, false, cond, ℕ, ◌<◌}
use Rattle.std.proofs.Common.{ap, inl, inr, ⊎_elim, arith, eq-eqb}
use Rattle.word.specs.declared.Outcome.{Outcome}
use Rattle.word.specs.declared.Status.TheVariants.{Free}
use Rattle.steps.specs.declared.Place.{Place}
use Rattle.steps.specs.declared.Place.TheVariants.{BackBody, StoreUndecided, BackUndecided, Install, InstallClear, Persist, PersistClear, Decide, Settle, SettleClear, Swap, SwapBack, SwapClear, StoreFree, BackFree}
use Rattle.steps.specs.declared.Own.{Own}
use Rattle.steps.specs.declared.Own.TheVariants.{Operation, Read}
use Rattle.steps.specs.declared.Worker.{Worker}
use Rattle.steps.specs.declared.Next.{Next}
use Rattle.steps.specs.declared.Next.TheVariants.{Go, Help, Over, Wait, Answer}
use Rattle.memory.specs.declared.Copy.{Copy}
use Rattle.memory.specs.declared.Copy.TheVariants.{Cached, Persisted}
use Rattle.events.specs.Build.{owner_of}
use Rattle.machine.specs.Step.{start_of, worker_after}
use Rattle.ledger.specs.Update.{clash, upd, upd_same, upd_other}
use Rattle.ledger.specs.Cells.{Body, Cells, State, with_cells, with_worker}
use Rattle.ledger.specs.Fits.{CellsFit}
use Rattle.ledger.proofs.PlanFits.{NextFits}
use Rattle.ledger.specs.Meaning.{put_all}
use Rattle.ledger.specs.StatusRules.{fires}
use Rattle.ledger.specs.Rule.{Rule, OwnersOnly}
use Rattle.ledger.specs.Rule
use Rattle.ledger.specs.Fire.{put_below, fired_in, fired_ledger, Wrote, wrote}
use Rattle.ledger.specs.Know.{Job, Knows, at_install}
use Rattle.ledger.specs.NextKnown.{MayGo, NextKnown}
use Rattle.ledger.specs.Still.{Bodies, Begins}
use Rattle.ledger.specs.Workers.{Owns, Concerns, OnJob, OwnerKnows, OwnFits, Home, WorkKnows, WorkerKnows}
use Rattle.ledger.specs.Invariant.{AsSent, Invariant}
use Rattle.ledger.proofs.Machine.{Acts}
use Rattle.ledger.specs.Keep.{Starts, kept_bodies, others, keep_worker}

-- what is known at a shared place or at StoreFree is what the owner knows there
pub owner_knows : (n k : ℕ) (M : Cells) (In : ℕ → Bool) (D : ℕ → Type 0) (Sent : ℕ → Body) (d : ℕ) (p : Place) → OnJob n k M In D Sent d p → OwnerKnows n k M In D Sent d p
owner_knows n k M In D Sent d BackBody h = absurd h.1
owner_knows n k M In D Sent d StoreUndecided h = absurd h.1
owner_knows n k M In D Sent d BackUndecided h = absurd h.1
owner_knows n k M In D Sent d (Install i) h = h
owner_knows n k M In D Sent d (InstallClear i v) h = h
owner_knows n k M In D Sent d (Persist i) h = h
owner_knows n k M In D Sent d (PersistClear i) h = h
owner_knows n k M In D Sent d (Decide o) h = h
owner_knows n k M In D Sent d Settle h = h
owner_knows n k M In D Sent d SettleClear h = h
owner_knows n k M In D Sent d (Swap i) h = h
owner_knows n k M In D Sent d (SwapBack i) h = h
owner_knows n k M In D Sent d (SwapClear i) h = h
owner_knows n k M In D Sent d StoreFree h = h
owner_knows n k M In D Sent d (BackFree o) h = absurd h.1

-- a rule that begins an operation is its owner's
pub starts_owner : {M new : Cells} {In : ℕ → Bool} {D : ℕ → Type 0} (r : Rule M In D new) (e : ℕ) → Starts r e → OwnersOnly r e
starts_owner Rule.same e z = z
starts_owner (Rule.back-word a) e z = z
starts_owner (Rule.back-status d) e z = z
starts_owner (Rule.back-body d) e z = z
starts_owner (Rule.install d a s u h x) e z = absurd z
starts_owner (Rule.swap d a v x p w) e z = absurd z
starts_owner (Rule.decide d o u v a f) e z = z
starts_owner (Rule.clear d o x y u v) e z = z
starts_owner (Rule.store-free d n) e z = absurd z
starts_owner (Rule.store_undecided d x k b w) e z = z
starts_owner (Rule.edit d b x k) e z = absurd z

-- what a worker owns after a step is what it owned; all of it, but where it has answered
pub owned_before : (o : Own) (d : ℕ) (p : Place) (x : Next) (e : ℕ) → Owns (worker_after o d p x) e → owner_of o e ≡ true
owned_before o d p (Go q) e h = h
owned_before o d p (Help f) e h = h
owned_before (Operation f) d p Over e h = h
owned_before (Read a) d p Over e h = h
owned_before o d p Wait e h = h
owned_before o d p (Answer r) e h = clash (cc)

pub owned_after : (o : Own) (d : ℕ) (p : Place) (x : Next) (e : ℕ) → ((r : Outcome) → x ≢ Answer r) → owner_of o e ≡ true → Owns (worker_after o d p x) e
owned_after o d p (Go q) e n h = h
owned_after o d p (Help f) e n h = h
owned_after (Operation f) d p Over e n h = h
owned_after (Read a) d p Over e n h = h
owned_after o d p Wait e n h = h
owned_after o d p (Answer r) e n h = absurd (n r refl)

module _ (n k : ℕ) {s : State} {L : ℕ → ℕ} {In : ℕ → Bool} {Differed : ℕ → Type 0} {Sent : ℕ → Body} (I : Invariant n k s L In Differed Sent)
    (Differed' : ℕ → Type 0) (Sent' : ℕ → Body) (gd : (d : ℕ) → Differed d → Differed' d) (gs : (d : ℕ) → Sent' d ≡ Sent d) where
  abbrev M : Cells
  M = s.cells

  -- the ledger and the flags after an event that leaves these cells
  abbrev pub L⁺ : Cells → ℕ → ℕ
  L⁺ new = put_below k (λ d. fires (new.status Persisted d) (s.cells.status Persisted d)) (s.cells.body Persisted) L

  abbrev pub In⁺ : Cells → ℕ → Bool
  In⁺ new d = cond (fires (new.status Persisted d) (s.cells.status Persisted d)) true (In d)

  abbrev pub Goal : State → Type 0
  Goal t = Invariant n k t (L⁺ t.cells) (In⁺ t.cells) Differed' Sent' × Wrote s.cells t.cells

  -- what fires is below k
  pub below : (e : ℕ) → fires (M.status Cached e) (M.status Persisted e) ≡ true → e < k
  below e f = (I.bodies Cached e (λ z. let q : false ≡ true = rw z at f in clash (cc))).2

  module _ {new : Cells} (r : Rule M In Differed new) where
    pub gl : (a : ℕ) → L⁺ new a ≡ (Rule.fired r (λ d. put_all (M.body Persisted d) L) L) a
    gl a = ap (λ (f : ℕ → ℕ). f a) (fired_ledger M In Differed k L below r)

    pub gi : (d : ℕ) → In⁺ new d ≡ (Rule.fired r (λ d. upd In d true) In) d
    gi d = fired_in M In Differed r d

    module _ (bg : Begins I.agrees (AsSent k Sent) I.bodies r) (fit : CellsFit n k new) where
      -- worker w becomes x
      pub turn : (w : ℕ) (x y : Worker) → Acts n k s w y
          → ((d : ℕ) → Owns x d → Owns y d ⊎ ((v : ℕ) → ¬ (Owns (s.worker v) d)))
          → ((d : ℕ) → Owns y d → Owns x d ⊎ ((c : Copy) → new.status c d ≡ Free)) → ((d : ℕ) → Starts r d → Owns x d)
          → ((v d : ℕ) → v ≢ w → Concerns (s.worker v) d → ¬ (OwnersOnly r d))
          → WorkerKnows n k new (In⁺ new) Differed' Sent' x → Goal (with_worker (with_cells s new) w x)
      turn w x y a own left starts alone knows = (
        keep_worker n k I r bg fit (L⁺ new) (In⁺ new) Differed' Sent' gl gi gd gs (upd s.worker w x) w a.below a.outside (λ v q. upd_other s.worker w x v q)
            (λ d o. ⊎_elim (λ z. inl (rw a.is z)) (λ z. inr z) (own d (rw (upd_same s.worker w x) at o)))
            (λ d o. rw (upd_same s.worker w x) (left d (rw a.is at o)))
            (λ d z. rw (upd_same s.worker w x) (starts d z)) alone (rw (upd_same s.worker w x) knows),
        wrote M In Differed r,
      )

      pub bodies⁺ : Bodies (AsSent k Sent') new
      bodies⁺ = kept_bodies n k I r bg fit (L⁺ new) (In⁺ new) Differed' Sent' gl gi gd gs

      pub stays : (x : Worker) → ((d : ℕ) → Concerns x d → ¬ (OwnersOnly r d)) → WorkerKnows n k M In Differed Sent x → WorkerKnows n k new (In⁺ new) Differed' Sent' x
      stays x m h = others n k I r bg fit (L⁺ new) (In⁺ new) Differed' Sent' gl gi gd gs x m h

      -- a descriptor that is live may be helped from its start
      pub from_start : (e : ℕ) → ((c : Copy) → new.status c e ≢ Free) → OnJob n k new (In⁺ new) Differed' Sent' e (Install 0)
      from_start e l = (
        record { live = l; body = λ c. (bodies⁺ c e (l c)).1 },
        (record { cached = λ u j h. absurd (omega arith); persisted = λ u j h. absurd (omega arith); order = omega arith }, rw (← (bodies⁺ Cached e (l Cached)).1) (bodies⁺ Cached e (l Cached)).0.some),
      )

      -- what a worker knows after a step of d: `owner`, it owns d
      module _ (o : Own) (d : ℕ) (p : Place) (dk : d < k) (of : OwnFits n k M In Differed Sent o) (home : Home n k new (In⁺ new) Differed' Sent' o) (job : Job new (Sent' d) d) where
        begins_at : (e : ℕ) → e < k → ((c : Copy) → new.status c e ≢ Free) → (t : Bool) → WorkKnows n k new (In⁺ new) Differed' Sent' t o e (Install 0)
        begins_at e l q true = from_start e q
        begins_at e l q false = (home, from_start e q, at_install 0)

        goes : (t : Bool) (q : Place) → Knows new (Sent' d) d (Differed' d) q → MayGo t q → WorkKnows n k new (In⁺ new) Differed' Sent' t o d q
        goes true q h m = owner_knows n k new (In⁺ new) Differed' Sent' d q (job, h)
        goes false q h m = (home, (job, h), m)

        starts_over : (o : Own) → OwnFits n k M In Differed Sent o → Home n k new (In⁺ new) Differed' Sent' o → WorkerKnows n k new (In⁺ new) Differed' Sent' (start_of o)
        starts_over (Operation e) f h = (f, f, rw (eq-eqb e e refl) (from_start e h.live))
        starts_over (Read a) f h = f

        pub after_knows : (x : Next) → NextKnown (owner_of o d) new (Sent' d) d (Differed' d) x → NextFits k x → WorkerKnows n k new (In⁺ new) Differed' Sent' (worker_after o d p x)
        after_knows (Go q) h f = (of, dk, goes (owner_of o d) q h.0 h.1)
        after_knows (Help e) h f = (of, f, begins_at e f h (owner_of o e))
        after_knows Over h f = starts_over o of home
        after_knows Wait h f = absurd h
        after_knows (Answer r) h f = absurd h
