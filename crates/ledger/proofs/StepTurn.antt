-- Every step of a worker (record 07) keeps the invariant of the machine.
use Rattle.std.specs.Prelude.{◌≡◌, refl, ◌≢◌, ◌⊎◌, Bool, true, false, ℕ, ◌<◌, length}
use Rattle.std.proofs.Common.{sym, ◌∙◌, ap, subst, inl, inr, ⊎_elim, eqb-true}
use Rattle.word.specs.declared.Sort.{Sort}
use Rattle.word.specs.declared.Sort.TheVariants.{Plain, Pointer, Neither}
use Rattle.word.specs.declared.Status.TheVariants.{Free}
use Rattle.steps.specs.declared.Place.{Place}
use Rattle.steps.specs.declared.Place.TheVariants.{BackBody, StoreUndecided, BackUndecided, Install, InstallClear, Persist, PersistClear, Decide, Settle, SettleClear, Swap, SwapBack, SwapClear, StoreFree, BackFree}
use Rattle.steps.specs.declared.Own.{Own}
use Rattle.steps.specs.declared.Own.TheVariants.{Operation, Read}
use Rattle.steps.specs.declared.Worker.{Worker}
use Rattle.steps.specs.declared.Worker.TheVariants.{Idle, Building, Working, Reading, ReadClear}
use Rattle.steps.specs.declared.Seen.{Seen}
use Rattle.steps.specs.declared.Effect as F
use Rattle.steps.specs.declared.Next.{Next}
use Rattle.steps.specs.Plan.{is_dirty_plain, store_if}
use Rattle.codes.specs.Place.{place_entry}
use Rattle.memory.specs.declared.Copy.{Copy}
use Rattle.memory.specs.declared.Copy.TheVariants.{Cached, Persisted}
use Rattle.events.specs.Build.{owner_of}
use Rattle.machine.specs.Step.{on_job, worker_after}
use Rattle.ledger.specs.Rules.{plan_of, read_plan, read_clear_plan}
use Rattle.ledger.specs.Update.{clash}
use Rattle.ledger.specs.Cells.{plain, neither, cell_of, Body, Cells, State, applied, with_cells, with_worker}
use Rattle.ledger.specs.Seen.{Sees}
use Rattle.ledger.specs.Fits.{CellFits, CellsFit, fit_applied}
use Rattle.ledger.proofs.PlanFits.{Placed, PlanFits, plan_fits, dirty_plain}
use Rattle.ledger.specs.Meaning.{Has, expected_of}
use Rattle.ledger.specs.Agree.{cached_free}
use Rattle.ledger.specs.Rule.{Rule, OwnersOnly}
use Rattle.ledger.specs.Rely.{rely}
use Rattle.ledger.specs.Know.{Job, Knows, Shared, at_install, job_stable}
use Rattle.ledger.specs.NextKnown.{same_cell, NextKnown}
use Rattle.ledger.proofs.WorkStep.{PlanOk, step_ok}
use Rattle.ledger.specs.Still.{Begins, begins_not}
use Rattle.ledger.specs.Workers.{Owns, Concerns, OnJob, OwnFits, Home, WorkKnows, WorkerKnows}
use Rattle.ledger.specs.Invariant.{AsSent, Invariant}
use Rattle.ledger.proofs.Machine.{Acts, worker_done, read_done}
use Rattle.ledger.proofs.WorkTurn.{starts_owner, owned_before, owned_after, In⁺, Goal, turn, from_start, after_knows}

-- a place that is known is at an entry below the count
pub placed : (M : Cells) (b : Body) (d : ℕ) (D : Type 0) (p : Place) → Knows M b d D p → Placed p (length b)
placed M b d D BackBody h = tt
placed M b d D StoreUndecided h = tt
placed M b d D BackUndecided h = tt
placed M b d D (Install i) h = h.1
placed M b d D (InstallClear i v) h = h.1
placed M b d D (Persist i) h = h.1
placed M b d D (PersistClear i) h = h.1
placed M b d D (Decide o) h = tt
placed M b d D Settle h = tt
placed M b d D SettleClear h = tt
placed M b d D (Swap i) h = h.1
placed M b d D (SwapBack i) h = h.1
placed M b d D (SwapClear i) h = h.1
placed M b d D StoreFree h = tt
placed M b d D (BackFree o) h = tt

module _ (n k : ℕ) {s : State} {L : ℕ → ℕ} {In : ℕ → Bool} {Differed : ℕ → Type 0} {Sent : ℕ → Body} (I : Invariant n k s L In Differed Sent)
    (Differed' : ℕ → Type 0) (Sent' : ℕ → Body) (gd : (d : ℕ) → Differed d → Differed' d) (gs : (d : ℕ) → Sent' d ≡ Sent d)
    (seen : (d a : ℕ) → Has (Sent d) a → L a ≢ expected_of (Sent d) a → Differed' d) where
  abbrev M : Cells
  M = s.cells

  abbrev End : State → Type 0
  End t = Goal n k I Differed' Sent' gd gs t

  pub no_neither : (a w : ℕ) → M.word Cached a ≢ neither w
  no_neither a w e = subst (CellFits n k) e (I.fits.word Cached a)

  -- a worker on d that owns it, or finds it live
  pub on-job : (y : Worker) (d : ℕ) → WorkerKnows n k M In Differed Sent y → on_job y d ≡ true → Owns y d ⊎ (M.status Cached d ≢ Free)
  on-job Idle d h e = clash (cc)
  on-job (Building f) d h e = clash (cc)
  on-job (Working o f p) d h e = let z : f ≡ d = eqb-true f d e in go (owner_of o f) refl z h.2
    where
      go : (t : Bool) → owner_of o f ≡ t → f ≡ d → WorkKnows n k M In Differed Sent t o f p → owner_of o d ≡ true ⊎ (M.status Cached d ≢ Free)
      go true q z x = inl (rw z at q)
      go false q z x = inr (rw z at (x.1.0.live Cached))
  on-job (Reading a) d h e = clash (cc)
  on-job (ReadClear a v) d h e = clash (cc)

  module _ (w : ℕ) where
    -- nobody else has to do with a descriptor that w owns and that is Free in cached memory
    pub alone_free : (y : Worker) (d : ℕ) → s.worker w ≡ y → Owns y d → M.status Cached d ≡ Free → (v : ℕ) → v ≢ w → Concerns (s.worker v) d → ⊥
    alone_free y d e o c v q x = ⊎_elim (λ z. q (I.one v w d z (rw e o))) (λ z. ⊎_elim (λ u. q (I.one v w d u (rw e o))) (λ l. l c) (on-job (s.worker v) d (I.know v) z)) x

    module _ (o : Own) (d : ℕ) (p : Place) (acts : Acts n k s w (Working o d p)) (of : OwnFits n k M In Differed Sent o) (dk : d < k) where
      module _ (x : Seen) (v : Sees M Cached d (place_entry p) x) (busy : Bool) where
        -- a shared place
        pub shared : (t : Bool) → owner_of o d ≡ t → OnJob n k M In Differed Sent d p → Home n k M In Differed Sent o → Shared p → End (worker_done s w o d p (plan_of p d x busy t))
        shared t e h home sp = turn n k I Differed' Sent' gd gs r bg fit w (worker_after o d p q) (Working o d p) acts
            (λ f z. inl (owned_before o d p q f z))
            (λ f z. inl (owned_after o d p q f (λ u y. subst (NextKnown t new (M.body Cached d) d (Differed' d)) y nk) z))
            (λ f z. absurd (nm f (starts_owner r f z)))
            (λ u f _ _. nm f)
            (after_knows n k I Differed' Sent' gd gs r bg fit o d p dk of home' job' q (rw (e, gs d, ← (h.0.body Cached)) nk) fits.1)
          where
            done : PlanOk I.agrees d h.0.live (I.fits.status Cached d) no_neither (I.bodies Cached d (h.0.live Cached)).0 (Differed' d) (gd d) (rw (h.0.body Cached) (seen d)) t (plan_of p d x busy t)
            done = step_ok I.agrees d h.0.live (I.fits.status Cached d) no_neither (I.bodies Cached d (h.0.live Cached)).0 (Differed' d) (gd d) (rw (h.0.body Cached) (seen d)) t p sp x v busy (rw (h.0.body Cached) h.1)

            q : Next
            q = (plan_of p d x busy t).next

            new : Cells
            new = applied M d (plan_of p d x busy t).effect

            r : Rule M In Differed new
            r = done.0

            nm : (f : ℕ) → ¬ (OwnersOnly r f)
            nm = done.1

            nk : NextKnown t new (M.body Cached d) d (Differed' d) q
            nk = done.2

            fits : PlanFits n k (plan_of p d x busy t)
            fits = plan_fits n k M I.fits d dk p x v (rw (h.0.body Cached) (placed M (Sent d) d (Differed d) p h.1)) busy t

            fit : CellsFit n k new
            fit = fit_applied n k M I.fits d (plan_of p d x busy t).effect fits.0

            bg : Begins I.agrees (AsSent k Sent) I.bodies r
            bg = begins_not I.agrees (AsSent k Sent) I.bodies r nm

            job' : Job new (Sent' d) d
            job' = rw (gs d) (job_stable (rely I.agrees r d (h.0.live Cached) (nm d)) h.0)

            home' : Home n k new (In⁺ n k I Differed' Sent' gd gs new) Differed' Sent' o
            home' = at_home o home
              where
                at_home : (o : Own) → Home n k M In Differed Sent o → Home n k new (In⁺ n k I Differed' Sent' gd gs new) Differed' Sent' o
                at_home (Operation f) z = rw (gs f) (job_stable (rely I.agrees r f (z.live Cached) (nm f)) z)
                at_home (Read a) z = tt

  -- a read
  module _ (w a : ℕ) (an : a < n) (kp : 0 < k) where
    -- the worker owns nothing before and nothing after
    read_turn : (y x : Worker) {new : Cells} (r : Rule M In Differed new) → ((e : ℕ) → ¬ (OwnersOnly r e)) → CellsFit n k new → Acts n k s w y → ((d : ℕ) → ¬ (Owns y d)) → ((d : ℕ) → ¬ (Owns x d))
        → WorkerKnows n k new (In⁺ n k I Differed' Sent' gd gs new) Differed' Sent' x → End (with_worker (with_cells s new) w x)
    read_turn y x r nm fit acts ny nx kn = turn n k I Differed' Sent' gd gs r (begins_not I.agrees (AsSent k Sent) I.bodies r nm) fit w x y acts
        (λ d z. absurd (nx d z)) (λ d z. absurd (ny d z)) (λ d z. absurd (nm d (starts_owner r d z))) (λ v d _ _. nm d) kn

    pub read_ok : (x : Sort) → Acts n k s w (Reading a) → cell_of x ≡ M.word Cached a → End (read_done s w a (read_plan a x))
    read_ok (Plain v true) acts e = read_turn (Reading a) (ReadClear a v) (Rule.back-word a) (λ f z. z) (fit_applied n k M I.fits 0 (F.TheVariants.BackWord a) an) acts (λ d z. clash (cc)) (λ d z. clash (cc)) an
    read_ok (Plain v false) acts e = read_turn (Reading a) Idle Rule.same (λ f z. z) I.fits acts (λ d z. clash (cc)) (λ d z. clash (cc)) tt
    read_ok (Pointer f dirty) acts e = read_turn (Reading a) (Working (Read a) f (Install 0)) Rule.same (λ f z. z) I.fits acts (λ d z. clash (cc)) (λ d z. clash (cc))
        (an, subst (CellFits n k) (sym e) (I.fits.word Cached a), (tt, from_start n k I Differed' Sent' gd gs Rule.same tt I.fits f live, at_install 0))
      where
        live : (c : Copy) → M.status c f ≢ Free
        live Cached z = cached_free (I.agrees.pair f) z (I.agrees.live Cached a f (sym e)).0 Cached a (sym e)
        live Persisted z = (I.agrees.live Cached a f (sym e)).0 z
    read_ok (Neither u) acts e = absurd (no_neither a u (sym e))

    pub clear_ok : (v : ℕ) (x : Sort) → Acts n k s w (ReadClear a v) → cell_of x ≡ M.word Cached a → End (read_done s w a (read_clear_plan a v x))
    clear_ok v x acts e = go (is_dirty_plain x v) refl
      where
        calm : End (with_worker s w Idle)
        calm = read_turn (ReadClear a v) Idle Rule.same (λ f z. z) I.fits acts (λ d z. clash (cc)) (λ d z. clash (cc)) tt

        go : (t : Bool) → is_dirty_plain x v ≡ t → End (with_worker (with_cells s (applied M 0 (store_if t a (Plain v false)))) w Idle)
        go true t = subst (λ (new : Cells). End (with_worker (with_cells s new) w Idle)) (sym (same_cell M a (plain v) (sym e ∙ ap cell_of (dirty_plain x v t)))) calm
        go false t = calm
