-- The steps that are the owner's own (1 and 7), and so every step of an operation, keep the invariant of the machine.
use Rattle.std.specs.Prelude.{◌≡◌, refl, ◌≢◌, Bool, true, false, ℕ, ◌<◌}
use Rattle.std.proofs.Common.{sym, ◌∙◌, ap, subst, inl, inr, eqb-true}
use Rattle.word.specs.declared.Outcome.{Outcome}
use Rattle.word.specs.declared.Status.{Status}
use Rattle.word.specs.declared.Status.TheVariants.{Free, Undecided, Decided}
use Rattle.steps.specs.declared.Place.{Place}
use Rattle.steps.specs.declared.Place.TheVariants.{BackBody, StoreUndecided, BackUndecided, Install, InstallClear, Persist, PersistClear, Decide, Settle, SettleClear, Swap, SwapBack, SwapClear, StoreFree, BackFree}
use Rattle.steps.specs.declared.Own.{Own}
use Rattle.steps.specs.declared.Own.TheVariants.{Operation, Read}
use Rattle.steps.specs.declared.Worker.TheVariants.{Idle, Working}
use Rattle.steps.specs.declared.Seen.{Seen}
use Rattle.steps.specs.declared.Effect as F
use Rattle.steps.specs.Plan.{outcome_of}
use Rattle.codes.specs.Place.{place_entry}
use Rattle.memory.specs.declared.Copy.{Copy}
use Rattle.memory.specs.declared.Copy.TheVariants.{Cached, Persisted}
use Rattle.memory.specs.Value.{is_success}
use Rattle.events.specs.Build.{owner_of}
use Rattle.machine.specs.Step.{on_job}
use Rattle.ledger.specs.Rules.{store_free, plan_of}
use Rattle.ledger.specs.Update.{clash, upd_same}
use Rattle.ledger.specs.Cells.{Body, Cells, State, set_status, applied, with_cells, with_worker}
use Rattle.ledger.specs.Seen.{Sees}
use Rattle.ledger.specs.Fits.{CellsFit, fit_applied}
use Rattle.ledger.specs.Meaning.{Has, expected_of}
use Rattle.ledger.specs.Agree.{NoneBelongs}
use Rattle.ledger.specs.Rule.{Rule, OwnersOnly}
use Rattle.ledger.specs.Fire.{fires_same}
use Rattle.ledger.specs.Know.{Shared, at_install, at_install_clear, at_persist, at_persist_clear, at_decide, at_settle, at_settle_clear, at_swap, at_swap_back, at_swap_clear}
use Rattle.ledger.proofs.WorkStep.{none_belongs}
use Rattle.ledger.specs.Still.{Begins}
use Rattle.ledger.specs.Workers.{Concerns, Ready, OnJob, OwnerKnows, OwnFits, Home, WorkKnows, WorkerKnows}
use Rattle.ledger.specs.Invariant.{AsSent, Invariant}
use Rattle.ledger.proofs.Machine.{Acts, Alone, worker_done}
use Rattle.ledger.specs.Keep.{Starts}
use Rattle.ledger.proofs.WorkTurn.{In⁺, Goal, turn, stays, from_start}
use Rattle.ledger.proofs.StepTurn.{alone_free, shared, no_neither}

-- one operation is owned by what owns it
same_own : (o : Own) (d e : ℕ) → owner_of o d ≡ true → owner_of o e ≡ true → e ≡ d
same_own (Operation f) d e p q = sym (eqb-true f e q) ∙ eqb-true f d p
same_own (Read a) d e p q = clash (cc)

module _ (n k : ℕ) {s : State} {L : ℕ → ℕ} {In : ℕ → Bool} {Differed : ℕ → Type 0} {Sent : ℕ → Body} (I : Invariant n k s L In Differed Sent)
    (Differed' : ℕ → Type 0) (Sent' : ℕ → Body) (gd : (d : ℕ) → Differed d → Differed' d) (gs : (d : ℕ) → Sent' d ≡ Sent d)
    (seen : (d a : ℕ) → Has (Sent d) a → L a ≢ expected_of (Sent d) a → Differed' d) where
  abbrev M : Cells
  M = s.cells

  abbrev End : State → Type 0
  End t = Goal n k I Differed' Sent' gd gs t

  -- where no persisted status changes, no flag does
  same_flag : (d : ℕ) → In⁺ n k I Differed' Sent' gd gs M d ≡ In d
  same_flag d = rw (fires_same (M.status Persisted d))

  module _ (w : ℕ) (o : Own) (d : ℕ) (e : owner_of o d ≡ true) (of : OwnFits n k M In Differed Sent o) (dk : d < k) where
    -- from place p to place q
    own_turn : (p q : Place) → Acts n k s w (Working o d p) → {new : Cells} (r : Rule M In Differed new) → Begins I.agrees (AsSent k Sent) I.bodies r → CellsFit n k new
        → ((v f : ℕ) → v ≢ w → Concerns (s.worker v) f → ¬ (OwnersOnly r f)) → ((f : ℕ) → Starts r f → f ≡ d)
        → OwnerKnows n k new (In⁺ n k I Differed' Sent' gd gs new) Differed' Sent' d q → End (with_worker (with_cells s new) w (Working o d q))
    own_turn p q acts r bg fit alone starts h = turn n k I Differed' Sent' gd gs r bg fit w (Working o d q) (Working o d p) acts
        (λ f z. inl z) (λ f z. inl z) (λ f z. subst (λ (x : ℕ). owner_of o x ≡ true) (sym (starts f z)) e) alone (of, dk, rw e h)

    -- the cells after the owner's step at p; and that it keeps the invariant
    abbrev after : Place → Seen → Bool → Cells
    after p x busy = applied M d (plan_of p d x busy true).effect

    abbrev StepOk : Place → Seen → Bool → Type 0
    StepOk p x busy = End (worker_done s w o d p (plan_of p d x busy true))

    -- 1.
    back_body_ok : (x : Seen) (busy : Bool) → Acts n k s w (Working o d BackBody) → Ready n k M In Differed Sent d → StepOk BackBody x busy
    back_body_ok x busy acts h = own_turn BackBody StoreUndecided acts {new = after BackBody x busy} (Rule.back-body d) tt (fit_applied n k M I.fits d F.TheVariants.BackBody tt) (λ v f _ _ z. z) (λ f z. absurd z) (ready, alike)
      where
        alike : (after BackBody x busy).body Cached d ≡ (after BackBody x busy).body Persisted d
        alike = sym (upd_same (M.body Persisted) d (M.body Cached d))

        ready : Ready n k (after BackBody x busy) (In⁺ n k I Differed' Sent' gd gs (after BackBody x busy)) Differed' Sent' d
        ready = record { cached = h.cached; persisted = h.persisted; proper = h.proper; body = h.body ∙ sym (gs d); out = same_flag d ∙ h.out }

    store_undecided_ok : (x : Seen) (busy : Bool) → Acts n k s w (Working o d StoreUndecided) → Ready n k M In Differed Sent d → M.body Cached d ≡ M.body Persisted d → StepOk StoreUndecided x busy
    store_undecided_ok x busy acts h b = own_turn StoreUndecided BackUndecided acts {new = after StoreUndecided x busy} (Rule.store_undecided d h.cached h.persisted b h.out) (h.proper, h.body, dk)
        (fit_applied n k M I.fits d (F.TheVariants.StoreStatus Undecided) tt)
        (λ v f q c z. alone_free n k I Differed' Sent' gd gs seen w (Working o d StoreUndecided) d acts.is e h.cached v q (rw (← z) c))
        (λ f z. z)
        (λ z. let y : Undecided ≡ Free = sym (upd_same (M.status Cached) d Undecided) ∙ z in clash (cc), h.body ∙ sym (gs d))

    back_undecided_ok : (x : Seen) (busy : Bool) → Acts n k s w (Working o d BackUndecided) → M.status Cached d ≢ Free → StepOk BackUndecided x busy
    back_undecided_ok x busy acts l = own_turn BackUndecided (Install 0) acts {new = after BackUndecided x busy} (Rule.back-status d) tt (fit_applied n k M I.fits d F.TheVariants.BackStatus tt) (λ v f _ _ z. z) (λ f z. absurd z)
        (from_start n k I Differed' Sent' gd gs (Rule.back-status d) tt (fit_applied n k M I.fits d F.TheVariants.BackStatus tt) d live)
      where
        live : (c : Copy) → (set_status M Persisted d (M.status Cached d)).status c d ≢ Free
        live Cached = l
        live Persisted = λ z. l (sym (upd_same (M.status Persisted) d (M.status Cached d)) ∙ z)

    -- 7. Free is stored only where no other worker is on d
    frees_alone : (x : Status) (busy : Bool) → Alone s w d StoreFree busy → (store_free busy x).effect ≡ F.TheVariants.StoreStatus Free → (u : ℕ) → u ≢ w → on_job (s.worker u) d ≡ false
    frees_alone x true alone e = clash (cc)
    frees_alone x false alone e = alone refl refl

    store_free_ok : Acts n k s w (Working o d StoreFree) → OnJob n k M In Differed Sent d StoreFree → (x : Status) → x ≡ M.status Cached d → (busy : Bool) → Alone s w d StoreFree busy
        → End (worker_done s w o d StoreFree (store_free busy x))
    store_free_ok acts h x v true alone = turn n k I Differed' Sent' gd gs Rule.same tt I.fits w (Working o d StoreFree) (Working o d StoreFree) acts
        (λ f z. inl z) (λ f z. inl z) (λ f z. absurd z) (λ v f _ _ z. z)
        (stays n k I Differed' Sent' gd gs Rule.same tt I.fits (Working o d StoreFree) (λ f _ z. z) (subst (WorkerKnows n k M In Differed Sent) acts.is (I.know w)))
    store_free_ok acts h x v false alone = own_turn StoreFree (BackFree (outcome_of x)) acts (Rule.store-free d none) tt (fit_applied n k M I.fits d (F.TheVariants.StoreStatus Free) tt)
        (λ u f q c z. nobody u q (rw (← z) c)) (λ f z. absurd z)
        (upd_same (M.status Cached) d Free, flag, λ z. gd d (I.agrees.failed Cached d _ (c ∙ ap (λ (r : Outcome). Decided r h.1.both.1.0) (sym same ∙ z))))
      where
        c : M.status Cached d ≡ Decided h.1.both.0 h.1.both.1.0
        c = h.1.both.1.1

        p : M.status Persisted d ≡ Decided h.1.both.0 h.1.both.2.0
        p = h.1.both.2.1

        same : outcome_of x ≡ h.1.both.0
        same = rw (v, c)

        none : NoneBelongs M d
        none = none_belongs I.agrees d h.0.live (I.fits.status Cached d) (no_neither n k I Differed' Sent' gd gs seen) (I.bodies Cached d (h.0.live Cached)).0 (Differed' d) (gd d) (rw (h.0.body Cached) (seen d)) true (rw (h.0.body Cached) h.1)

        flag : In⁺ n k I Differed' Sent' gd gs M d ≡ is_success (outcome_of x)
        flag = same_flag d ∙ I.agrees.entered d (h.0.live Persisted) ∙ rw (same, p)

        nobody : (u : ℕ) → u ≢ w → Concerns (s.worker u) d → ⊥
        nobody u q (inl z) = q (I.one u w d z (rw acts.is e))
        nobody u q (inr z) = let y = frees_alone x false alone refl u q in clash (cc)

    back_free_ok : (r : Outcome) (x : Seen) (busy : Bool) → Acts n k s w (Working o d (BackFree r)) → M.status Cached d ≡ Free → StepOk (BackFree r) x busy
    back_free_ok r x busy acts h = turn n k I Differed' Sent' gd gs (Rule.back-status d) tt (fit_applied n k M I.fits d F.TheVariants.BackStatus tt) w Idle (Working o d (BackFree r)) acts
        (λ f z. clash (cc)) (λ f z. inr (free f (same_own o d f e z))) (λ f z. absurd z) (λ v f _ _ z. z) tt
      where
        free : (f : ℕ) → f ≡ d → (c : Copy) → (set_status M Persisted d (M.status Cached d)).status c f ≡ Free
        free f q Cached = rw q h
        free f q Persisted = rw q (upd_same (M.status Persisted) d (M.status Cached d) ∙ h)

    -- at a place that helpers come to as well
    by : (p : Place) → Acts n k s w (Working o d p) → (x : Seen) → Sees M Cached d (place_entry p) x → (busy : Bool) → OnJob n k M In Differed Sent d p → Shared p → StepOk p x busy
    by p acts x v busy h sp = shared n k I Differed' Sent' gd gs seen w o d p acts of dk x v busy true e h (home o e) sp
      where
        home : (o : Own) → owner_of o d ≡ true → Home n k M In Differed Sent o
        home (Operation f) q = let z : f ≡ d = eqb-true f d q in rw z h.0
        home (Read a) q = clash (cc)

    -- the owner, at any place
    own_ok : (p : Place) → Acts n k s w (Working o d p) → (x : Seen) → Sees M Cached d (place_entry p) x → (busy : Bool) → Alone s w d p busy → OwnerKnows n k M In Differed Sent d p → StepOk p x busy
    own_ok BackBody acts x v busy alone h = back_body_ok x busy acts h
    own_ok StoreUndecided acts x v busy alone h = store_undecided_ok x busy acts h.0 h.1
    own_ok BackUndecided acts x v busy alone h = back_undecided_ok x busy acts h.0
    own_ok (Install i) acts x v busy alone h = by (Install i) acts x v busy h (at_install i)
    own_ok (InstallClear i u) acts x v busy alone h = by (InstallClear i u) acts x v busy h (at_install_clear i u)
    own_ok (Persist i) acts x v busy alone h = by (Persist i) acts x v busy h (at_persist i)
    own_ok (PersistClear i) acts x v busy alone h = by (PersistClear i) acts x v busy h (at_persist_clear i)
    own_ok (Decide r) acts x v busy alone h = by (Decide r) acts x v busy h (at_decide r)
    own_ok Settle acts x v busy alone h = by Settle acts x v busy h at_settle
    own_ok SettleClear acts x v busy alone h = by SettleClear acts x v busy h at_settle_clear
    own_ok (Swap i) acts x v busy alone h = by (Swap i) acts x v busy h (at_swap i)
    own_ok (SwapBack i) acts x v busy alone h = by (SwapBack i) acts x v busy h (at_swap_back i)
    own_ok (SwapClear i) acts x v busy alone h = by (SwapClear i) acts x v busy h (at_swap_clear i)
    own_ok StoreFree acts x v busy alone h = store_free_ok acts h x.status v.status busy alone
    own_ok (BackFree r) acts x v busy alone h = back_free_ok r x busy acts h.0

  -- record 07, of a worker on an operation
  pub work_ok : (w : ℕ) (o : Own) (d : ℕ) (p : Place) (x : Seen) (busy : Bool) → Acts n k s w (Working o d p) → Sees M Cached d (place_entry p) x → Alone s w d p busy
      → End (worker_done s w o d p (plan_of p d x busy (owner_of o d)))
  work_ok w o d p x busy acts v alone = go (owner_of o d) refl h.2
    where
      h : WorkerKnows n k M In Differed Sent (Working o d p)
      h = subst (WorkerKnows n k M In Differed Sent) acts.is (I.know w)

      go : (t : Bool) → owner_of o d ≡ t → WorkKnows n k M In Differed Sent t o d p → End (worker_done s w o d p (plan_of p d x busy t))
      go true e z = own_ok w o d e h.0 h.1 p acts x v busy alone z
      go false e z = shared n k I Differed' Sent' gd gs seen w o d p acts h.0 h.1 x v busy false e z.1 z.0 z.2
