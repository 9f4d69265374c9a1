-- A rule taken by one worker, or by the memory itself, keeps the invariant of the whole machine.
use Rattle.std.specs.Prelude.{◌≡◌, refl, ◌≢◌, ◌⊎◌, Bool, true, false, ℕ, ◌<◌}
use Rattle.std.proofs.Common.{sym, ◌∙◌, subst, inl, inr, ⊎_elim, arith}
use Rattle.std.proofs.Math.Decide.{ℕ_discrete}
use Rattle.word.specs.declared.Status.{Status}
use Rattle.word.specs.declared.Status.TheVariants.{Free, Undecided, Decided}
use Rattle.steps.specs.declared.Worker.{Worker}
use Rattle.steps.specs.declared.Worker.TheVariants.{Idle}
use Rattle.steps.specs.declared.RecoveryPlace.{RecoveryPlace}
use Rattle.steps.specs.declared.RecoveryPlace.TheVariants.{Outside}
use Rattle.memory.specs.declared.Copy.{Copy}
use Rattle.memory.specs.declared.Copy.TheVariants.{Cached, Persisted}
use Rattle.ledger.specs.Update.{clash, upd, upd_in, in_if}
use Rattle.ledger.specs.Cells.{Body, Cells, State, with_cells}
use Rattle.ledger.specs.Fits.{CellsFit}
use Rattle.ledger.specs.Meaning.{put_all}
use Rattle.ledger.specs.Agree.{Agrees}
use Rattle.ledger.specs.BodyRules.{forget}
use Rattle.ledger.specs.Rule.{Rule, same, back-word, back-status, back-body, install, swap, decide, clear, store-free, store_undecided, edit, OwnersOnly, fired, rule_agrees}
use Rattle.ledger.specs.Still.{Bodies, Begins, bodies, fired_still}
use Rattle.ledger.specs.Workers.{Owns, Concerns, WorkerKnows, worker_lets}
use Rattle.ledger.specs.Invariant.{AsSent, Tended, Recovery, Invariant}

-- d is live in some copy
abbrev pub IsLive : Cells → ℕ → Type 0
IsLive M d = (c : Copy) × (M.status c d ≢ Free)

live_status : (M : Cells) (k : Copy) (e : ℕ) (s : Status) (c : Copy) (d : ℕ) → (e ≡ d → s ≢ Free → IsLive M d) → upd_in M.status k e s c d ≢ Free → IsLive M d
live_status M k e s c d f = in_if (λ (t : Status). t ≢ Free → IsLive M d) M.status k e s c d (λ _ q l. f q l) (λ _ l. (c, l))

module _ {M : Cells} {In : ℕ → Bool} {Differed : ℕ → Type 0} where
  -- the rule begins an operation on d
  abbrev pub Starts : {new : Cells} → Rule M In Differed new → ℕ → Type 0
  Starts same e = ⊥
  Starts (back-word a) e = ⊥
  Starts (back-status d) e = ⊥
  Starts (back-body d) e = ⊥
  Starts (install d a _ _ _ _) e = ⊥
  Starts (swap d a v _ _ _) e = ⊥
  Starts (decide d o _ _ _ _) e = ⊥
  Starts (clear d o y z _ _) e = ⊥
  Starts (store-free d _) e = ⊥
  Starts (store_undecided d _ _ _ _) e = e ≡ d
  Starts (edit d b _ _) e = ⊥

  -- a descriptor is live after a rule only where it was before, or the rule begins it
  pub live_before : {new : Cells} (r : Rule M In Differed new) (c : Copy) (d : ℕ) → new.status c d ≢ Free → IsLive M d ⊎ Starts r d
  live_before same c d l = inl (c, l)
  live_before (back-word a) c d l = inl (c, l)
  live_before (back-status e) c d l = inl (live_status M Persisted e (M.status Cached e) c d (λ q z. (Cached, rw (← q) z)) l)
  live_before (back-body e) c d l = inl (c, l)
  live_before (install e a s u h x) c d l = inl (c, l)
  live_before (swap e a v x p w) c d l = inl (c, l)
  live_before (decide e o u v a f) c d l = inl (live_status M Cached e (Decided o true) c d (λ q _. (Cached, rw (← q) (λ z. clash (cc)))) l)
  live_before (clear e o x y u v) c d l = inl (live_status M Cached e (Decided o false) c d (λ q _. (Cached, rw (← q) (λ z. clash (cc)))) l)
  live_before (store-free e n) c d l = inl (live_status M Cached e Free c d (λ q z. absurd (z refl)) l)
  live_before (store_undecided e x k b w) c d l = elim (ℕ_discrete d e) [ yes p ↦ inr p | no p ↦ inl (live_status M Cached e Undecided c d (λ q _. absurd (p (sym q))) l) ]
  live_before (edit e b x k) c d l = inl (c, l)

module _ (n k : ℕ) {s : State} {L : ℕ → ℕ} {In : ℕ → Bool} {Differed : ℕ → Type 0} {Sent : ℕ → Body} (I : Invariant n k s L In Differed Sent)
    {new : Cells} (r : Rule s.cells In Differed new) (bg : Begins I.agrees (AsSent k Sent) I.bodies r) (fit : CellsFit n k new)
    (L' : ℕ → ℕ) (In' : ℕ → Bool) (Differed' : ℕ → Type 0) (Sent' : ℕ → Body)
    (gl : (a : ℕ) → L' a ≡ (fired r (λ d. put_all (s.cells.body Persisted d) L) L) a)
    (gi : (d : ℕ) → In' d ≡ (fired r (λ d. upd In d true) In) d)
    (gd : (d : ℕ) → Differed d → Differed' d) (gs : (d : ℕ) → Sent' d ≡ Sent d) where
  pub kept : Agrees new L' In' Differed'
  kept = forget new _ L' _ In' Differed Differed' (rule_agrees L r I.agrees) gl (λ d c _. (gi d, gd d))

  pub kept_bodies : Bodies (AsSent k Sent') new
  kept_bodies c d l = let z : AsSent k Sent d (new.body c d) = bodies I.agrees (AsSent k Sent) I.bodies r bg c d l in (z.0, z.1 ∙ sym (gs d), z.2)

  -- what the others know
  pub others : (x : Worker) → ((d : ℕ) → Concerns x d → ¬ (OwnersOnly r d)) → WorkerKnows n k s.cells In Differed Sent x → WorkerKnows n k new In' Differed' Sent' x
  others x m h = worker_lets n k Sent I.agrees r In' Differed' Sent' x
      (λ d c. record { rule = m d c; flag = λ f. gi d ∙ fired_still r d f; differed = gd d; sent = gs d }) h

  -- the memory itself: no worker moves
  pub keep_cells : ((d : ℕ) → ¬ (OwnersOnly r d)) → Recovery k (with_cells s new) s.recovery → Invariant n k (with_cells s new) L' In' Differed' Sent'
  keep_cells m p = record {
    agrees = kept;
    fits = fit;
    bodies = kept_bodies;
    one = I.one;
    know = λ w. others (s.worker w) (λ d _. m d) (I.know w);
    beyond = I.beyond;
    place = p;
  }

  -- a step of recovery: nobody works
  pub keep_recovery : (p : RecoveryPlace) → ((w : ℕ) → s.worker w ≡ Idle) → Recovery k (record { cells = new; worker = s.worker; recovery = p }) p
      → Invariant n k (record { cells = new; worker = s.worker; recovery = p }) L' In' Differed' Sent'
  keep_recovery p i q = record {
    agrees = kept;
    fits = fit;
    bodies = kept_bodies;
    one = I.one;
    know = λ w. rw (i w) tt;
    beyond = I.beyond;
    place = q;
  }

  -- worker w, outside recovery: the workers are now f, which differs at w alone
  module _ (f : ℕ → Worker) (w : ℕ) (wl : w < 8) (out : s.recovery ≡ Outside) (same-others : (v : ℕ) → v ≢ w → f v ≡ s.worker v)
      -- it owns what it did, or what nobody does
      (own : (d : ℕ) → Owns (f w) d → Owns (s.worker w) d ⊎ ((v : ℕ) → ¬ (Owns (s.worker v) d)))
      -- what it no longer owns is Free; it owns what it begins
      (left : (d : ℕ) → Owns (s.worker w) d → Owns (f w) d ⊎ ((c : Copy) → new.status c d ≡ Free)) (starts : (d : ℕ) → Starts r d → Owns (f w) d)
      -- nobody else is concerned
      (alone : (v d : ℕ) → v ≢ w → Concerns (s.worker v) d → ¬ (OwnersOnly r d))
      (knows : WorkerKnows n k new In' Differed' Sent' (f w)) where
    single : (u d : ℕ) → u ≢ w → Owns (f w) d → Owns (f u) d → ⊥
    single u d q a b = let z : Owns (s.worker u) d = subst (λ (x : Worker). Owns x d) (same-others u q) b in
        ⊎_elim (λ c. q (I.one u w d z c)) (λ c. c u z) (own d a)

    only : (v u d : ℕ) → Owns (f v) d → Owns (f u) d → v ≡ u
    only v u d a b = elim (ℕ_discrete v w) [
      | yes p ↦ elim (ℕ_discrete u w) [ yes q ↦ p ∙ sym q | no q ↦ absurd (single u d q (subst (λ (x : ℕ). Owns (f x) d) p a) b) ]
      | no p ↦ elim (ℕ_discrete u w) [
        | yes q ↦ absurd (single v d p (subst (λ (x : ℕ). Owns (f x) d) q b) a)
        | no q ↦ I.one v u d (subst (λ (x : Worker). Owns x d) (same-others v p) a) (subst (λ (x : Worker). Owns x d) (same-others u q) b)
      ]
    ]

    tended : Tended s → Tended (record { cells = new; worker = f; recovery = s.recovery })
    tended t c d l = ⊎_elim (λ z. by d c l (t z.0 d z.1)) (λ z. (w, starts d z)) (live_before r c d l)
      where
        by : (d : ℕ) (c : Copy) → new.status c d ≢ Free → (v : ℕ) × Owns (s.worker v) d → (v : ℕ) × Owns (f v) d
        by d c l o = elim (ℕ_discrete o.0 w) [
          | yes p ↦ ⊎_elim (λ y. (w, y)) (λ y. absurd (l (y c))) (left d (subst (λ (x : ℕ). Owns (s.worker x) d) p o.1))
          | no p ↦ (o.0, subst (λ (x : Worker). Owns x d) (sym (same-others o.0 p)) o.1)
        ]

    pub keep_worker : Invariant n k (record { cells = new; worker = f; recovery = s.recovery }) L' In' Differed' Sent'
    keep_worker = record {
      agrees = kept;
      fits = fit;
      bodies = kept_bodies;
      one = only;
      know = λ v. elim (ℕ_discrete v w) [
        | yes e ↦ rw e knows
        | no q ↦ rw (same-others v q) (others (s.worker v) (λ d. alone v d q) (I.know v))
      ];
      beyond = λ v l. same-others v (omega arith) ∙ I.beyond v l;
      place = rw out (tended (rw out at I.place));
    }
