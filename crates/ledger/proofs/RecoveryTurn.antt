-- A step of recovery (record 0C) keeps the invariant of the machine.
use Rattle.std.specs.Prelude.{◌≡◌, refl, ◌≢◌, ◌⊎◌, Bool, true, false, ◌&&◌, ℕ, suc, ◌*◌, ◌/◌, ◌%◌, ◌≤◌, ◌<◌, eqb}
use Rattle.std.proofs.Common.{sym, ◌∙◌, ap, subst, inr, ⊎_elim, arith, eqb-true, eq-eqb, None, Option, Some}
use Rattle.std.proofs.Math.Logic.{inl}
use Rattle.std.proofs.Math.Decide.{ℕ_discrete, dec_lt}
use Rattle.std.proofs.Math.ListN.{length}
use Rattle.std.proofs.lemmas.Bool.{eqb-false}
use Rattle.word.specs.declared.Sort.TheVariants.{Plain}
use Rattle.word.specs.declared.Outcome.TheVariants.{Succeeded, Failed}
use Rattle.word.specs.declared.Status.{Status}
use Rattle.word.specs.declared.Status.TheVariants.{Free, Undecided, Decided, Bad}
use Rattle.steps.specs.declared.Entry.{Entry}
use Rattle.steps.specs.declared.Seen.{Seen}
use Rattle.steps.specs.declared.Effect as F
use Rattle.steps.specs.declared.RecoveryPlace.{RecoveryPlace}
use Rattle.steps.specs.declared.RecoveryPlace.TheVariants.{Outside, At}
use Rattle.steps.specs.Plan.{points_to, is_free, store_if}
use Rattle.memory.specs.declared.Copy.{Copy}
use Rattle.memory.specs.declared.Copy.TheVariants.{Cached, Persisted}
use Rattle.memory.specs.Value.{succeeded}
use Rattle.events.specs.First.{and_first, and_second}
use Rattle.machine.specs.Recover.{visit_after}
use Rattle.image.specs.Ends.{is-free}
use Rattle.ledger.specs.Rules.{recovered_value, recovery_step, entry_step, end_step, live_step, recovery_plan}
use Rattle.ledger.specs.Update.{clash, upd_if, upd_at, upd_same, upd_other}
use Rattle.ledger.specs.Cond.{cond_if, cond_lt, cond_both}
use Rattle.ledger.specs.Cells.{Cell, plain, pointer, Belongs, Body, Cells, State, set_status}
use Rattle.ledger.specs.Seen.{entry_at, address_at, Sees}
use Rattle.ledger.specs.Fits.{CellsFit, EffectFits, fit_applied}
use Rattle.ledger.proofs.PlanFits.{recovery_fits}
use Rattle.ledger.specs.Meaning.{at_has, expected_of, desired_of, stands}
use Rattle.ledger.specs.Agree.{NoneBelongs}
use Rattle.ledger.specs.Rule.{Rule}
use Rattle.ledger.specs.Fire.{wrote}
use Rattle.ledger.specs.Know.{Proper}
use Rattle.ledger.specs.NextKnown.{points, points_not}
use Rattle.ledger.specs.Still.{Begins}
use Rattle.ledger.specs.Invariant.{AsSent, AtEntries, AtEnd, Recovering, Recovery, Invariant}
use Rattle.ledger.proofs.Machine.{recovery_done}
use Rattle.ledger.specs.Keep.{keep_recovery}
use Rattle.ledger.proofs.WorkTurn.{L⁺, In⁺, Goal, gl, gi, bodies⁺}
use Rattle.steps.specs.declared.Plan.{Plan}

free_test : (s : Status) → s ≡ Free → is_free s ≡ true
free_test s e = rw e

both_true : (s t : Bool) → s ≡ true → t ≡ true → (s && t) ≡ true
both_true s t p q = rw (p, q)

-- what recovery stores is what the word stands for
left_stands : (s : Status) (e : Entry) (b : Body) (a : ℕ) → desired_of b a ≡ e.desired → expected_of b a ≡ e.expected → recovered_value s e ≡ stands s b a
left_stands Free e b a p q = sym q
left_stands Undecided e b a p q = sym q
left_stands (Decided Succeeded true) e b a p q = sym p
left_stands (Decided Succeeded false) e b a p q = sym p
left_stands (Decided Failed x) e b a p q = sym q
left_stands (Bad x) e b a p q = sym q

module _ (n k : ℕ) {s : State} {L : ℕ → ℕ} {In : ℕ → Bool} {Differed : ℕ → Type 0} {Sent : ℕ → Body} (I : Invariant n k s L In Differed Sent)
    (Differed' : ℕ → Type 0) (Sent' : ℕ → Body) (gd : (d : ℕ) → Differed d → Differed' d) (gs : (d : ℕ) → Sent' d ≡ Sent d) where
  abbrev M : Cells
  M = s.cells

  -- recovery's place is now p
  abbrev at : Cells → RecoveryPlace → State
  at new p = record { cells = new; worker = s.worker; recovery = p }

  abbrev End : State → Type 0
  End t = Goal n k I Differed' Sent' gd gs t

  module _ (d t : ℕ) (h : Recovering k s d t) where
    abbrev b : Body
    b = M.body Persisted d

    by_rule : {new : Cells} (r : Rule M In Differed new) → Begins I.agrees (AsSent k Sent) I.bodies r → CellsFit n k new → (p : RecoveryPlace) → Recovery k (at new p) p → End (at new p)
    by_rule {new} r bg fit p q = (
      keep_recovery n k I r bg fit (L⁺ n k I Differed' Sent' gd gs new) (In⁺ n k I Differed' Sent' gd gs new) Differed' Sent' (gl n k I Differed' Sent' gd gs r) (gi n k I Differed' Sent' gd gs r) gd gs p h.quiet q,
      wrote M In Differed r,
    )

    -- after d: the next descriptor, or the end
    next : {new : Cells} (r : Rule M In Differed new) (bg : Begins I.agrees (AsSent k Sent) I.bodies r) (fit : CellsFit n k new)
        → ((e : ℕ) → new.body Cached e ≡ new.body Persisted e) → ((c : Copy) (e : ℕ) → e ≤ d → new.status c e ≡ Free)
        → ((e : ℕ) → d < e → new.status Cached e ≡ new.status Persisted e) → End (at new (visit_after d k))
    unfolding visit_after
    next {new} r bg fit bs behind ahead = cond_lt (λ (p : RecoveryPlace). End (at new p)) (suc d) k (At (suc d) 0) Outside
        (λ l. by_rule r bg fit (At (suc d) 0) (record {
          below = l;
          quiet = h.quiet;
          bodies = bs;
          behind = λ c e q. behind c e (omega arith);
          ahead = λ e q. ahead e (omega arith);
          here = inl (record { steps = omega arith; alike = ahead (suc d) (omega arith); begun = λ _. refl; cached = λ j q. absurd (omega arith); persisted = λ j q. absurd (omega arith) });
        }))
        (λ l. by_rule r bg fit Outside (λ c e q. let z : e < k = (bodies⁺ n k I Differed' Sent' gd gs r bg fit c e q).2 in absurd (q (behind c e (omega arith)))))

    -- the same descriptor, one step on
    on : {new : Cells} (r : Rule M In Differed new) → Begins I.agrees (AsSent k Sent) I.bodies r → CellsFit n k new
        → new.body ≡ M.body → ((c : Copy) (e : ℕ) → e ≢ d → new.status c e ≡ M.status c e) → AtEntries new d (suc t) ⊎ AtEnd new d (suc t) → End (at new (At d (suc t)))
    on {new} r bg fit bs ss z = by_rule r bg fit (At d (suc t)) (record {
      below = h.below;
      quiet = h.quiet;
      bodies = λ e. rw bs (h.bodies e);
      behind = λ c e l. ss c e (omega arith) ∙ h.behind c e l;
      ahead = λ e l. ss Cached e (omega arith) ∙ h.ahead e l ∙ sym (ss Persisted e (omega arith));
      here = z;
    })

    module _ (x : Seen) (v : Sees M Persisted d (t / 2) x) where
      abbrev Ok : Plan (Option ℕ) → Type 0
      Ok q = End (recovery_done s k d q)

      -- a Free descriptor is passed by
      pass : t ≡ 0 → M.status Persisted d ≡ Free → Ok (recovery_step F.TheVariants.Nothing None)
      pass z f = next Rule.same tt I.fits h.bodies (λ c e l. elim (ℕ_discrete e d) [ yes q ↦ rw q (both c) | no q ↦ h.behind c e (omega arith) ]) h.ahead
        where
          both : (c : Copy) → M.status c d ≡ Free
          both Cached = ⊎_elim (λ y. y.alike ∙ f) (λ y. y.cached) h.here
          both Persisted = f

      -- an entry: its two steps
      module _ (i : t / 2 < length b) (y : AtEntries M d t) (live : M.status Persisted d ≢ Free) where
        abbrev a : ℕ
        a = x.entry.address

        entry : x.entry ≡ entry_at b (t / 2)
        entry = v.entry i

        address : a ≡ address_at b (t / 2)
        address = ap (λ (e : Entry). e.address) entry

        proper : Proper b
        proper = (I.bodies Persisted d live).0

        abbrev w : ℕ
        w = recovered_value x.status x.entry

        value : w ≡ stands (M.status Persisted d) b a
        value = left_stands x.status x.entry b a (rw entry (proper.desired (t / 2) i)) (rw entry (proper.expected (t / 2) i)) ∙ ap (λ (z : Status). stands z b a) v.status

        -- the cached word is no longer d's
        gone : {new : Cells} (r : Rule M In Differed new) → Begins I.agrees (AsSent k Sent) I.bodies r → CellsFit n k new → t % 2 ≡ 0 → new.body ≡ M.body → new.status ≡ M.status
            → new.word Persisted ≡ M.word Persisted → ((j : ℕ) → ¬ (Belongs d (M.word Cached j)) → ¬ (Belongs d (new.word Cached j))) → ¬ (Belongs d (new.word Cached a))
            → End (at new (At d (suc t)))
        gone {new} r bg fit even bs ss ps keeps now = on r bg fit bs (λ c e _. rw ss) (inl (record {
          steps = rw bs (omega arith);
          alike = rw ss y.alike;
          begun = λ z. absurd (live (rw ss at z));
          cached = rw bs (λ j l. elim (ℕ_discrete j (t / 2)) [ yes q ↦ rw (q, ← address) now | no q ↦ keeps _ (y.cached j (omega arith)) ]);
          persisted = rw (bs, ps) (λ j l. y.persisted j (omega arith));
        }))

        first : t % 2 ≡ 0 → (f : Bool) → points_to x.word d ≡ f → EffectFits n k (store_if f a (Plain w false)) → Ok (recovery_step (store_if f a (Plain w false)) (Some (suc t)))
        first even true p fit =
            gone (Rule.swap d a w (points x.word d (M.word Cached a) (sym v.word) p) value (ap succeeded y.alike)) tt (fit_applied n k M I.fits d (F.TheVariants.StoreWord a (Plain w false)) fit) even refl refl refl
            (λ j q. upd_at (λ (c : Cell). ¬ (Belongs d c)) (M.word Cached) a j (plain w) q (λ z. clash (cc)))
            (λ z. let u : plain w ≡ pointer d = sym (upd_same (M.word Cached) a (plain w)) ∙ z in clash (cc))
        first even false p fit = gone Rule.same tt I.fits even refl refl refl (λ j q. q) (points_not x.word d (M.word Cached a) (sym v.word) p)

        -- and its persisted copy
        second : t % 2 ≢ 0 → EffectFits n k (F.TheVariants.BackWord a) → Ok (recovery_step (F.TheVariants.BackWord a) (Some (suc t)))
        second odd fit = on (Rule.back-word a) tt (fit_applied n k M I.fits d (F.TheVariants.BackWord a) fit) refl (λ c e _. refl) (inl (record {
          steps = omega (arith, y.steps);
          alike = y.alike;
          begun = λ z. absurd (live z);
          cached = λ j l. y.cached j (omega arith);
          persisted = λ j l. upd_if (λ (c : Cell). ¬ (Belongs d c)) (M.word Persisted) a (address_at b j) (M.word Cached a)
              (λ q. rw (← q) (y.cached j (omega arith)))
              (λ q. elim (ℕ_discrete j (t / 2)) [ yes z ↦ absurd (q (rw (z, address))) | no z ↦ y.persisted j (omega arith) ]);
        }))

        entry_ok : EffectFits n k (entry_step d t x).effect → Ok (entry_step d t x)
        unfolding entry_step
        entry_ok = cond_if (λ (q : Plan (Option ℕ)). EffectFits n k q.effect → Ok q) (eqb (t % 2) 0) _ _ (λ e. first (eqb-true (t % 2) 0 e) (points_to x.word d) refl) (λ e. second (eqb-false (t % 2) 0 e))

      -- all entries are done
      free_ok : t ≡ 2 * length b → AtEntries M d t → Ok (recovery_step (F.TheVariants.StoreStatus Free) (Some (suc t)))
      free_ok z y = on (Rule.store-free d none) tt (fit_applied n k M I.fits d (F.TheVariants.StoreStatus Free) tt) refl elsewhere
          (inr (record { steps = omega arith; cached = upd_same (M.status Cached) d Free }))
        where
          none : NoneBelongs M d
          none Cached a p = at_has b a (λ a. ¬ (Belongs d (M.word Cached a))) (I.agrees.live Cached a d p).1 (λ j l. y.cached j (omega arith)) p
          none Persisted a p = at_has b a (λ a. ¬ (Belongs d (M.word Persisted a))) (I.agrees.live Persisted a d p).1 (λ j l. y.persisted j (omega arith)) p

          elsewhere : (c : Copy) (e : ℕ) → e ≢ d → (set_status M Cached d Free).status c e ≡ M.status c e
          elsewhere Cached e q = upd_other (M.status Cached) d Free e q
          elsewhere Persisted e q = refl

      last_ok : AtEnd M d t → Ok (recovery_step F.TheVariants.BackStatus None)
      last_ok y = next (Rule.back-status d) tt (fit_applied n k M I.fits d F.TheVariants.BackStatus tt) h.bodies behind
          (λ e l. upd_if (λ (c : Status). M.status Cached e ≡ c) (M.status Persisted) d e (M.status Cached d) (λ q. rw q) (λ _. h.ahead e l))
        where
          behind : (c : Copy) (e : ℕ) → e ≤ d → (set_status M Persisted d (M.status Cached d)).status c e ≡ Free
          behind Cached e l = elim (ℕ_discrete e d) [ yes q ↦ rw q y.cached | no q ↦ h.behind Cached e (omega arith) ]
          behind Persisted e l = upd_if (λ (c : Status). c ≡ Free) (M.status Persisted) d e (M.status Cached d) (λ _. y.cached) (λ q. h.behind Persisted e (omega arith))

      -- where the first test failed, a descriptor that is at its entries is live
      not_passed : (eqb t 0 && is_free x.status) ≡ false → AtEntries M d t → M.status Persisted d ≢ Free
      not_passed e y z = let p : eqb t 0 ≡ true = eq-eqb t 0 (y.begun z) in let q : is_free x.status ≡ true = free_test x.status (v.status ∙ z) in
          let u : (eqb t 0 && is_free x.status) ≡ true = both_true (eqb t 0) (is_free x.status) p q in clash (cc)

      -- an entry is left, or none
      entry_case : (eqb t 0 && is_free x.status) ≡ false → t / 2 < x.count → EffectFits n k (entry_step d t x).effect → Ok (entry_step d t x)
      entry_case e f = go h.here
        where
          i : t / 2 < length b
          i = subst (λ (c : ℕ). t / 2 < c) v.count f

          go : AtEntries M d t ⊎ AtEnd M d t → EffectFits n k (entry_step d t x).effect → Ok (entry_step d t x)
          go (inl y) = entry_ok i y (not_passed e y)
          go (inr y) = λ _. let z = y.steps in absurd (omega (arith, i))

      end_case : (t < 8 → t / 2 < x.count → ⊥) → Ok (end_step t)
      unfolding end_step
      end_case f = go h.here
        where
          small : length b ≤ 4
          small = (I.fits.body Persisted d).size

          past : length b ≤ t / 2 ⊎ (t / 2 < length b)
          past = elim (dec_lt (t / 2) (length b)) [ yes q ↦ inr q | no q ↦ inl (omega arith) ]

          over : t ≤ 2 * length b → t ≡ 2 * length b
          over l = ⊎_elim (λ q. omega arith) (λ q. absurd (f (omega (arith, small)) (omega (arith, v.count)))) past

          go : AtEntries M d t ⊎ AtEnd M d t → Ok (end_step t)
          go (inl y) = let z : t ≡ 2 * length b = over y.steps in cond_if Ok (eqb (t % 2) 0) _ _ (λ _. free_ok z y) (λ e. let u = eqb-false (t % 2) 0 e in absurd (u (omega arith)))
          go (inr y) = let z = y.steps in cond_if Ok (eqb (t % 2) 0) _ _ (λ e. let u = eqb-true (t % 2) 0 e in absurd (omega arith)) (λ _. last_ok y)

      -- by the test that the rule makes
      live_ok : (eqb t 0 && is_free x.status) ≡ false → EffectFits n k (live_step d t x).effect → Ok (live_step d t x)
      unfolding live_step
      live_ok e = cond_both (λ (q : Plan (Option ℕ)). EffectFits n k q.effect → Ok q) t 8 (t / 2) _ _ _ (λ p i. entry_case e (omega arith)) (λ f _. end_case (λ p i. f p (omega arith)))

      pub recovery_ok : Ok (recovery_plan d t x)
      unfolding recovery_plan
      recovery_ok = cond_if (λ (q : Plan (Option ℕ)). EffectFits n k q.effect → Ok q) (eqb t 0 && is_free x.status) _ _
          (λ e _. pass (eqb-true t 0 (and_first (eqb t 0) (is_free x.status) e)) (sym v.status ∙ is-free x.status (and_second (eqb t 0) (is_free x.status) e)))
          live_ok
          (recovery_fits n k M I.fits d (t / 2) Persisted x v t refl)
