-- One step of an operation is a rule, and brings what its next place knows. It is the plan of `steps`, on whatever the step may see.
use Rattle.std.specs.Prelude.{◌≡◌, ◌≢◌, Bool, true, false}
use Rattle.std.proofs.Math.Path.{refl, sym, ap}
use Rattle.std.proofs.Common.{◌∙◌, subst, None, Option, Some, ℕ}
use Prim.Native.Nat.{ℕ, suc, ◌<◌}
use native.Mathlib.Omega.{arith}
use Rattle.std.proofs.Math.ListN.{length}
use Rattle.word.specs.declared.Sort.{Sort}
use Rattle.word.specs.declared.Sort.TheVariants.{Plain, Pointer, Neither}
use Rattle.word.specs.declared.Outcome.{Outcome}
use Rattle.word.specs.declared.Outcome.TheVariants.{Succeeded, Failed}
use Rattle.word.specs.declared.Status.{Status}
use Rattle.word.specs.declared.Status.TheVariants.{Free, Undecided, Decided, Bad}
use Rattle.word.specs.StatusLaws.{Good}
use Rattle.steps.specs.declared.Place.{Place}
use Rattle.steps.specs.declared.Place.TheVariants.{Install, Persist, Decide, Settle, Swap, SwapBack}
use Rattle.steps.specs.declared.Entry.{Entry}
use Rattle.steps.specs.declared.Seen.{Seen}
use Rattle.steps.specs.declared.Effect.TheVariants.{Nothing}
use Rattle.steps.specs.declared.Next.{Next}
use Rattle.steps.specs.declared.Next.TheVariants.{Go}
use Rattle.steps.specs.declared.Plan.{Plan}
use Rattle.steps.specs.Plan.{planned, points_to, is_dirty_pointer, is_dirty_plain, left_value, store_if}
use Rattle.codes.specs.Place.{place_entry}
use Rattle.memory.specs.declared.Copy.{Copy}
use Rattle.memory.specs.declared.Copy.TheVariants.{Cached, Persisted}
use Rattle.ledger.specs.Rules.{more_of, installed, install_word, install_by, install, install_clear, persisted, persist_clear, decide, settle, settle_clear, swap, swapped, swap_done, swap_clear, plan_of}
use Rattle.ledger.specs.Update.{clash, upd, upd_same}
use Rattle.ledger.specs.Cond.{cond_eq, cond_lt}
use Rattle.ledger.specs.Cells.{plain, pointer, neither, cell_of, Belongs, Body, Cells, set_word, applied}
use Rattle.ledger.specs.Seen.{entry_at, address_at, Sees}
use Rattle.ledger.proofs.PlanFits.{dirty_plain, dirty_pointer}
use Rattle.ledger.specs.Meaning.{Has, has-at, at_has, expected_of, desired_of, stands}
use Rattle.ledger.specs.Agree.{AllBelong, NoneBelongs, Agrees, cached_undecided, cached_clean, cached_free}
use Rattle.ledger.specs.Rule.{Rule, OwnersOnly}
use Rattle.ledger.specs.Rely.{Rely, Is, rely}
use Rattle.ledger.specs.NextKnown.{same_cell, points, points_not, may, NextKnown}
use Rattle.ledger.specs.Know.{upto_suc, Proper, Settled, Installed, Removed, Knows, Shared, at_install, at_install_clear, at_persist, at_persist_clear, at_decide, at_settle, at_settle_clear, at_swap, at_swap_back, at_swap_clear, installed_stable, removed_stable}

module _ {M : Cells} {L : ℕ → ℕ} {In : ℕ → Bool} {Differed : ℕ → Type 0} (g : Agrees M L In Differed) (d : ℕ) (live : (c : Copy) → M.status c d ≢ Free)
    (good : Good (M.status Cached d)) (fits : (a w : ℕ) → M.word Cached a ≢ neither w) (proper : Proper (M.body Cached d))
    (D : Type 0) (mono : Differed d → D) (seen : (a : ℕ) → Has (M.body Cached d) a → L a ≢ expected_of (M.body Cached d) a → D) (owner : Bool) where
  abbrev b : Body
  b = M.body Cached d

  same_body : M.body Persisted d ≡ b
  same_body = sym (g.body Cached d (live Cached))

  -- a rule that is nobody's own, to these cells, and the next place's knowledge there
  abbrev pub Ok : Cells → Next → Type 0
  Ok new n = (r : Rule M In Differed new) × ((e : ℕ) → ¬ (OwnersOnly r e)) × NextKnown owner new b d D n

  abbrev pub PlanOk : Plan Next → Type 0
  PlanOk q = Ok (applied M d q.effect) q.next

  -- such a rule keeps what this worker knows
  relies : {new : Cells} (r : Rule M In Differed new) → ((e : ℕ) → ¬ (OwnersOnly r e)) → Rely d M new
  relies r n = rely g r d (live Cached) (n d)

  -- nothing is stored, or the dirty bit alone
  nothing : (n : Next) → NextKnown owner M b d D n → Ok M n
  nothing n k = (Rule.same, λ e z. z, k)

  bit_alone : (t : Bool) (a : ℕ) (s : Sort) (n : Next) → (t ≡ true → M.word Cached a ≡ cell_of s) → NextKnown owner M b d D n → PlanOk (planned (store_if t a s) n)
  bit_alone true a s n h k = subst (λ (new : Cells). Ok new n) (sym (same_cell M a (cell_of s) (h refl))) (nothing n k)
  bit_alone false a s n h k = nothing n k

  -- at entry i, seen as x
  module _ (i : ℕ) (l : i < length b) (x : Seen) (v : Sees M Cached d i x) where
    abbrev a : ℕ
    a = x.entry.address

    entry : x.entry ≡ entry_at b i
    entry = v.entry l

    address : a ≡ address_at b i
    address = ap (λ (e : Entry). e.address) entry

    has : Has (M.body Persisted d) a
    has = rw (same_body, address) (has-at b i l)

    expected : expected_of b a ≡ x.entry.expected
    expected = rw entry (proper.expected i l)

    desired : desired_of b a ≡ x.entry.desired
    desired = rw entry (proper.desired i l)

    -- 2. the entry's word is d's: the next entry, or step 3
    next_install : (new : Cells) → Installed new b d (suc i) 0 → NextKnown owner new b d D (installed (more_of i x.count))
    unfolding more_of
    next_install new s = rw v.count (cond_lt (λ (y : Option ℕ). NextKnown owner new b d D (installed y)) (suc i) (length b) (Some (suc i)) None
        (λ h. ((s, h), may owner (at_install (suc i))))
        (λ h. let e : suc i ≡ length b = omega arith in ((rw e at s, proper.some), may owner (at_persist 0))))

    one-more : (new : Cells) (j : ℕ) → Installed new b d i j → (new.status Cached d ≡ Undecided → Belongs d (new.word Cached a)) → Installed new b d (suc i) j
    one-more new j s p = record {
      cached = λ u. upto_suc b i (λ a. Belongs d (new.word Cached a)) (s.cached u) (subst (λ (a : ℕ). Belongs d (new.word Cached a)) address (p u));
      persisted = s.persisted;
      order = omega (arith, s.order);
    }

    module _ (k : Installed M b d i 0) where
      install-word : M.status Cached d ≡ Undecided → (s : Sort) → M.word Cached a ≡ cell_of s → PlanOk (install_word i d x s)
      install-word u (Plain w true) p = (Rule.back-word a, λ e z. z, ((installed_stable (relies (Rule.back-word a) (λ e z. z)) k, l), may owner (at_install_clear i w)))
      install-word u (Plain w false) p = cond_eq PlanOk w x.entry.expected _ _
          (λ q. let r = Rule.install d a u (cached_undecided (g.pair d) u (live Persisted)) has (p ∙ ap plain (q ∙ sym expected ∙ ap (λ (b : Body). expected_of b a) (sym same_body))) in
          (r, λ e z. z, next_install _ (one-more _ 0 (installed_stable (relies r (λ e z. z)) k) (λ _. upd_same (M.word Cached) a (pointer d)))))
          (λ q. nothing (Go (Decide Failed)) (seen a (rw same_body at has) (λ z. q ((rw p at (g.value Cached a)) ∙ z ∙ expected)), may owner (at_decide Failed)))
      install-word u (Pointer e dirty) p = cond_eq PlanOk e d _ _
          (λ q. nothing (installed (more_of i x.count)) (next_install M (one-more M 0 k (λ _. p ∙ ap pointer q))))
          (λ q. (Rule.same, λ f z. z, helped e p))
        where
          helped : (e : ℕ) → M.word Cached a ≡ pointer e → (c : Copy) → M.status c e ≢ Free
          helped e p Cached z = cached_free (g.pair e) z (g.live Cached a e p).0 Cached a p
          helped e p Persisted z = (g.live Cached a e p).0 z
      install-word u (Neither w) p = absurd (fits a w p)

      -- what the word asks for while d is undecided; once it is decided, 5. Which of the two, is the rule's to say
      word_ok : M.status Cached d ≡ Undecided → PlanOk (install_word i d x x.word)
      word_ok u = install-word u x.word (sym v.word)

      on_ok : (o : Outcome) (dirty : Bool) → M.status Cached d ≡ Decided o dirty → PlanOk (planned Nothing (Go Settle))
      on_ok o dirty u = nothing (Go Settle) ((o, (dirty, u)), may owner at_settle)

      install-by : (s : Status) → M.status Cached d ≡ s → PlanOk (install_by i d x s)
      install-by Free u = absurd (live Cached u)
      install-by Undecided u = search (word_ok, on_ok)
      install-by (Decided o dirty) u = search (word_ok, on_ok)
      install-by (Bad y) u = absurd (rw u at good)

      install_ok : PlanOk (install i d x)
      unfolding install
      install_ok = install-by x.status (sym v.status)

      install_clear_ok : (w : ℕ) → PlanOk (install_clear i w x)
      unfolding install_clear
      install_clear_ok w = bit_alone (is_dirty_plain x.word w) a (Plain w false) (Go (Install i))
          (λ t. sym v.word ∙ ap cell_of (dirty_plain x.word w t)) ((k, l), may owner (at_install i))

    -- 3.
    persist_ok : (busy : Bool) → Installed M b d (length b) i → PlanOk (plan_of (Persist i) d x busy owner)
    persist_ok busy k = (
      Rule.back-word a,
      λ e z. z,
      (
        (
          record {
            cached = s.cached;
            persisted = λ u. upto_suc b i (λ a'. Belongs d (upd (M.word Persisted) a (M.word Cached a) a')) (s.persisted u)
                (rw (← address) (upd_same (M.word Persisted) a (M.word Cached a) ∙ rw address (k.cached u i l)));
            order = omega arith;
          },
          l,
        ),
        may owner (at_persist_clear i),
      ),
    )
      where
        s : Installed (set_word M Persisted a (M.word Cached a)) b d (length b) i
        s = installed_stable (relies (Rule.back-word a) (λ e z. z)) k

    persist_clear_ok : Installed M b d (length b) (suc i) → PlanOk (persist_clear i d x)
    unfolding persist_clear more_of
    persist_clear_ok k = bit_alone (is_dirty_pointer x.word d) a (Pointer d false) (persisted (more_of i x.count))
        (λ t. sym v.word ∙ ap cell_of (dirty_pointer x.word d t))
        (rw v.count (cond_lt (λ (y : Option ℕ). NextKnown owner M b d D (persisted y)) (suc i) (length b) (Some (suc i)) None
        (λ h. ((k, h), may owner (at_persist (suc i))))
        (λ h. let e : suc i ≡ length b = omega arith in (rw e at k, may owner (at_decide Succeeded)))))

    -- 6. the entry's word no longer belongs to d
    gone : (new : Cells) → Removed new b d i i → ¬ (Belongs d (new.word Cached a)) → Removed new b d (suc i) i
    gone new s n = record {
      both = s.both;
      cached = upto_suc b i (λ a. ¬ (Belongs d (new.word Cached a))) s.cached (subst (λ (a : ℕ). ¬ (Belongs d (new.word Cached a))) address n);
      persisted = s.persisted;
      order = omega arith;
    }

    swap_ok : Removed M b d i i → PlanOk (swap i d x)
    unfolding swap
    swap_ok k = go (points_to x.word d) refl
      where
        o : Outcome
        o = k.both.0

        c : M.status Cached d ≡ Decided o k.both.1.0
        c = k.both.1.1

        s : M.status Persisted d ≡ Decided o k.both.2.0
        s = k.both.2.1

        left : left_value x.status x.entry ≡ stands (M.status Persisted d) (M.body Persisted d) a
        left = rw (v.status, c, s, same_body) (by o)
          where
            by : (o : Outcome) → left_value (Decided o k.both.1.0) x.entry ≡ stands (Decided o k.both.2.0) b a
            by Succeeded = sym desired
            by Failed = sym expected

        go : (t : Bool) → points_to x.word d ≡ t → PlanOk (planned (store_if t a (Plain (left_value x.status x.entry) true)) (Go (SwapBack i)))
        go true t =
            let p : Belongs d (M.word Cached a) = points x.word d (M.word Cached a) (sym v.word) t in
            let r : Rule M In Differed (set_word M Cached a (plain (left_value x.status x.entry))) = Rule.swap d a (left_value x.status x.entry) p left (rw (c, s)) in
            let own : (e : ℕ) → ¬ (OwnersOnly r e) = (λ e z. clash (cc)) in
            (r, own, ((gone _ (removed_stable (relies r own) k) (λ z. let y : plain (left_value x.status x.entry) ≡ pointer d = sym (upd_same (M.word Cached) a (plain (left_value x.status x.entry))) ∙ z in clash (cc)), l), may owner (at_swap_back i)))
        go false t = nothing (Go (SwapBack i)) ((gone M k (points_not x.word d (M.word Cached a) (sym v.word) t), l), may owner (at_swap_back i))

    swap_back_ok : (busy : Bool) → Removed M b d (suc i) i → PlanOk (plan_of (SwapBack i) d x busy owner)
    swap_back_ok busy k = (
      Rule.back-word a,
      λ e z. z,
      (
        (
          record {
            both = s.both;
            cached = s.cached;
            persisted = upto_suc b i (λ a'. ¬ (Belongs d (upd (M.word Persisted) a (M.word Cached a) a'))) s.persisted
                (rw (← address) (λ z. subst (λ (a : ℕ). ¬ (Belongs d (M.word Cached a))) (sym address) (k.cached i (omega arith)) (sym (upd_same (M.word Persisted) a (M.word Cached a)) ∙ z)));
            order = omega arith;
          },
          l,
        ),
        may owner (at_swap_clear i),
      ),
    )
      where
        s : Removed (set_word M Persisted a (M.word Cached a)) b d (suc i) i
        s = removed_stable (relies (Rule.back-word a) (λ e z. z)) k

    swap_clear_ok : Removed M b d (suc i) (suc i) → PlanOk (swap_clear i x owner)
    unfolding swap_clear more_of
    swap_clear_ok k = bit_alone (is_dirty_plain x.word w) a (Plain w false) (swapped owner (more_of i x.count))
        (λ t. sym v.word ∙ ap cell_of (dirty_plain x.word w t))
        (rw v.count (cond_lt (λ (y : Option ℕ). NextKnown owner M b d D (swapped owner y)) (suc i) (length b) (Some (suc i)) None
        (λ h. ((k, h), may owner (at_swap (suc i))))
        (λ h. let e : suc i ≡ length b = omega arith in end owner (rw e at k))))
      where
        w : ℕ
        w = left_value x.status x.entry

        end : (t : Bool) → Removed M b d (length b) (length b) → NextKnown t M b d D (swap_done t)
        end true s = (s, tt)
        end false s = tt

  -- 4. undecided, and all installed and persisted: every entry's word belongs to d
  all_belong : Installed M b d (length b) (length b) → M.status Cached d ≡ Undecided → AllBelong M d
  all_belong s u Cached a m = at_has b a (λ a. Belongs d (M.word Cached a)) (rw same_body at m) (s.cached u)
  all_belong s u Persisted a m = at_has b a (λ a. Belongs d (M.word Persisted a)) (rw same_body at m) (s.persisted u)

  decide_ok : (o : Outcome) → Knows M b d (Differed d) (Decide o) → (s : Status) → M.status Cached d ≡ s → PlanOk (decide o s)
  decide_ok o k Free u = absurd (live Cached u)
  decide_ok Succeeded k Undecided u = (Rule.decide d Succeeded u (cached_undecided (g.pair d) u (live Persisted)) (λ _. all_belong k u) (λ e. clash (cc)), λ e z. z, ((Succeeded, (true, upd_same (M.status Cached) d (Decided Succeeded true))), may owner at_settle))
  decide_ok Failed k Undecided u = (Rule.decide d Failed u (cached_undecided (g.pair d) u (live Persisted)) (λ e. clash (cc)) (λ _. k), λ e z. z, ((Failed, (true, upd_same (M.status Cached) d (Decided Failed true))), may owner at_settle))
  decide_ok o k (Decided q x) u = nothing (Go Settle) ((q, (x, u)), may owner at_settle)
  decide_ok o k (Bad y) u = absurd (rw u at good)

  -- 5.
  none_removed : (new : Cells) → Settled new d → Removed new b d 0 0
  none_removed new t = record { both = t; cached = λ j h. absurd (omega arith); persisted = λ j h. absurd (omega arith); order = omega arith }

  settle_ok : (o : Outcome) → Is o (M.status Cached d) → (s : Status) → M.status Cached d ≡ s → PlanOk (settle s)
  settle_ok o k Free u = absurd (live Cached u)
  settle_ok o k Undecided u = let q = k.1 in clash (cc)
  settle_ok o k (Decided r true) u = (Rule.back-status d, λ e z. z, ((r, (true, u), (true, upd_same (M.status Persisted) d (M.status Cached d) ∙ u)), may owner at_settle_clear))
  settle_ok o k (Decided r false) u = nothing (Go (Swap 0)) ((none_removed M (r, (false, u), cached_clean (g.pair d) r u), proper.some), may owner (at_swap 0))
  settle_ok o k (Bad y) u = absurd (rw u at good)

  settle_clear_ok : Settled M d → (s : Status) → M.status Cached d ≡ s → PlanOk (settle_clear s)
  settle_clear_ok k Free u = absurd (live Cached u)
  settle_clear_ok k Undecided u = let q = k.1.1 in clash (cc)
  settle_clear_ok k (Decided r x) u =
      let q = k.1.1 in let p = k.2.1 in let e : M.status Persisted d ≡ Decided r k.2.0 = cc in
      (Rule.clear d r x k.2.0 u e, λ e z. z, ((none_removed _ (r, (false, upd_same (M.status Cached) d (Decided r false)), (k.2.0, e)), proper.some), may owner (at_swap 0)))
  settle_clear_ok k (Bad y) u = absurd (rw u at good)

  -- 7. once all is removed, no word belongs to d
  pub none_belongs : Removed M b d (length b) (length b) → NoneBelongs M d
  none_belongs s Cached a p = at_has b a (λ a. ¬ (Belongs d (M.word Cached a))) (rw same_body at (g.live Cached a d p).1) s.cached p
  none_belongs s Persisted a p = at_has b a (λ a. ¬ (Belongs d (M.word Persisted a))) (rw same_body at (g.live Persisted a d p).1) s.persisted p

  -- every shared place
  pub step_ok : (p : Place) → Shared p → (x : Seen) → Sees M Cached d (place_entry p) x → (busy : Bool) → Knows M b d (Differed d) p → PlanOk (plan_of p d x busy owner)
  step_ok p (at_install i) x v busy k = install_ok i k.1 x v k.0
  step_ok p (at_install_clear i w) x v busy k = install_clear_ok i k.1 x v k.0 w
  step_ok p (at_persist i) x v busy k = persist_ok i k.1 x v busy k.0
  step_ok p (at_persist_clear i) x v busy k = persist_clear_ok i k.1 x v k.0
  step_ok p (at_decide o) x v busy k = decide_ok o k x.status (sym v.status)
  step_ok p at_settle x v busy k = settle_ok k.0 k.1 x.status (sym v.status)
  step_ok p at_settle_clear x v busy k = settle_clear_ok k x.status (sym v.status)
  step_ok p (at_swap i) x v busy k = swap_ok i k.1 x v k.0
  step_ok p (at_swap_back i) x v busy k = swap_back_ok i k.1 x v busy k.0
  step_ok p (at_swap_clear i) x v busy k = swap_clear_ok i k.1 x v k.0
