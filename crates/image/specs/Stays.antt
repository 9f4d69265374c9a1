-- An accepted image stays accepted after any number of recovery steps.
use Rattle.std.specs.Prelude.{◌≡◌, Bool, cond, ◌||◌, List, ℕ, zero, suc, ◌+◌, ◌*◌, ◌/◌, ◌%◌, ◌<◌, ◌≤◌, ◌^◌, leb, ltb}
use Rattle.std.proofs.Math.Path.{refl, sym}
use Rattle.std.proofs.Common.{ap, ◌∙◌, arith, None, Option}
use Rattle.std.proofs.Math.Bool.{true, false, not}
use Rattle.std.proofs.Math.Dec.{eqb}
use borrow.Author.Tests.{eqb-true, ltb-true, ltb-false, not-false}
use Rattle.word.specs.declared.Sort.TheVariants.{Plain}
use Rattle.word.specs.declared.Status.TheVariants.{Free}
use Rattle.steps.specs.declared.RecoveryPlace.{RecoveryPlace}
use Rattle.steps.specs.declared.RecoveryPlace.TheVariants.{Outside, At}
use Rattle.steps.specs.Plan.{is_free, points_to, outcome_of, left_value}
use Rattle.machine.specs.Recover.{place_after, visit_after}
use Rattle.image.specs.Layout.{word_of, with_word, part_of, status_in, count_in, entry_in, with_status}
use Rattle.image.specs.Check.{has_within, has_address, bad_target, bad_pointer_at, image_refusal}
use Rattle.image.specs.CheckLaws.{or_left, or_right, below_some, accepted, sizes_small}
use Rattle.image.specs.LayoutLaws.{part_word, status_freed, count_kept}
use Rattle.image.specs.PlanLaws.{Before, Past, plan_cases}
use Rattle.image.specs.Recover.{seen_in, performed_in, plan_in, image_after, place_then, run_from}
use Rattle.image.specs.Good.{Good, good, good_back, points_target, word_is, good_word, good_free, live_count, entry_good, entry_small, chosen_small}
use Rattle.steps.specs.declared.Plan.{Plan}

-- where recovery can stand in such an image: the entries passed are cleared; a descriptor is Free before its first step, or its entries are over
pub record Reached (n k : ℕ) (x : List ℕ) (d done : ℕ) : Type 0 where
  pub here : d < k
  pub cleared : is_free (status_in (part_of x n d)) ≡ false → (i : ℕ) → i < count_in (part_of x n d) → 2 * i < done → points_to (word_of x (entry_in (part_of x n d) i).address) d ≡ false
  pub freed : is_free (status_in (part_of x n d)) ≡ true → 0 < done → Past done (count_in (part_of x n d))
  pub most : 0 < done → (count_in (part_of x n d) ≤ 4) × (done ≤ 2 * count_in (part_of x n d) + 1)

abbrev pub Stands : ℕ → ℕ → List ℕ → RecoveryPlace → Type 0
Stands n k x Outside = Unit
Stands n k x (At d done) = Reached n k x d done

pub begins : (n k : ℕ) (x : List ℕ) (d : ℕ) → d < k → Reached n k x d 0
begins n k x d h = record { here = h; cleared = λ f i l m. absurd (omega arith); freed = λ f l. absurd (omega arith); most = λ l. absurd (omega arith) }

visits : (n k : ℕ) (x : List ℕ) (d : ℕ) → Stands n k x (place_after k d None)
unfolding visit_after
visits n k x d = go (ltb (suc d) k) refl
  where
    go : (t : Bool) → ltb (suc d) k ≡ t → Stands n k x (cond t (At (suc d) 0) Outside)
    go true e = begins n k x (suc d) (ltb-true _ _ e)
    go false e = tt

past_after : (done c i : ℕ) → Past done c → i < c → c ≤ 4 → 2 * i < done
past_after done c i p h l = go (ltb done 8) (ltb (done / 2) c) refl refl
  where
    go : (a b : Bool) → ltb done 8 ≡ a → ltb (done / 2) c ≡ b → 2 * i < done
    go true true e f = absurd (p (ltb-true _ _ e) (ltb-true _ _ f))
    go true false e f = let m = ltb-false (done / 2) c f in omega arith
    go false b e f = let m = ltb-false done 8 e in omega arith

-- no word points to a descriptor whose entries are over
module _ (n k : ℕ) (x : List ℕ) (g : Good n k x) (d done : ℕ) (r : Reached n k x d done) where
  pub live : (t : Bool) → is_free (status_in (part_of x n d)) ≡ t → (is_free (status_in (part_of x n d)) ≡ true → 0 < done) → Before done (count_in (part_of x n d))
      → is_free (status_in (part_of x n d)) ≡ false
  live true e l b = absurd (r.freed e (l e) b.0 b.1)
  live false e l b = e

  pub entry_at : (is_free (status_in (part_of x n d)) ≡ true → 0 < done) → Before done (count_in (part_of x n d)) → (entry_in (part_of x n d) (done / 2)).address < n
  entry_at l b =
      (entry_small n (entry_in (part_of x n d) (done / 2))
      (entry_good n (part_of x n d) (g.bodies d r.here) (live (is_free (status_in (part_of x n d))) refl l b) (done / 2) b.1)
      ).0

  pub none_points : Past done (count_in (part_of x n d)) → (a : ℕ) → a < n → points_to (word_of x a) d ≡ false
  unfolding bad_pointer_at bad_target has_within
  none_points past a h = go (points_to (word_of x a) d) refl
    where
      go : (t : Bool) → points_to (word_of x a) d ≡ t → points_to (word_of x a) d ≡ false
      go false e = e
      go true e =
          let q : bad_target n k x a d ≡ false = sym (points_target n k x a d (word_of x a) e) ∙ g.pointers a h in
          let s = or_right (leb k d) (is_free (status_in (part_of x n d)) || not (has_address (part_of x n d) a)) q in
          let f : is_free (status_in (part_of x n d)) ≡ false = or_left (is_free (status_in (part_of x n d))) (not (has_address (part_of x n d) a)) s in
          let t : has_address (part_of x n d) a ≡ true = not-false (has_address (part_of x n d) a) (or_right (is_free (status_in (part_of x n d))) (not (has_address (part_of x n d) a)) s) in
          let i = below_some (λ j. eqb (entry_in (part_of x n d) j).address a) (count_in (part_of x n d)) t in
          let c = live_count n (part_of x n d) (g.bodies d r.here) f in
          let m : i.number < count_in (part_of x n d) = i.below in
          let w : (entry_in (part_of x n d) i.number).address ≡ a = eqb-true _ _ i.holds in
          rw w at (r.cleared f i.number m (past_after done (count_in (part_of x n d)) i.number past m c.1))

-- one step
abbrev After : ℕ → ℕ → List ℕ → ℕ → Plan (Option ℕ) → Type 0
After n k x d q = Good n k (performed_in x n d q.effect) × Stands n k (performed_in x n d q.effect) (place_after k d q.next)

module _ (n k : ℕ) (x : List ℕ) (g : Good n k x) (d done : ℕ) (r : Reached n k x d done) where
  -- the image is as it was, and one more step is done
  further : is_free (status_in (part_of x n d)) ≡ false → Before done (count_in (part_of x n d))
      → (done % 2 ≡ 0 → points_to (word_of x (entry_in (part_of x n d) (done / 2)).address) d ≡ false) → Reached n k x d (suc done)
  further f b c =
      let l = b.1 in
      record {
        here = r.here;
        cleared = λ e i m q. go i m q (ltb (2 * i) done) refl;
        freed = λ e q. let z : ◌≡◌ {A = ℕ} 0 1 = cc in absurd (omega arith);
        most = λ q. ((live_count n (part_of x n d) (g.bodies d r.here) f).1, omega arith);
      }
    where
      go : (i : ℕ) → i < count_in (part_of x n d) → 2 * i < suc done → (t : Bool) → ltb (2 * i) done ≡ t
          → points_to (word_of x (entry_in (part_of x n d) i).address) d ≡ false
      go i m q true e = r.cleared f i m (ltb-true _ _ e)
      go i m q false e =
          let o = ltb-false (2 * i) done e in
          let y : done / 2 ≡ i = omega arith in
          let v : done % 2 ≡ 0 = omega arith in
          rw y at (c v)

  -- the entry's word is stored
  stored : is_free (status_in (part_of x n d)) ≡ false → Before done (count_in (part_of x n d)) → done % 2 ≡ 0 → (v : ℕ) → v < 2 ^ 61
      → (entry_in (part_of x n d) (done / 2)).address < n
      → Reached n k (with_word x (entry_in (part_of x n d) (done / 2)).address (Plain v false)) d (suc done)
  stored f b z v l h =
      let p = part_word n k x g.sized (entry_in (part_of x n d) (done / 2)).address h (Plain v false) d r.here in
      let o = b.1 in
      record {
        here = r.here;
        cleared = λ e. rw p (λ i m q. go i m q);
        freed = λ e q. let c : is_free (status_in (part_of x n d)) ≡ true = rw p at e in let y : ◌≡◌ {A = ℕ} 0 1 = cc in absurd (omega arith);
        most = λ q. rw p ((live_count n (part_of x n d) (g.bodies d r.here) f).1, omega arith);
      }
    where
      less : (i : ℕ) → 2 * i < suc done → ((entry_in (part_of x n d) (done / 2)).address ≡ (entry_in (part_of x n d) i).address → ⊥) → (t : Bool) → ltb (2 * i) done ≡ t → 2 * i < done
      less i q o true e = ltb-true _ _ e
      less i q o false e =
          let c = ltb-false (2 * i) done e in
          let y : done / 2 ≡ i = omega arith in
          absurd (o (ap (λ (j : ℕ). (entry_in (part_of x n d) j).address) y))

      go : (i : ℕ) → i < count_in (part_of x n d) → 2 * i < suc done
          → points_to (word_of (with_word x (entry_in (part_of x n d) (done / 2)).address (Plain v false)) (entry_in (part_of x n d) i).address) d ≡ false
      go i m q =
          word_is n k x g (entry_in (part_of x n d) (done / 2)).address h v l (λ s. points_to s d ≡ false) (entry_in (part_of x n d) i).address refl
          (λ o. r.cleared f i m (less i q o (ltb (2 * i) done) refl))

  -- Free is stored
  over : (is_free (status_in (part_of x n d)) ≡ true → 0 < done) → Past done (count_in (part_of x n d)) → done % 2 ≡ 0 → Reached n k (with_status x n d Free) d (suc done)
  over l past z =
      let s = status_freed n k x g.sized d r.here in
      let c = count_kept n k x g.sized d r.here in
      record {
        here = r.here;
        cleared = λ e. let j : is_free Free ≡ false = rw s at e in let y : ◌≡◌ {A = ℕ} 0 1 = cc in absurd (omega arith);
        freed = λ e q. rw c (λ h m. past (omega arith) (omega arith));
        most = λ q. rw c (bound (ltb 0 done) (is_free (status_in (part_of x n d))) refl refl);
      }
    where
      bound : (t u : Bool) → ltb 0 done ≡ t → is_free (status_in (part_of x n d)) ≡ u → (count_in (part_of x n d) ≤ 4) × (suc done ≤ 2 * count_in (part_of x n d) + 1)
      bound true u e f = let m = r.most (ltb-true 0 done e) in (m.0, omega arith)
      bound false true e f = let m = ltb-false 0 done e in let v = l f in absurd (omega arith)
      bound false false e f = let m = ltb-false 0 done e in ((live_count n (part_of x n d) (g.bodies d r.here) f).1, omega arith)

  pub step_after : After n k x d (plan_in x n d done)
  unfolding plan_in seen_in
  step_after =
      plan_cases d done (seen_in x n d (done / 2)) (After n k x d)
      (λ e f. (g, visits n k x d))
      (λ l b z t.
      let f = live n k x g d done r (is_free (status_in (part_of x n d))) refl l b in
      let e = entry_small n (entry_in (part_of x n d) (done / 2)) (entry_good n (part_of x n d) (g.bodies d r.here) f (done / 2) b.1) in
      let v = chosen_small (outcome_of (status_in (part_of x n d))) (entry_in (part_of x n d) (done / 2)) e.1.0 e.1.1 in (
        good_word n k x g (entry_in (part_of x n d) (done / 2)).address e.0 (left_value (status_in (part_of x n d)) (entry_in (part_of x n d) (done / 2))) v,
        stored f b z (left_value (status_in (part_of x n d)) (entry_in (part_of x n d) (done / 2))) v e.0,
      ))
      (λ l b z t. (g, further (live n k x g d done r (is_free (status_in (part_of x n d))) refl l b) b (λ y. t)))
      (λ l b z. (g, further (live n k x g d done r (is_free (status_in (part_of x n d))) refl l b) b (λ y. absurd (z y))))
      (λ l p z. (good_free n k x g d r.here (none_points n k x g d done r p), over l p z))
      (λ l p z. (g, visits n k x d))

pub step_good : (n k : ℕ) (x : List ℕ) (d done : ℕ) → Good n k x → Reached n k x d done → Good n k (image_after n x d done)
unfolding image_after
step_good n k x d done g r = (step_after n k x g d done r).0

pub step_stands : (n k : ℕ) (x : List ℕ) (d done : ℕ) → Good n k x → Reached n k x d done → Stands n k (image_after n x d done) (place_then n k x d done)
unfolding image_after place_then
step_stands n k x d done g r = (step_after n k x g d done r).1

-- any number of steps
run_good : (s n k : ℕ) (x : List ℕ) (p : RecoveryPlace) → Good n k x → Stands n k x p → Good n k (run_from s n k x p).bytes
unfolding run_from
run_good zero n k x p g r = g
run_good (suc s) n k x Outside g r = g
run_good (suc s) n k x (At d done) g r = run_good s n k (image_after n x d done) (place_then n k x d done) (step_good n k x d done g r) (step_stands n k x d done g r)

pub stays_accepted : (n k : ℕ) (x : List ℕ) (s : ℕ) → image_refusal n k x ≡ 0 → image_refusal n k (run_from s n k x (At 0 0)).bytes ≡ 0
stays_accepted n k x s e =
    let a = accepted n k x e in
    let m = sizes_small n k a.sizes in
    good_back n k (run_from s n k x (At 0 0)).bytes a.sizes (run_good s n k x (At 0 0) (good n k x a) (begins n k x 0 m.1.1.0))
