-- How many steps recovery takes: "Free: one step", else "2c+2 steps for count c"; complete exactly when the allowance covers their sum.
use Rattle.std.specs.Prelude.{◌≡◌, Bool, false, cond, List, ℕ, zero, suc, ◌+◌, ◌-◌, ◌*◌, ◌/◌, ◌%◌, ◌<◌, ◌≤◌, leb, ltb}
use Rattle.std.proofs.Math.Path.{refl}
use Rattle.std.proofs.Common.{sym, ap, ◌∙◌, arith, le-leb, leb-true, leb-false, ltb-true, ltb-false, None, Option}
use Rattle.std.proofs.Math.Bool.{true}
use Rattle.std.proofs.lemmas.Bool.{lt-leb}
use Rattle.word.specs.declared.Sort.TheVariants.{Plain}
use Rattle.word.specs.declared.Status.TheVariants.{Free}
use Rattle.steps.specs.declared.RecoveryPlace.{RecoveryPlace}
use Rattle.steps.specs.declared.RecoveryPlace.TheVariants.{Outside, At}
use Rattle.steps.specs.Plan.{is_free, left_value}
use Rattle.machine.specs.Recover.{place_after}
use Rattle.image.specs.Layout.{with_word, part_of, status_in, count_in, entry_in, with_status}
use Rattle.image.specs.Check.{image_refusal}
use Rattle.image.specs.CheckLaws.{accepted, sizes_small}
use Rattle.image.specs.LayoutLaws.{part_word, count_kept, part_status}
use Rattle.image.specs.PlanLaws.{Before, Past, plan_cases}
use Rattle.image.specs.Recover.{seen_in, performed_in, plan_in, image_after, place_then, run_from, answer_for, recover_of}
use Rattle.image.specs.Good.{Good, good, live_count}
use Rattle.image.specs.StepCount.{Held, steps_for, steps_from, steps_left, first_left, here_is, free_here, goes_left, over_left, at_most, from_most}
use Rattle.image.specs.Stays.{Reached, Stands, begins, entry_at, step_good, step_stands}
use Rattle.steps.specs.declared.Plan.{Plan}

-- what an image holds of its descriptors; the steps of the whole image
abbrev pub held_in : ℕ → List ℕ → Held
held_in n x = record { status = λ d. status_in (part_of x n d); count = λ d. count_in (part_of x n d) }

abbrev pub steps_of : ℕ → ℕ → List ℕ → ℕ
steps_of n k x = steps_from k (held_in n x) 0

abbrev left_in : ℕ → ℕ → List ℕ → RecoveryPlace → ℕ
left_in n k x p = steps_left k (held_in n x) p

-- a step is one of them
abbrev OneLess : ℕ → ℕ → List ℕ → ℕ → ℕ → Plan (Option ℕ) → Type 0
OneLess n k x d done q = left_in n k x (At d done) ≡ suc (left_in n k (performed_in x n d q.effect) (place_after k d q.next))

module _ (n k : ℕ) (x : List ℕ) (g : Good n k x) (d done : ℕ) (r : Reached n k x d done) where
  bound : (l : is_free (status_in (part_of x n d)) ≡ true → 0 < done) → done ≤ 2 * count_in (part_of x n d) + 1
  bound l = go (ltb 0 done) refl
    where
      go : (t : Bool) → ltb 0 done ≡ t → done ≤ 2 * count_in (part_of x n d) + 1
      go true e = (r.most (ltb-true 0 done e)).1
      go false e = let m = ltb-false 0 done e in omega arith

  ends : (is_free (status_in (part_of x n d)) ≡ true → 0 < done) → Past done (count_in (part_of x n d)) → (done % 2 ≡ 0 → ⊥) → done ≡ 2 * count_in (part_of x n d) + 1
  ends l p z = go (ltb done 8) (ltb (done / 2) (count_in (part_of x n d))) refl refl
    where
      go : (a b : Bool) → ltb done 8 ≡ a → ltb (done / 2) (count_in (part_of x n d)) ≡ b → done ≡ 2 * count_in (part_of x n d) + 1
      go true true e f = absurd (p (ltb-true _ _ e) (ltb-true _ _ f))
      go true false e f = let m = r.most (omega arith) in let h = ltb-false (done / 2) (count_in (part_of x n d)) f in let o = m.1 in omega arith
      go false b e f = let h = ltb-false done 8 e in let m = r.most (omega arith) in let o = m.1 in let c = m.0 in omega arith

  -- the place goes on at d, the parts after d are as they were
  goes : (y : List ℕ) → (is_free (status_in (part_of x n d)) ≡ true → 0 < done) → count_in (part_of y n d) ≡ count_in (part_of x n d)
      → ((i : ℕ) → suc d ≤ i → i < k → part_of y n i ≡ part_of x n i) → left_in n k x (At d done) ≡ suc (left_in n k y (At d (suc done)))
  goes y l c f = goes_left k (held_in n x) (held_in n y) d done l (bound l) c (λ e p q. ap (λ (b : List ℕ). steps_for (status_in b) (count_in b)) (f e p q))

  pub one_less : OneLess n k x d done (plan_in x n d done)
  unfolding plan_in seen_in
  one_less =
      plan_cases d done (seen_in x n d (done / 2)) (OneLess n k x d done)
      (λ e f. first e f)
      (λ l b z t.
      goes (with_word x (entry_in (part_of x n d) (done / 2)).address (Plain (left_value (status_in (part_of x n d)) (entry_in (part_of x n d) (done / 2))) false)) l
      (ap count_in (word l b d r.here))
      (λ i p q. word l b i q))
      (λ l b z t. goes x l refl (λ i p q. refl))
      (λ l b z. goes x l refl (λ i p q. refl))
      (λ l p z. goes (with_status x n d Free) l (count_kept n k x g.sized d r.here) (λ i h q. part_status n k x g.sized d r.here Free i q (λ e. omega arith)))
      (λ l p z. over_left k (held_in n x) (held_in n x) d done (here_is done (held_in n x) d l ∙ one (ends l p z)) (λ e p q. refl))
    where
      word : (is_free (status_in (part_of x n d)) ≡ true → 0 < done) → Before done (count_in (part_of x n d)) → (i : ℕ) → i < k
          → part_of (with_word x (entry_in (part_of x n d) (done / 2)).address (Plain (left_value (status_in (part_of x n d)) (entry_in (part_of x n d) (done / 2))) false)) n i ≡ part_of x n i
      word l b i q = part_word n k x g.sized (entry_in (part_of x n d) (done / 2)).address (entry_at n k x g d done r l b) (Plain (left_value (status_in (part_of x n d)) (entry_in (part_of x n d) (done / 2))) false) i q

      one : done ≡ 2 * count_in (part_of x n d) + 1 → 2 * count_in (part_of x n d) + 2 - done ≡ 1
      one e = omega arith

      first : done ≡ 0 → is_free (status_in (part_of x n d)) ≡ true → left_in n k x (At d done) ≡ suc (left_in n k x (place_after k d None))
      first e f = over_left k (held_in n x) (held_in n x) d done (free_here done (held_in n x) d e f) (λ i p q. refl)

pub step_counted : (n k : ℕ) (x : List ℕ) (d done : ℕ) → Good n k x → Reached n k x d done
    → left_in n k x (At d done) ≡ suc (left_in n k (image_after n x d done) (place_then n k x d done))
unfolding image_after place_then
step_counted n k x d done g r = one_less n k x g d done r

-- the steps taken are all that are left where the allowance covers them, else the allowance; recovery is complete exactly in the first case
leb_suc : (a b : ℕ) → leb a b ≡ leb (suc a) (suc b)
leb_suc a b = go (leb a b) refl
  where
    go : (t : Bool) → leb a b ≡ t → leb a b ≡ leb (suc a) (suc b)
    go true e = let l = leb-true a b e in e ∙ sym (le-leb (suc a) (suc b) (omega arith))
    go false e = let l = leb-false a b e in e ∙ sym (lt-leb (suc a) (suc b) (omega arith))

cond_suc : (t : Bool) (a b : ℕ) → suc (cond t a b) ≡ cond t (suc a) (suc b)
cond_suc true a b = refl
cond_suc false a b = refl

run_complete : (a n k : ℕ) (x : List ℕ) (p : RecoveryPlace) → Good n k x → Stands n k x p → (run_from a n k x p).complete ≡ leb (left_in n k x p) a
unfolding run_from steps_left
run_complete zero n k x Outside g r = sym (le-leb 0 0 (omega arith))
run_complete zero n k x (At d done) g r = let e = step_counted n k x d done g r in sym (lt-leb (left_in n k x (At d done)) 0 (omega arith))
run_complete (suc a) n k x Outside g r = sym (le-leb 0 (suc a) (omega arith))
run_complete (suc a) n k x (At d done) g r =
    let e = step_counted n k x d done g r in
    let i = run_complete a n k (image_after n x d done) (place_then n k x d done) (step_good n k x d done g r) (step_stands n k x d done g r) in
    i ∙ leb_suc (left_in n k (image_after n x d done) (place_then n k x d done)) a ∙ ap (λ (l : ℕ). leb l (suc a)) (sym e)

run_steps : (a n k : ℕ) (x : List ℕ) (p : RecoveryPlace) → Good n k x → Stands n k x p
    → (run_from a n k x p).steps ≡ cond (leb (left_in n k x p) a) (left_in n k x p) a
unfolding run_from steps_left
run_steps zero n k x Outside g r = refl
run_steps zero n k x (At d done) g r = let e = step_counted n k x d done g r in rw (lt-leb (left_in n k x (At d done)) 0 (omega arith))
run_steps (suc a) n k x Outside g r = rw (le-leb 0 (suc a) (omega arith))
run_steps (suc a) n k x (At d done) g r =
    let e = step_counted n k x d done g r in
    let q = left_in n k (image_after n x d done) (place_then n k x d done) in
    let i = run_steps a n k (image_after n x d done) (place_then n k x d done) (step_good n k x d done g r) (step_stands n k x d done g r) in
    ap suc i ∙ cond_suc (leb q a) q a ∙ ap (λ (t : Bool). cond t (suc q) (suc a)) (leb_suc q a) ∙ ap (λ (l : ℕ). cond (leb l (suc a)) l (suc a)) (sym e)

module _ (n k : ℕ) (x : List ℕ) (allowance : ℕ) (e : image_refusal n k x ≡ 0) where
  some : 0 < k
  some = (sizes_small n k (accepted n k x e).sizes).1.1.0

  pub steps_counted : (run_from allowance n k x (At 0 0)).steps ≡ cond (leb (steps_of n k x) allowance) (steps_of n k x) allowance
  steps_counted = rw (← first_left k (held_in n x) some) (run_steps allowance n k x (At 0 0) (good n k x (accepted n k x e)) (begins n k x 0 some))

  pub complete_exactly : (run_from allowance n k x (At 0 0)).complete ≡ leb (steps_of n k x) allowance
  complete_exactly = rw (← first_left k (held_in n x) some) (run_complete allowance n k x (At 0 0) (good n k x (accepted n k x e)) (begins n k x 0 some))

  -- what the caller is told
  pub told : (recover_of n k x allowance).result
      ≡ record { answer = answer_for (leb (steps_of n k x) allowance); steps = cond (leb (steps_of n k x) allowance) (steps_of n k x) allowance }
  unfolding recover_of
  told = rw (e, steps_counted, complete_exactly)

-- "at most 160 in all"
pub steps_most : (n k : ℕ) (x : List ℕ) → image_refusal n k x ≡ 0 → steps_of n k x ≤ 160
steps_most n k x e =
    let a = accepted n k x e in
    let g = good n k x a in
    let s = sizes_small n k a.sizes in
    let h = from_most k (held_in n x) 0 (λ d l m. at_most (status_in (part_of x n d)) (count_in (part_of x n d)) (λ f. (live_count n (part_of x n d) (g.bodies d (omega arith)) f).1)) in
    let l = s.1.1.1 in
    omega arith
