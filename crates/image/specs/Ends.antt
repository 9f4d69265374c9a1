-- A complete recovery leaves every status Free and every word plain; a word that was plain, dirty or not, is as it was after any number of steps.
use Rattle.std.specs.Prelude.{◌≡◌, refl, Bool, true, false, not, cond, ◌||◌, List, ℕ, zero, suc, ◌/◌, ◌%◌, ◌<◌, eqb, leb, ltb}
use Rattle.std.proofs.Common.{ap, ◌∙◌, arith, eqb-true, leb-false, ltb-false, None, Option}
use Rattle.std.proofs.lemmas.Bool.{eqb-false}
use Rattle.word.specs.declared.Sort.{Sort}
use Rattle.word.specs.declared.Sort.TheVariants.{Plain, Pointer, Neither}
use Rattle.word.specs.declared.Status.{Status}
use Rattle.word.specs.declared.Status.TheVariants.{Free, Undecided, Decided, Bad}
use Rattle.steps.specs.declared.RecoveryPlace.{RecoveryPlace}
use Rattle.steps.specs.declared.RecoveryPlace.TheVariants.{Outside, At}
use Rattle.steps.specs.Plan.{is_free, points_to, left_value}
use Rattle.machine.specs.Recover.{place_after, visit_after}
use Rattle.image.specs.Layout.{word_of, with_word, part_of, status_in, count_in, entry_in, with_status}
use Rattle.image.specs.Check.{is_neither, has_address, bad_target, bad_pointer, bad_pointer_at, image_refusal}
use Rattle.image.specs.CheckLaws.{or_left, or_right, accepted, sizes_small}
use Rattle.image.specs.LayoutLaws.{part_word, status_freed, part_status}
use Rattle.image.specs.PlanLaws.{Before, Past, plan_cases}
use Rattle.image.specs.Recover.{seen_in, performed_in, plan_in, image_after, place_then, run_from}
use Rattle.image.specs.Good.{Good, good}
use Rattle.image.specs.Stays.{Reached, Stands, begins, entry_at, step_good, step_stands, stays_accepted}
use Rattle.image.specs.Values.{step_word}
use Rattle.steps.specs.declared.Plan.{Plan}

abbrev pub is_plain : Sort → Bool
is_plain (Plain v dirty) = true
is_plain (Pointer d dirty) = false
is_plain (Neither w) = false

-- the descriptors passed are Free, and so is the one recovery stands at when only its last write-back is left
abbrev FreeBelow : ℕ → List ℕ → ℕ → Type 0
FreeBelow n x d = (e : ℕ) → e < d → is_free (status_in (part_of x n e)) ≡ true

abbrev FreeLast : ℕ → List ℕ → ℕ → ℕ → Type 0
FreeLast n x d done = Past done (count_in (part_of x n d)) → (done % 2 ≡ 0 → ⊥) → is_free (status_in (part_of x n d)) ≡ true

abbrev Behind : ℕ → ℕ → List ℕ → RecoveryPlace → Type 0
Behind n k x Outside = FreeBelow n x k
Behind n k x (At d done) = FreeBelow n x d × FreeLast n x d done

begun : (n k : ℕ) (x : List ℕ) (d : ℕ) → FreeBelow n x d → Behind n k x (At d 0)
begun n k x d f = (f, λ p z. absurd (z refl))

one-more : (n : ℕ) (x : List ℕ) (d : ℕ) → FreeBelow n x d → is_free (status_in (part_of x n d)) ≡ true → FreeBelow n x (suc d)
one-more n x d f h e l = go (eqb e d) refl
  where
    go : (t : Bool) → eqb e d ≡ t → is_free (status_in (part_of x n e)) ≡ true
    go true q = rw (eqb-true e d q) h
    go false q = let o : e ≡ d → ⊥ = eqb-false e d q in f e (omega arith)

visited : (n k : ℕ) (x : List ℕ) (d : ℕ) → FreeBelow n x (suc d) → Behind n k x (place_after k d None)
unfolding visit_after
visited n k x d f = go (ltb (suc d) k) refl
  where
    go : (t : Bool) → ltb (suc d) k ≡ t → Behind n k x (cond t (At (suc d) 0) Outside)
    go true e = begun n k x (suc d) f
    go false e = λ i l. let m = ltb-false (suc d) k e in f i (omega arith)

-- one step
abbrev BehindAfter : ℕ → ℕ → List ℕ → ℕ → Plan (Option ℕ) → Type 0
BehindAfter n k x d q = Behind n k (performed_in x n d q.effect) (place_after k d q.next)

module _ (n k : ℕ) (x : List ℕ) (g : Good n k x) (d done : ℕ) (r : Reached n k x d done) (b : Behind n k x (At d done)) where
  -- an entry is not the last
  entry_first : (c : ℕ) → Before done c → done % 2 ≡ 0 → Past (suc done) c → ⊥
  entry_first c l z p = let h = l.0 in let i = l.1 in p (omega arith) (omega arith)

  word_stored_behind : (a : ℕ) → a < n → (s : Sort) → Before done (count_in (part_of x n d)) → done % 2 ≡ 0 → Behind n k (with_word x a s) (At d (suc done))
  word_stored_behind a h s l z =
      let i = r.here in (
        λ e m. rw (part_word n k x g.sized a h s e (omega arith)) (b.0 e m),
        rw (part_word n k x g.sized a h s d i) (λ p o. absurd (entry_first (count_in (part_of x n d)) l z p)),
      )

  freed_behind : Behind n k (with_status x n d Free) (At d (suc done))
  freed_behind =
      let i = r.here in (
        λ e m. rw (part_status n k x g.sized d i Free e (omega arith) (λ q. omega arith)) (b.0 e m),
        λ p o. ap is_free (status_freed n k x g.sized d i),
      )

  behind_after : BehindAfter n k x d (plan_in x n d done)
  unfolding plan_in seen_in
  behind_after =
      plan_cases d done (seen_in x n d (done / 2)) (BehindAfter n k x d)
      (λ e f. visited n k x d (one-more n x d b.0 f))
      (λ l h z t.
      word_stored_behind (entry_in (part_of x n d) (done / 2)).address (entry_at n k x g d done r l h)
      (Plain (left_value (status_in (part_of x n d)) (entry_in (part_of x n d) (done / 2))) false)
      h
      z)
      (λ l h z t. (b.0, λ p o. absurd (entry_first (count_in (part_of x n d)) h z p)))
      (λ l h z. (b.0, λ p o. absurd (o (omega arith))))
      (λ l p z. freed_behind)
      (λ l p z. visited n k x d (one-more n x d b.0 (b.1 p z)))

  pub step_behind : Behind n k (image_after n x d done) (place_then n k x d done)
  unfolding image_after place_then
  step_behind = behind_after

run_frees : (s n k : ℕ) (x : List ℕ) (p : RecoveryPlace) → Good n k x → Stands n k x p → Behind n k x p → (run_from s n k x p).complete ≡ true
    → FreeBelow n (run_from s n k x p).bytes k
unfolding run_from
run_frees zero n k x Outside g r b c = b
run_frees zero n k x (At d done) g r b c = let z : ◌≡◌ {A = ℕ} 0 1 = cc in absurd (omega arith)
run_frees (suc s) n k x Outside g r b c = b
run_frees (suc s) n k x (At d done) g r b c =
    run_frees s n k (image_after n x d done) (place_then n k x d done) (step_good n k x d done g r) (step_stands n k x d done g r) (step_behind n k x g d done r b) c

pub is-free : (s : Status) → is_free s ≡ true → s ≡ Free
is-free Free e = refl
is-free Undecided e = let z : ◌≡◌ {A = ℕ} 0 1 = cc in absurd (omega arith)
is-free (Decided o dirty) e = let z : ◌≡◌ {A = ℕ} 0 1 = cc in absurd (omega arith)
is-free (Bad v) e = let z : ◌≡◌ {A = ℕ} 0 1 = cc in absurd (omega arith)

-- where every status is Free no word is a pointer
free_plain : (n k : ℕ) (x : List ℕ) (a : ℕ) → FreeBelow n x k → (w : Sort) → is_neither w ≡ false → bad_pointer n k x a w ≡ false → is_plain w ≡ true
unfolding bad_target
free_plain n k x a f (Plain v dirty) e h = refl
free_plain n k x a f (Neither v) e h = let z : ◌≡◌ {A = ℕ} 0 1 = cc in absurd (omega arith)
free_plain n k x a f (Pointer d dirty) e h =
    let s = is_free (status_in (part_of x n d)) || not (has_address (part_of x n d) a) in
    let l : d < k = leb-false k d (or_left (leb k d) s h) in
    let i : is_free (status_in (part_of x n d)) ≡ false = or_left (is_free (status_in (part_of x n d))) (not (has_address (part_of x n d) a)) (or_right (leb k d) s h) in
    let j = f d l in
    let z : ◌≡◌ {A = ℕ} 0 1 = cc in
    absurd (omega arith)

module _ (n k : ℕ) (x : List ℕ) (s : ℕ) (e : image_refusal n k x ≡ 0) (c : (run_from s n k x (At 0 0)).complete ≡ true) where
  free_below : FreeBelow n (run_from s n k x (At 0 0)).bytes k
  free_below =
      let a = accepted n k x e in
      run_frees s n k x (At 0 0) (good n k x a) (begins n k x 0 (sizes_small n k a.sizes).1.1.0) (begun n k x 0 (λ i l. absurd (omega arith))) c

  pub complete_frees : (d : ℕ) → d < k → status_in (part_of (run_from s n k x (At 0 0)).bytes n d) ≡ Free
  complete_frees d l = is-free (status_in (part_of (run_from s n k x (At 0 0)).bytes n d)) (free_below d l)

  pub complete_plain : (a : ℕ) → a < n → is_plain (word_of (run_from s n k x (At 0 0)).bytes a) ≡ true
  unfolding bad_pointer_at
  complete_plain a l =
      let y = (run_from s n k x (At 0 0)).bytes in
      let g = good n k y (accepted n k y (stays_accepted n k x s e)) in
      free_plain n k y a free_below (word_of y a) (g.words a l) (g.pointers a l)

  -- where a run is complete every status is Free and every word is plain
  pub complete_leaves : ((d : ℕ) → d < k → status_in (part_of (run_from s n k x (At 0 0)).bytes n d) ≡ Free)
      × ((a : ℕ) → a < n → is_plain (word_of (run_from s n k x (At 0 0)).bytes a) ≡ true)
  complete_leaves = (complete_frees, complete_plain)

-- a plain word is as it was, its dirty bit too
not-there : (w : Sort) (d : ℕ) → is_plain w ≡ true → points_to w d ≡ true → ⊥
not-there (Plain v dirty) d e h = let z : ◌≡◌ {A = ℕ} 0 1 = cc in omega arith
not-there (Pointer c dirty) d e h = let z : ◌≡◌ {A = ℕ} 0 1 = cc in omega arith
not-there (Neither v) d e h = let z : ◌≡◌ {A = ℕ} 0 1 = cc in omega arith

step_plain : (n k : ℕ) (x : List ℕ) (d done : ℕ) → Good n k x → Reached n k x d done → (a : ℕ) → a < n → is_plain (word_of x a) ≡ true
    → word_of (image_after n x d done) a ≡ word_of x a
step_plain n k x d done g r a h e =
    step_word n k x g d done r a h (λ y. word_of y a ≡ word_of x a) (λ t l. absurd (not-there (word_of x a) d e t)) (λ y w b v. w)

run_plain : (s n k : ℕ) (x : List ℕ) (p : RecoveryPlace) → Good n k x → Stands n k x p → (a : ℕ) → a < n → is_plain (word_of x a) ≡ true
    → word_of (run_from s n k x p).bytes a ≡ word_of x a
unfolding run_from
run_plain zero n k x p g r a h e = refl
run_plain (suc s) n k x Outside g r a h e = refl
run_plain (suc s) n k x (At d done) g r a h e =
    let w = step_plain n k x d done g r a h e in
    run_plain s n k (image_after n x d done) (place_then n k x d done) (step_good n k x d done g r) (step_stands n k x d done g r) a h (ap is_plain w ∙ e) ∙ w

pub plain_kept : (n k : ℕ) (x : List ℕ) (s : ℕ) → image_refusal n k x ≡ 0 → (a : ℕ) → a < n → is_plain (word_of x a) ≡ true
    → word_of (run_from s n k x (At 0 0)).bytes a ≡ word_of x a
plain_kept n k x s e a h p =
    let c = accepted n k x e in
    run_plain s n k x (At 0 0) (good n k x c) (begins n k x 0 (sizes_small n k c.sizes).1.1.0) a h p
