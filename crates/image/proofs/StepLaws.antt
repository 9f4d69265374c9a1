-- The steps of a live descriptor, two at each entry and two at the end: what each does, and what a visit is then.
use mathlib.Core.Path.{◌≡◌, refl, sym, ap, ◌∙◌}
use mathlib.Core.Bool.{Bool, true, false, cond}
use mathlib.Core.List.{List}
use Prim.Native.Nat.{ℕ, zero, suc, ◌+◌, ◌-◌, ◌*◌, ◌/◌, ◌%◌, ◌<◌, ◌≤◌}
use native.Mathlib.Omega.{arith}
use lib.Dec.{eqb, ltb}
use lib.ListN.{length}
use borrow.Author.Tests.{ne_eqb, lt-ltb, le-ltb}
use Rattle.word.specs.declared.Sort.{Sort}
use Rattle.word.specs.declared.Sort.TheVariants.{Plain}
use Rattle.word.specs.declared.Status.TheVariants.{Free}
use Rattle.word.specs.Word.{word_number}
use Rattle.word.specs.Status.{status_number}
use Rattle.little.specs.Laws.{number_length, number-after, byte_after}
use Rattle.steps.specs.declared.Effect.TheVariants.{BackWord, StoreStatus, BackStatus}
use Rattle.steps.specs.Plan.{is_free, points_to, left_value, store_if}
use Rattle.steps.specs.Recovery.{recovery_step, recovery_plan, live_step, entry_step, end_step}
use Rattle.std.specs.Prelude.{Some, None, Option, ℕ}
use Rattle.image.specs.Layout.{word_place, word_of, with_word, descriptor_place, part_of, status_in, count_in, entry_in, with_status}
use Rattle.image.specs.LayoutLaws.{same_part, part_number}
use Rattle.image.specs.Recover.{seen_in, performed_in, plan_in, image_after}
use Rattle.image.specs.Visit.{visited, visit_from, replaced}
use Rattle.std.proofs.Math.Bool.{and-false}
use Rattle.steps.specs.declared.Plan.{Plan}

-- a store keeps the length, and a word's store the descriptors
pub replaced_length : (x : List ℕ) (d a v : ℕ) → length (replaced x d a v) ≡ length x
unfolding replaced
replaced_length x d a v = go (points_to (word_of x a) d)
  where
    go : (t : Bool) → length (cond t (with_word x a (Plain v false)) x) ≡ length x
    go true = number_length x _ _
    go false = refl

pub replaced_part : (x : List ℕ) (n d a v : ℕ) → a < n → descriptor_place n d + 112 ≤ length x → part_of (replaced x d a v) n d ≡ part_of x n d
unfolding replaced
replaced_part x n d a v l h = go (points_to (word_of x a) d)
  where
    go : (t : Bool) → part_of (cond t (with_word x a (Plain v false)) x) n d ≡ part_of x n d
    go true =
        same_part x (with_word x a (Plain v false)) (descriptor_place n d) (number_length x (word_place a) (word_number (Plain v false))) h
        (λ i p q. byte_after x (word_place a) (word_number (Plain v false)) i (omega arith))
    go false = refl

pub freed_count : (x : List ℕ) (n d : ℕ) → descriptor_place n d + 112 ≤ length x → count_in (part_of (with_status x n d Free) n d) ≡ count_in (part_of x n d)
freed_count x n d h =
    let e = number_length x (descriptor_place n d) (status_number Free) in
    part_number (with_status x n d Free) (descriptor_place n d) 8 (omega arith) (omega arith)
    ∙ number-after x (descriptor_place n d) (status_number Free) (descriptor_place n d + 8) (omega arith)
    ∙ sym (part_number x (descriptor_place n d) 8 h (omega arith))

-- a step after which others follow, and one that is the last
pub next_step : (a n : ℕ) (x : List ℕ) (d done s : ℕ) → (plan_in x n d done).next ≡ Some s → visit_from (suc a) n x d done ≡ visit_from a n (image_after n x d done) d s
unfolding visit_from
next_step a n x d done s e = rw e

pub last_step : (a n : ℕ) (x : List ℕ) (d done : ℕ) → (plan_in x n d done).next ≡ None → visit_from (suc a) n x d done ≡ visited (image_after n x d done) (Some a)
unfolding visit_from
last_step a n x d done e = rw e

pub next_of : (q r : Plan (Option ℕ)) → q ≡ r → q.next ≡ r.next
next_of q r e = ap (λ (p : Plan (Option ℕ)). p.next) e

-- the steps of a live descriptor
module _ (n : ℕ) (x : List ℕ) (d : ℕ) (f : is_free (status_in (part_of x n d)) ≡ false) where
  live_plan : (done : ℕ) → plan_in x n d done ≡ live_step d done (seen_in x n d (done / 2))
  unfolding plan_in recovery_plan seen_in
  live_plan done = rw (f, and-false (eqb done 0))

  module _ (i : ℕ) (l : i < count_in (part_of x n d)) (m : count_in (part_of x n d) ≤ 4) where
    even_plan : plan_in x n d (2 * i)
        ≡ recovery_step
        (store_if (points_to (word_of x (entry_in (part_of x n d) i).address) d) (entry_in (part_of x n d) i).address
        (Plain (left_value (status_in (part_of x n d)) (entry_in (part_of x n d) i)) false))
        (Some (suc (2 * i)))
    unfolding live_step entry_step seen_in
    even_plan =
        let z : 2 * i / 2 ≡ i = omega arith in
        let y : 2 * i % 2 ≡ 0 = omega arith in
        live_plan (2 * i) ∙ rw (z, lt-ltb (2 * i) 8 (omega arith), lt-ltb i (count_in (part_of x n d)) l, y)

    odd_plan : plan_in x n d (suc (2 * i)) ≡ recovery_step (BackWord (entry_in (part_of x n d) i).address) (Some (suc (suc (2 * i))))
    unfolding live_step entry_step seen_in
    odd_plan =
        let z : suc (2 * i) / 2 ≡ i = omega arith in
        let y : suc (2 * i) % 2 ≡ 1 = omega arith in
        live_plan (suc (2 * i)) ∙ rw (z, lt-ltb (suc (2 * i)) 8 (omega arith), lt-ltb i (count_in (part_of x n d)) l, y)

    even_image : image_after n x d (2 * i) ≡ replaced x d (entry_in (part_of x n d) i).address (left_value (status_in (part_of x n d)) (entry_in (part_of x n d) i))
    unfolding image_after replaced
    even_image =
        rw even_plan
        (go (points_to (word_of x (entry_in (part_of x n d) i).address) d) (entry_in (part_of x n d) i).address
        (Plain (left_value (status_in (part_of x n d)) (entry_in (part_of x n d) i)) false))
      where
        go : (t : Bool) (a : ℕ) (s : Sort) → performed_in x n d (store_if t a s) ≡ cond t (with_word x a s) x
        go true a s = refl
        go false a s = refl

    odd_image : image_after n x d (suc (2 * i)) ≡ x
    unfolding image_after
    odd_image = rw odd_plan

  pub end_plan : plan_in x n d (2 * count_in (part_of x n d)) ≡ recovery_step (StoreStatus Free) (Some (suc (2 * count_in (part_of x n d))))
  unfolding live_step end_step seen_in
  end_plan =
      let c = count_in (part_of x n d) in
      let z : 2 * c / 2 ≡ c = omega arith in
      let y : 2 * c % 2 ≡ 0 = omega arith in
      live_plan (2 * c) ∙ rw (z, le-ltb c c (omega arith), and-false (ltb (2 * c) 8), y)

  pub end_image : image_after n x d (2 * count_in (part_of x n d)) ≡ with_status x n d Free
  unfolding image_after
  end_image = rw end_plan

-- its last step, after Free is stored
module _ (n : ℕ) (x : List ℕ) (d c : ℕ) (e : count_in (part_of x n d) ≡ c) where
  pub last_plan : plan_in x n d (suc (2 * c)) ≡ recovery_step BackStatus None
  unfolding plan_in recovery_plan live_step end_step seen_in
  last_plan =
      let z : suc (2 * c) / 2 ≡ c = omega arith in
      let y : suc (2 * c) % 2 ≡ 1 = omega arith in
      rw (ne_eqb (suc (2 * c)) 0 (λ q. omega arith), e, z, le-ltb c c (omega arith), and-false (ltb (suc (2 * c)) 8), y)

  pub last_image : image_after n x d (suc (2 * c)) ≡ x
  unfolding image_after
  last_image = rw last_plan

-- two steps at an entry, of an allowance for one at least
module _ (n : ℕ) (x : List ℕ) (d : ℕ) (f : is_free (status_in (part_of x n d)) ≡ false) (h : descriptor_place n d + 112 ≤ length x) (i : ℕ) (l : i < count_in (part_of x n d))
    (m : count_in (part_of x n d) ≤ 4) (a v : ℕ) (p : a ≡ (entry_in (part_of x n d) i).address) (q : v ≡ left_value (status_in (part_of x n d)) (entry_in (part_of x n d) i)) (o : a < n) where
  first : (b : ℕ) → visit_from (suc b) n x d (2 * i) ≡ visit_from b n (replaced x d a v) d (suc (2 * i))
  first b = next_step b n x d (2 * i) (suc (2 * i)) (next_of _ _ (even_plan n x d f i l m)) ∙ rw (even_image n x d f i l m, p, q)

  same : part_of (replaced x d a v) n d ≡ part_of x n d
  same = replaced_part x n d a v o h

  second : (b : ℕ) → visit_from (suc b) n (replaced x d a v) d (suc (2 * i)) ≡ visit_from b n (replaced x d a v) d (suc (suc (2 * i)))
  second b =
      let y = replaced x d a v in
      let g : is_free (status_in (part_of y n d)) ≡ false = rw same f in
      let j : i < count_in (part_of y n d) = rw same l in
      let k : count_in (part_of y n d) ≤ 4 = rw same m in
      next_step b n y d (suc (2 * i)) (suc (suc (2 * i))) (next_of _ _ (odd_plan n y d g i j k)) ∙ rw (odd_image n y d g i j k)

  pub visit_entry : (b : ℕ) → 0 < b → visit_from b n x d (2 * i) ≡ visit_from (b - 2) n (replaced x d a v) d (2 * (i + 1))
  unfolding visit_from
  visit_entry zero g = absurd (omega arith)
  visit_entry (suc zero) g = first 0
  visit_entry (suc (suc b)) g =
      let z : suc (suc b) - 2 ≡ b = omega arith in
      let y : 2 * (i + 1) ≡ suc (suc (2 * i)) = omega arith in
      first (suc b) ∙ second b ∙ rw (z, y)
