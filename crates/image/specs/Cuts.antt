-- The bytes that a complete recovery leaves do not depend on how often and where recovery was cut before.
use Rattle.std.specs.Prelude.{◌≡◌, refl, Bool, true, false, List, [], ◌∷◌, ◌++◌, ℕ, zero, suc, ◌+◌, ◌-◌, ◌*◌, ◌/◌, ◌%◌, ◌<◌, ◌≤◌, ◌^◌, eqb, ltb, length, get_or, take, drop}
use Rattle.std.proofs.Common.{sym, ap, ◌∙◌, append_assoc, arith, length-take-le, take_at, drop_at, get_or-take, get_or-drop, ext_get_or, eqb-true, le-leb, ltb-true, ltb-false}
use Rattle.word.specs.declared.Sort.{Sort}
use Rattle.word.specs.declared.Sort.TheVariants.{Plain, Pointer, Neither}
use Rattle.word.specs.declared.Status.TheVariants.{Free}
use Rattle.word.specs.Word.{word_number}
use Rattle.word.specs.Status.{status_of, status_number}
use Rattle.steps.specs.declared.RecoveryPlace.{RecoveryPlace}
use Rattle.steps.specs.declared.RecoveryPlace.TheVariants.{Outside, At}
use Rattle.steps.specs.Plan.{is_free, points_to, left_value}
use Rattle.little.specs.Number.{number_of, bytes_of, number_at, with_number}
use Rattle.little.specs.Laws.{byte_before, byte_after}
use Rattle.image.specs.Layout.{Sized, word_place, word_of, with_word, descriptor_place, part_of, status_in, entry_in, with_status}
use Rattle.image.specs.Check.{image_refusal}
use Rattle.image.specs.CheckLaws.{accepted, sizes_small}
use Rattle.image.specs.LayoutLaws.{part_number, word_stored}
use Rattle.image.specs.PlanLaws.{plan_cases}
use Rattle.image.specs.Recover.{seen_in, performed_in, plan_in, image_after, place_then, run_from, recover_of}
use Rattle.image.specs.Good.{Good, good}
use Rattle.image.specs.Stays.{Reached, Stands, begins, entry_at, step_good, step_stands, stays_accepted}
use Rattle.image.specs.Values.{value_in, runs, step_word, cuts_accepted}
use Rattle.image.specs.Ends.{is_plain, complete_frees, complete_plain}

-- the bytes of a number stored
byte_stored : (s : List ℕ) (at v j : ℕ) → at + 8 ≤ length s → j < 8 → get_or (with_number s at v) (at + j) 0 ≡ get_or (bytes_of 8 v) j 0
unfolding with_number
byte_stored s at v j h m =
    let l = bytes_of 8 v ++ drop (at + 8) s in
    let b : length (take at s) ≡ at = length-take-le at s (omega arith) in
    rw (le-leb _ _ h, append_assoc)
    (sym (get_or-drop at (take at s ++ l) j 0)
    ∙ ap (λ (q : List ℕ). get_or q j 0) (drop_at (take at s) l at b)
    ∙ sym (get_or-take 8 l j 0 m)
    ∙ ap (λ (q : List ℕ). get_or q j 0) (take_at (bytes_of 8 v) (drop (at + 8) s) 8 refl))

-- byte j of the word at a when recovery is over: its own where the word is no pointer, else of its value
abbrev pub byte_by : ℕ → List ℕ → ℕ → ℕ → Sort → ℕ
byte_by n x a j (Plain v dirty) = get_or x (word_place a + j) 0
byte_by n x a j (Pointer d dirty) = get_or (bytes_of 8 (word_number (Plain (value_in n x a) false))) j 0
byte_by n x a j (Neither w) = get_or x (word_place a + j) 0

abbrev pub word_end : ℕ → List ℕ → ℕ → ℕ → ℕ
word_end n x a j = byte_by n x a j (word_of x a)

-- byte j of descriptor d
abbrev pub part_byte : ℕ → List ℕ → ℕ → ℕ → ℕ
part_byte n x d j = get_or x (descriptor_place n d + j) 0

points_byte : (n : ℕ) (x : List ℕ) (a j d : ℕ) (w : Sort) → points_to w d ≡ true → byte_by n x a j w ≡ get_or (bytes_of 8 (word_number (Plain (value_in n x a) false))) j 0
points_byte n x a j d (Plain v dirty) e = let z : ◌≡◌ {A = ℕ} 0 1 = cc in absurd (omega arith)
points_byte n x a j d (Pointer c dirty) e = refl
points_byte n x a j d (Neither v) e = let z : ◌≡◌ {A = ℕ} 0 1 = cc in absurd (omega arith)

pub plain_byte : (n : ℕ) (x : List ℕ) (a j : ℕ) (w : Sort) → is_plain w ≡ true → byte_by n x a j w ≡ get_or x (word_place a + j) 0
plain_byte n x a j (Plain v dirty) e = refl
plain_byte n x a j (Pointer c dirty) e = let z : ◌≡◌ {A = ℕ} 0 1 = cc in absurd (omega arith)
plain_byte n x a j (Neither v) e = refl

pub same_byte : (n : ℕ) (x y : List ℕ) (a j : ℕ) (w : Sort) → get_or y (word_place a + j) 0 ≡ get_or x (word_place a + j) 0 → value_in n y a ≡ value_in n x a
    → byte_by n y a j w ≡ byte_by n x a j w
same_byte n x y a j (Plain v dirty) e f = e
same_byte n x y a j (Pointer c dirty) e f = ap (λ (v : ℕ). get_or (bytes_of 8 (word_number (Plain v false))) j 0) f
same_byte n x y a j (Neither v) e f = e

-- y comes from x by recovery: the words end as they would, and all but the statuses is as it was
abbrev pub From : ℕ → ℕ → List ℕ → List ℕ → Type 0
From n k x y = ((a j : ℕ) → a < n → j < 8 → word_end n y a j ≡ word_end n x a j) × ((d j : ℕ) → d < k → 8 ≤ j → j < 112 → part_byte n y d j ≡ part_byte n x d j)

pub from_then : (n k : ℕ) (x y z : List ℕ) → From n k x y → From n k y z → From n k x z
from_then n k x y z f g = (λ a j h l. g.0 a j h l ∙ f.0 a j h l, λ d j h l m. g.1 d j h l m ∙ f.1 d j h l m)

-- one step
module _ (n k : ℕ) (x : List ℕ) (g : Good n k x) (d done : ℕ) (r : Reached n k x d done) where
  step_byte : (a j : ℕ) → a < n → j < 8 → word_end n (image_after n x d done) a j ≡ word_end n x a j
  step_byte a j h m =
      step_word n k x g d done r a h (λ y. word_end n y a j ≡ word_end n x a j)
      (λ t l. new (value_in n x a) l ∙ sym (points_byte n x a j d (word_of x a) t))
      (λ y w b v. ap (λ (s : Sort). byte_by n y a j s) w ∙ same_byte n x y a j (word_of x a) (b j m) v)
    where
      new : (v : ℕ) → v < 2 ^ 61 → word_end n (with_word x a (Plain v false)) a j ≡ get_or (bytes_of 8 (word_number (Plain v false))) j 0
      new v l =
          let e = g.sized.bytes in
          ap (λ (s : Sort). byte_by n (with_word x a (Plain v false)) a j s) (word_stored n k x g.sized a h v l)
          ∙ byte_stored x (word_place a) (word_number (Plain v false)) j (omega arith) m

  freed_part : (e j : ℕ) → 8 ≤ j → j < 112 → (t : Bool) → ltb e d ≡ t → part_byte n (with_status x n d Free) e j ≡ part_byte n x e j
  freed_part e j l m true f = let i = ltb-true e d f in byte_before x (descriptor_place n d) (status_number Free) (descriptor_place n e + j) (omega arith)
  freed_part e j l m false f = let i = ltb-false e d f in byte_after x (descriptor_place n d) (status_number Free) (descriptor_place n e + j) (omega arith)

  word_part : (a : ℕ) → a < n → (s : Sort) (e j : ℕ) → part_byte n (with_word x a s) e j ≡ part_byte n x e j
  word_part a h s e j = byte_after x (word_place a) (word_number s) (descriptor_place n e + j) (omega arith)

  step_part : (e j : ℕ) → e < k → 8 ≤ j → j < 112 → part_byte n (image_after n x d done) e j ≡ part_byte n x e j
  unfolding image_after plan_in seen_in
  step_part e j h l m =
      plan_cases d done (seen_in x n d (done / 2)) (λ q. part_byte n (performed_in x n d q.effect) e j ≡ part_byte n x e j)
      (λ u v. refl)
      (λ u b z t.
      word_part (entry_in (part_of x n d) (done / 2)).address (entry_at n k x g d done r u b)
      (Plain (left_value (status_in (part_of x n d)) (entry_in (part_of x n d) (done / 2))) false)
      e
      j)
      (λ u b z t. refl)
      (λ u b z. refl)
      (λ u p z. freed_part e j l m (ltb e d) refl)
      (λ u p z. refl)

  step_from : From n k x (image_after n x d done)
  step_from = (step_byte, step_part)

run-from : (s n k : ℕ) (x : List ℕ) (p : RecoveryPlace) → Good n k x → Stands n k x p → From n k x (run_from s n k x p).bytes
unfolding run_from
run-from zero n k x p g r = (λ a j h l. refl, λ d j h l m. refl)
run-from (suc s) n k x Outside g r = (λ a j h l. refl, λ d j h l m. refl)
run-from (suc s) n k x (At d done) g r =
    let y = image_after n x d done in
    let q = place_then n k x d done in
    from_then n k x y (run_from s n k y q).bytes (step_from n k x g d done r) (run-from s n k y q (step_good n k x d done g r) (step_stands n k x d done g r))

pub cut_from : (n k : ℕ) (x : List ℕ) (s : ℕ) → image_refusal n k x ≡ 0 → From n k x (run_from s n k x (At 0 0)).bytes
cut_from n k x s e =
    let c = accepted n k x e in
    run-from s n k x (At 0 0) (good n k x c) (begins n k x 0 (sizes_small n k c.sizes).1.1.0)

cuts_from : (n k : ℕ) (x : List ℕ) (ss : List ℕ) → image_refusal n k x ≡ 0 → From n k x (runs ss n k x)
cuts_from n k x [] e = (λ a j h l. refl, λ d j h l m. refl)
cuts_from n k x (s ∷ ss) e =
    let y = (run_from s n k x (At 0 0)).bytes in
    from_then n k x y (runs ss n k y) (cut_from n k x s e) (cuts_from n k y ss (stays_accepted n k x s e))

-- the bytes of a Free status are 0
number_zero : (l : List ℕ) → number_of l ≡ 0 → (j : ℕ) → get_or l j 0 ≡ 0
number_zero [] e j = refl
number_zero (b ∷ l) e zero = omega arith
number_zero (b ∷ l) e (suc j) = number_zero l (omega arith) j

free_zero : (v : ℕ) → is_free (status_of v) ≡ true → v ≡ 0
unfolding status_of
free_zero v e = go (eqb v 0) (eqb v 1) (eqb (v % 2 ^ 63) 2) (eqb (v % 2 ^ 63) 3) refl refl refl refl
  where
    go : (a b c d : Bool) → eqb v 0 ≡ a → eqb v 1 ≡ b → eqb (v % 2 ^ 63) 2 ≡ c → eqb (v % 2 ^ 63) 3 ≡ d → v ≡ 0
    go true b c d p q r s = eqb-true v 0 p
    go false true c d p q r s = let y : ◌≡◌ {A = Bool} false true = rw (p, q) at e in let z : ◌≡◌ {A = ℕ} 0 1 = cc in absurd (omega arith)
    go false false true d p q r s = let y : ◌≡◌ {A = Bool} false true = rw (p, q, r) at e in let z : ◌≡◌ {A = ℕ} 0 1 = cc in absurd (omega arith)
    go false false false true p q r s = let y : ◌≡◌ {A = Bool} false true = rw (p, q, r, s) at e in let z : ◌≡◌ {A = ℕ} 0 1 = cc in absurd (omega arith)
    go false false false false p q r s = let y : ◌≡◌ {A = Bool} false true = rw (p, q, r, s) at e in let z : ◌≡◌ {A = ℕ} 0 1 = cc in absurd (omega arith)

zero_byte : (x : List ℕ) (p j : ℕ) → p + 8 ≤ length x → number_at x p ≡ 0 → j < 8 → get_or x (p + j) 0 ≡ 0
unfolding number_at
zero_byte x p j h e m =
    let f : number_of (take 8 (drop p x)) ≡ 0 = rw (le-leb _ _ h) at e in
    sym (get_or-drop p x j 0) ∙ sym (get_or-take 8 (drop p x) j 0 m) ∙ number_zero (take 8 (drop p x)) f j

pub free_byte : (n k : ℕ) (x : List ℕ) → Sized n k x → (d j : ℕ) → d < k → status_in (part_of x n d) ≡ Free → j < 8 → part_byte n x d j ≡ 0
free_byte n k x z d j h f m =
    let e = z.bytes in
    let i : descriptor_place n d + 0 ≡ descriptor_place n d = omega arith in
    let v : number_at (part_of x n d) 0 ≡ 0 = free_zero (number_at (part_of x n d) 0) (ap is_free f) in
    let w = part_number x (descriptor_place n d) 0 (omega arith) (omega arith) in
    let u : number_at x (descriptor_place n d) ≡ 0 = ap (λ (q : ℕ). number_at x q) (sym i) ∙ sym w ∙ v in
    zero_byte x (descriptor_place n d) j (omega arith) u m

-- two images that come from one, with every word plain and every status Free, are the same
abbrev pub Over : ℕ → ℕ → List ℕ → Type 0
Over n k x = ((d : ℕ) → d < k → status_in (part_of x n d) ≡ Free) × ((a : ℕ) → a < n → is_plain (word_of x a) ≡ true)

module _ (n k : ℕ) (x y z : List ℕ) (sy : Sized n k y) (sz : Sized n k z) (fy : From n k x y) (fz : From n k x z) (oy : Over n k y) (oz : Over n k z) where
  word_alike : (a j : ℕ) → a < n → j < 8 → get_or y (word_place a + j) 0 ≡ get_or z (word_place a + j) 0
  word_alike a j h m =
      sym (plain_byte n y a j (word_of y a) (oy.1 a h)) ∙ fy.0 a j h m ∙ sym (fz.0 a j h m) ∙ plain_byte n z a j (word_of z a) (oz.1 a h)

  part_alike : (d j : ℕ) → d < k → j < 112 → (t : Bool) → ltb j 8 ≡ t → part_byte n y d j ≡ part_byte n z d j
  part_alike d j h m true e = let l = ltb-true j 8 e in free_byte n k y sy d j h (oy.0 d h) l ∙ sym (free_byte n k z sz d j h (oz.0 d h) l)
  part_alike d j h m false e = let l = ltb-false j 8 e in fy.1 d j h l m ∙ sym (fz.1 d j h l m)

  byte_alike : (i : ℕ) → i < 8 * n + 112 * k → (t : Bool) → ltb i (8 * n) ≡ t → get_or y i 0 ≡ get_or z i 0
  byte_alike i l true e =
      let m = ltb-true i (8 * n) e in
      let q : word_place (i / 8) + i % 8 ≡ i = omega arith in
      rw q at (word_alike (i / 8) (i % 8) (omega arith) (omega arith))
  byte_alike i l false e =
      let m = ltb-false i (8 * n) e in
      let q : descriptor_place n ((i - 8 * n) / 112) + (i - 8 * n) % 112 ≡ i = omega arith in
      rw q at (part_alike ((i - 8 * n) / 112) ((i - 8 * n) % 112) (omega arith) (omega arith) (ltb ((i - 8 * n) % 112) 8) refl)

  pub all_alike : y ≡ z
  all_alike =
      let p = sy.bytes in
      ext_get_or 0 y z (p ∙ sym sz.bytes) (λ i l. byte_alike i (omega arith) (ltb i (8 * n)) refl)

-- the bytes after any cuts and then a complete run are those of one complete run
pub cuts_do_not_matter : (n k : ℕ) (x : List ℕ) (ss : List ℕ) (s t : ℕ) → image_refusal n k x ≡ 0
    → (run_from s n k (runs ss n k x) (At 0 0)).complete ≡ true
    → (run_from t n k x (At 0 0)).complete ≡ true
    → (run_from s n k (runs ss n k x) (At 0 0)).bytes ≡ (run_from t n k x (At 0 0)).bytes
cuts_do_not_matter n k x ss s t e c d =
    let w = runs ss n k x in
    let f = cuts_accepted n k x ss e in
    let y = (run_from s n k w (At 0 0)).bytes in
    let z = (run_from t n k x (At 0 0)).bytes in
    let gy = good n k y (accepted n k y (stays_accepted n k w s f)) in
    let gz = good n k z (accepted n k z (stays_accepted n k x t e)) in
    all_alike n k x y z gy.sized gz.sized (from_then n k x w y (cuts_from n k x ss e) (cut_from n k w s f)) (cut_from n k x t e)
    (complete_frees n k w s f c, complete_plain n k w s f c)
    (complete_frees n k x t e d, complete_plain n k x t e d)

-- each such run is what a call leaves of an accepted image
pub call_runs : (n k : ℕ) (x : List ℕ) (s : ℕ) → image_refusal n k x ≡ 0 → (recover_of n k x s).bytes ≡ (run_from s n k x (At 0 0)).bytes
unfolding recover_of
call_runs n k x s e = rw e
