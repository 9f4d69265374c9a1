-- One of the numbers below n: found, or none of them. What an image has that no check refuses.
use Rattle.std.specs.Prelude.{◌≡◌, Bool, ◌&&◌, ◌||◌, List, ◌∷◌, leb, ltb}
use Rattle.std.proofs.Math.Path.{refl}
use Rattle.std.proofs.Common.{sym, ◌∙◌}
use Rattle.std.proofs.Math.Bool.{true, false}
use Prim.Native.Nat.{ℕ, zero, suc, ◌+◌, ◌-◌, ◌<◌, ◌≤◌}
use native.Mathlib.Omega.{arith}
use Rattle.std.proofs.Math.Dec.{eqb}
use borrow.Author.Tests.{eqb-true, eqb-false, leb-true, ltb-true, not-false}
use Rattle.memory.specs.Fresh.{within}
use Rattle.events.specs.Refusal.{Check, check, first_of}
use Rattle.events.specs.First.{and_first, and_second}
use Rattle.image.specs.Layout.{Sized}
use Rattle.image.specs.Check.{some_below, bad_sizes, bad_length, bad_statuses, bad_bodies, bad_words, bad_pointers, image_refusal}

pub or_left : (a b : Bool) → (a || b) ≡ false → a ≡ false
or_left false b e = refl
or_left true b e = e

pub or_right : (a b : Bool) → (a || b) ≡ false → b ≡ false
or_right false b e = e
or_right true false e = refl
or_right true true e = e

module _ (f : ℕ → Bool) where
  one-more : (n : ℕ) (r : Bool) → some_below n f ≡ false → r ≡ f n → some_below (n + 1) f ≡ r
  unfolding some_below
  one-more n r e g = let z : n + 1 ≡ suc n = omega arith in rw (z, e, g)

  stays : (n k : ℕ) → some_below n f ≡ true → some_below (n + k) f ≡ true
  unfolding some_below
  stays n zero e = let z : n + 0 ≡ n = omega arith in rw z e
  stays n (suc k) e = let z : n + suc k ≡ suc (n + k) = omega arith in rw (z, stays n k e)

  pub below_next : (n : ℕ) (r : Bool) → some_below n f ≡ false → r ≡ f n → r ≡ false → some_below (n + 1) f ≡ false
  below_next n r e g h = one-more n r e g ∙ h

  pub below_found : (n k : ℕ) (r : Bool) → some_below n f ≡ false → n < k → r ≡ f n → r ≡ true → true ≡ some_below k f
  below_found n k r e l g h = let z : n + 1 + (k - (n + 1)) ≡ k = omega arith in sym (rw z at (stays (n + 1) (k - (n + 1)) (one-more n r e g ∙ h)))

  pub below_none : (n k : ℕ) → some_below n f ≡ false → n ≤ k → k ≤ n → false ≡ some_below k f
  below_none n k e l m = let z : k ≡ n = omega arith in rw z (sym e)

  -- none of them
  pub none_below : (k : ℕ) → some_below k f ≡ false → (i : ℕ) → i < k → f i ≡ false
  unfolding some_below
  none_below zero e i l = absurd (omega arith)
  none_below (suc k) e i l = go (eqb i k) refl (λ h. none_below k (or_left (some_below k f) (f k) e) i h)
    where
      go : (t : Bool) → eqb i k ≡ t → (i < k → f i ≡ false) → f i ≡ false
      go true q rest = rw (eqb-true i k q) (or_right (some_below k f) (f k) e)
      go false q rest = let m : i ≡ k → ⊥ = eqb-false _ _ q in rest (omega arith)

  pub below_all : (k : ℕ) → ((i : ℕ) → i < k → f i ≡ false) → some_below k f ≡ false
  unfolding some_below
  below_all zero h = refl
  below_all (suc k) h = rw (below_all k (λ i l. h i (omega arith)), h k (omega arith))

-- one of them
pub record Found (f : ℕ → Bool) (k : ℕ) : Type 0 where
  pub number : ℕ
  pub below : number < k
  pub holds : f number ≡ true

pub below_some : (f : ℕ → Bool) (k : ℕ) → some_below k f ≡ true → Found f k
unfolding some_below
below_some f zero e = let z : ◌≡◌ {A = ℕ} 0 1 = cc in absurd (omega arith)
below_some f (suc k) e = go (some_below k f) refl (λ q. below_some f k q)
  where
    go : (t : Bool) → some_below k f ≡ t → (some_below k f ≡ true → Found f k) → Found f (suc k)
    go true q rest = let r = rest q in let l = r.below in record { number = r.number; below = omega arith; holds = r.holds }
    go false q rest = record { number = k; below = omega arith; holds = rw q at e }

-- the first that holds is none: none of them holds
first_none : (r : ℕ) (t : Bool) (cs : List Check) → first_of (check (suc r) t ∷ cs) ≡ 0 → (t ≡ false) × (first_of cs ≡ 0)
unfolding first_of
first_none r true cs e = absurd (omega arith)
first_none r false cs e = (refl, e)

-- an image that is not refused
pub record Accepted (n k : ℕ) (x : List ℕ) : Type 0 where
  pub sizes : bad_sizes n k ≡ false
  pub bytes : bad_length n k x ≡ false
  pub statuses : bad_statuses n k x ≡ false
  pub bodies : bad_bodies n k x ≡ false
  pub words : bad_words n x ≡ false
  pub pointers : bad_pointers n k x ≡ false

pub sizes_small : (n k : ℕ) → bad_sizes n k ≡ false → (0 < n) × ((n ≤ 64) × ((0 < k) × (k ≤ 16)))
sizes_small n k e =
    let w = not-false (within n 64 && within k 16) e in
    let a = and_first (within n 64) (within k 16) w in
    let b = and_second (within n 64) (within k 16) w in (
      ltb-true _ _ (and_first (ltb 0 n) (leb n 64) a),
      (
        leb-true _ _ (and_second (ltb 0 n) (leb n 64) a),
        (ltb-true _ _ (and_first (ltb 0 k) (leb k 16) b), leb-true _ _ (and_second (ltb 0 k) (leb k 16) b)),
      ),
    )

pub accepted : (n k : ℕ) (x : List ℕ) → image_refusal n k x ≡ 0 → Accepted n k x
unfolding image_refusal
accepted n k x e =
    let a = first_none 0 _ _ e in
    let b = first_none 19 _ _ a.1 in
    let c = first_none 20 _ _ b.1 in
    let d = first_none 21 _ _ c.1 in
    let f = first_none 22 _ _ d.1 in
    let g = first_none 23 _ _ f.1 in
    record { sizes = a.0; bytes = b.0; statuses = c.0; bodies = d.0; words = f.0; pointers = g.0 }

pub accepted_back : (n k : ℕ) (x : List ℕ) → Accepted n k x → image_refusal n k x ≡ 0
unfolding image_refusal first_of
accepted_back n k x e =
    let a = e.sizes in
    let b = e.bytes in
    let c = e.statuses in
    let d = e.bodies in
    let f = e.words in
    let g = e.pointers in
    rw (a, b, c, d, f, g)

pub accepted_sized : (n k : ℕ) (x : List ℕ) → Accepted n k x → Sized n k x
accepted_sized n k x e =
    let s = sizes_small n k e.sizes in
    record { words = s.1.0; descriptors = s.1.1.1; bytes = eqb-true _ _ (not-false _ e.bytes) }
