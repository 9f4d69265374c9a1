-- Numbers one after the other, eight bytes each: each is read at its place, and storing one changes that one alone.
use Rattle.std.specs.Prelude.{◌≡◌, refl, Bool, true, false, ℕ, zero, suc, ◌+◌, ◌*◌, ◌<◌, ◌≤◌, ◌^◌, eqb, take}
use Rattle.std.proofs.Common.{sym, ap, ◌∙◌}
use mathlib.Core.List.{List, [], ◌++◌, append_assoc, append-nil}
use native.Mathlib.Omega.{arith}
use Rattle.std.proofs.Math.ListN.{length, drop, length-append, length-drop}
use Rattle.std.proofs.Math.Seq.{take-append-le, drop-append-le, take_at, drop_at, take_all, drop-length}
use borrow.Author.Tests.{le-leb, eqb-true, eqb-false}
use Rattle.little.specs.Number.{number_of, bytes_of, number_at, with_number}
use Rattle.little.specs.Bytes.{bytes_many, number_bytes}

-- f 0, f 1 and so on, m of them
unfoldable pub flat : (ℕ → ℕ) → ℕ → List ℕ
flat f zero = []
flat f (suc m) = flat f m ++ bytes_of 8 (f m)

pub flat_length : (f : ℕ → ℕ) (m : ℕ) → length (flat f m) ≡ 8 * m
unfolding flat
flat_length f zero = refl
flat_length f (suc m) = length-append (flat f m) (bytes_of 8 (f m)) ∙ rw (flat_length f m) (omega arith)

pub flat_same : (f g : ℕ → ℕ) (m : ℕ) → ((i : ℕ) → i < m → f i ≡ g i) → flat f m ≡ flat g m
unfolding flat
flat_same f g zero h = refl
flat_same f g (suc m) h = rw (flat_same f g m (λ i l. h i (omega arith)), h m (omega arith))

-- one more number after them
module _ (x y : List ℕ) (p : ℕ) where
  longer : p + 8 ≤ length x → p + 8 ≤ length (x ++ y)
  longer h = simp length-append (omega arith)

  number_front : p + 8 ≤ length x → number_at (x ++ y) p ≡ number_at x p
  unfolding number_at
  number_front h =
      let a = longer h in
      let b : p ≤ length x = omega arith in
      let c : 8 ≤ length (drop p x) = simp length-drop (omega arith) in
      rw (le-leb _ _ a, le-leb _ _ h, drop-append-le p x y b, take-append-le 8 (drop p x) y c)

  store_front : (v : ℕ) → p + 8 ≤ length x → with_number (x ++ y) p v ≡ with_number x p v ++ y
  unfolding with_number
  store_front v h =
      let a = longer h in
      let b : p ≤ length x = omega arith in
      rw (le-leb _ _ a, le-leb _ _ h, take-append-le p x y b, drop-append-le (p + 8) x y h) (sym (append_assoc (take p x ++ bytes_of 8 v) (drop (p + 8) x) y))

  module _ (e : length x ≡ p) (f : length y ≡ 8) where
    fits : p + 8 ≤ length (x ++ y)
    fits = simp length-append (omega arith)

    number_last : number_at (x ++ y) p ≡ number_of y
    unfolding number_at
    number_last = let a = fits in let c : length y ≤ 8 = omega arith in rw (le-leb _ _ a, drop_at x y p e, take_all 8 y c)

    store_last : (v : ℕ) → with_number (x ++ y) p v ≡ x ++ bytes_of 8 v
    unfolding with_number
    store_last v =
        let a = fits in
        let b : length (x ++ y) ≡ p + 8 = simp length-append (omega arith) in
        let d : drop (p + 8) (x ++ y) ≡ [] = rw b at (drop-length (x ++ y)) in
        rw (le-leb _ _ a, take_at x y p e, d) (append-nil (x ++ bytes_of 8 v))

pub flat_number : (f : ℕ → ℕ) (m j : ℕ) → j < m → f j < 2 ^ 64 → number_at (flat f m) (8 * j) ≡ f j
unfolding flat
flat_number f zero j h l = absurd (omega arith)
flat_number f (suc m) j h l = go (eqb j m) refl (λ q. flat_number f m j q l)
  where
    go : (t : Bool) → eqb j m ≡ t → (j < m → number_at (flat f m) (8 * j) ≡ f j) → number_at (flat f m ++ bytes_of 8 (f m)) (8 * j) ≡ f j
    go true e rest =
        let q : j ≡ m = eqb-true j m e in
        let n : length (flat f m) ≡ 8 * j = rw q (flat_length f m) in
        let r : f m < 2 ^ 64 = rw q at l in
        number_last (flat f m) (bytes_of 8 (f m)) (8 * j) n (bytes_many 8 (f m)) ∙ number_bytes 8 (f m) r ∙ ap f (sym q)
    go false e rest =
        let o : j ≡ m → ⊥ = eqb-false j m e in
        let n = flat_length f m in
        number_front (flat f m) (bytes_of 8 (f m)) (8 * j) (omega arith) ∙ rest (omega arith)

pub flat_stored : (f g : ℕ → ℕ) (m j v : ℕ) → j < m → g j ≡ v → ((i : ℕ) → i < m → (j ≡ i → ⊥) → g i ≡ f i) → with_number (flat f m) (8 * j) v ≡ flat g m
unfolding flat
flat_stored f g zero j v h e o = absurd (omega arith)
flat_stored f g (suc m) j v h e o = go (eqb j m) refl (λ q. flat_stored f g m j v q e (λ i l d. o i (omega arith) d))
  where
    go : (t : Bool) → eqb j m ≡ t → (j < m → with_number (flat f m) (8 * j) v ≡ flat g m) → with_number (flat f m ++ bytes_of 8 (f m)) (8 * j) v ≡ flat g m ++ bytes_of 8 (g m)
    go true c rest =
        let q : j ≡ m = eqb-true j m c in
        let n : length (flat f m) ≡ 8 * j = rw q (flat_length f m) in
        let w : flat f m ≡ flat g m = flat_same f g m (λ i l. sym (o i (omega arith) (λ d. omega arith))) in
        let u : v ≡ g m = sym e ∙ ap g q in
        store_last (flat f m) (bytes_of 8 (f m)) (8 * j) n (bytes_many 8 (f m)) v ∙ ap (λ (l : List ℕ). l ++ bytes_of 8 v) w ∙ ap (λ (z : ℕ). flat g m ++ bytes_of 8 z) u
    go false c rest =
        let d : j ≡ m → ⊥ = eqb-false j m c in
        let n = flat_length f m in
        let u : f m ≡ g m = sym (o m (omega arith) d) in
        store_front (flat f m) (bytes_of 8 (f m)) (8 * j) v (omega arith) ∙ ap (λ (l : List ℕ). l ++ bytes_of 8 (f m)) (rest (omega arith)) ∙ ap (λ (z : ℕ). flat g m ++ bytes_of 8 z) u
