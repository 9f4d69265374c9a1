-- Bits 61, 62 and 63 of a number, and what is below them.
use Rattle.std.specs.Prelude.{◌≡◌, Bool, cond, not, ℕ, ◌+◌, ◌*◌, ◌/◌, ◌%◌, ◌^◌, ◌<◌, eqb}
use Rattle.std.proofs.Math.Path.{refl}
use Rattle.std.proofs.Common.{◌∙◌, arith, eqb-true}
use Rattle.std.proofs.Math.Bool.{true, false}
use Rattle.std.proofs.lemmas.Bool.{eqb-false, not-true, not-false}
use Rattle.word.specs.declared.Sort.{Sort}
use Rattle.word.specs.declared.Sort.TheVariants.{Plain, Pointer, Neither}
use Rattle.word.specs.Word.{bit, marked, sort_of}

pub set_bit : (k w : ℕ) → bit k w ≡ true → w / 2 ^ k % 2 ≡ 1
set_bit k w e = let n : w / 2 ^ k % 2 ≡ 0 → ⊥ = eqb-false _ _ (not-true _ e) in omega arith

pub clear_bit : (k w : ℕ) → bit k w ≡ false → w / 2 ^ k % 2 ≡ 0
clear_bit k w e = eqb-true _ _ (not-false _ e)

abbrev odd : ℕ → Bool
odd q = not (eqb (q % 2) 0)

-- a number x whose bits above 60 are q
module _ (x q n : ℕ) (h : n < 2 ^ 61) (e : x ≡ q * 2 ^ 61 + n) where
  upper : x / 2 ^ 61 ≡ q
  upper = omega arith

  upper_62 : x / 2 ^ 62 ≡ q / 2
  upper_62 = omega arith

  upper_63 : x / 2 ^ 63 ≡ q / 4
  upper_63 = omega arith

  lower : x % 2 ^ 61 ≡ n
  lower = omega arith

  pub sorted_by : sort_of x ≡ cond (odd q) (Neither x) (cond (odd (q / 2)) (Pointer n (odd (q / 4))) (Plain n (odd (q / 4))))
  unfolding sort_of
  sorted_by = simp (upper, upper_62, upper_63, lower)

digits_small : (q : ℕ) → q < 8 → q ≡ q % 2 + (2 * (q / 2 % 2) + 4 * (q / 4 % 2))
digits_small q h =
    let a : q / 4 % 2 ≡ q / 4 = omega arith in
    let b : q / 2 ≡ 2 * (q / 4) + q / 2 % 2 = omega arith in
    omega arith

-- a number is the sum of its three highest bits and what is below them
pub by_parts : (w : ℕ) → w < 2 ^ 64
    → w ≡ 2 ^ 61 * (w / 2 ^ 61 % 2) + (2 ^ 62 * (w / 2 ^ 62 % 2) + (2 ^ 63 * (w / 2 ^ 63 % 2) + w % 2 ^ 61))
by_parts w h =
    let l : w % 2 ^ 61 < 2 ^ 61 = omega arith in
    let e : w ≡ w / 2 ^ 61 * 2 ^ 61 + w % 2 ^ 61 = omega arith in
    let d : w / 2 ^ 61 ≡ w / 2 ^ 61 % 2 + (2 * (w / 2 ^ 61 / 2 % 2) + 4 * (w / 2 ^ 61 / 4 % 2)) = digits_small (w / 2 ^ 61) (omega arith) in
    let f : w / 2 ^ 62 ≡ w / 2 ^ 61 / 2 = upper_62 w (w / 2 ^ 61) (w % 2 ^ 61) l e in
    let g : w / 2 ^ 63 ≡ w / 2 ^ 61 / 4 = upper_63 w (w / 2 ^ 61) (w % 2 ^ 61) l e in
    rw (f, g) (omega arith)

parts : (w a b c : ℕ) → w < 2 ^ 64 → w / 2 ^ 61 % 2 ≡ a → w / 2 ^ 62 % 2 ≡ b → w / 2 ^ 63 % 2 ≡ c
    → w ≡ 2 ^ 61 * a + (2 ^ 62 * b + (2 ^ 63 * c + w % 2 ^ 61))
parts w a b c h e f g = by_parts w h ∙ rw (e, f, g)

-- a word without its reserved bit is the number of a pointer or of a plain word
module _ (w : ℕ) (h : w < 2 ^ 64) (e : bit 61 w ≡ false) where
  pointer_parts : bit 62 w ≡ true → (c : Bool) → bit 63 w ≡ c → w ≡ marked c (2 ^ 62 + w % 2 ^ 61)
  pointer_parts f true g = parts w 0 1 1 h (clear_bit 61 w e) (set_bit 62 w f) (set_bit 63 w g) ∙ omega arith
  pointer_parts f false g = parts w 0 1 0 h (clear_bit 61 w e) (set_bit 62 w f) (clear_bit 63 w g) ∙ omega arith

  plain_parts : bit 62 w ≡ false → (c : Bool) → bit 63 w ≡ c → w ≡ marked c (w % 2 ^ 61)
  plain_parts f true g = parts w 0 0 1 h (clear_bit 61 w e) (clear_bit 62 w f) (set_bit 63 w g) ∙ omega arith
  plain_parts f false g = parts w 0 0 0 h (clear_bit 61 w e) (clear_bit 62 w f) (clear_bit 63 w g) ∙ omega arith

-- what holds of the sort of w, case by case: w is the number that the case says
module _ (w : ℕ) (h : w < 2 ^ 64) (P : Sort → Type 0) where
  pub by_bits : (bit 61 w ≡ true → P (Neither w))
      → ((n : ℕ) (c : Bool) → n < 2 ^ 61 → bit 61 w ≡ false → w ≡ marked c (2 ^ 62 + n) → P (Pointer n c))
      → ((n : ℕ) (c : Bool) → n < 2 ^ 61 → bit 61 w ≡ false → w ≡ marked c n → P (Plain n c))
      → P (sort_of w)
  unfolding sort_of
  by_bits neither pointer plain = go (bit 61 w) (bit 62 w) refl refl
    where
      go : (a b : Bool) → bit 61 w ≡ a → bit 62 w ≡ b
          → P (cond a (Neither w) (cond b (Pointer (w % 2 ^ 61) (bit 63 w)) (Plain (w % 2 ^ 61) (bit 63 w))))
      go true b e f = neither e
      go false true e f = pointer (w % 2 ^ 61) (bit 63 w) (omega arith) e (pointer_parts w h e f (bit 63 w) refl)
      go false false e f = plain (w % 2 ^ 61) (bit 63 w) (omega arith) e (plain_parts w h e f (bit 63 w) refl)
