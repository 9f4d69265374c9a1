-- What the test of one bit by a mask says of the number. At a numeral k the mask computes to 2 ^ k, as the code has it.
use mathlib.Core.Path.{◌≡◌, refl, sym, ap, ◌∙◌}
use Prim.Native.Nat.{ℕ, ◌+◌, ◌-◌, ◌*◌, ◌/◌, ◌%◌, ◌^◌}
use native.Mathlib.Nat.{zero-div, zero-mul}
use mathlib.Core.Bool.{Bool, true, false}
use lib.Dec.{eqb}
use lib.Pow.{shl-shr}
use lib.Bits.{bit_and, and_high}
use borrow.Author.Tests.{eq-eqb, ne_eqb, eqb-true, eqb-false}

abbrev mask : ℕ → ℕ → ℕ
mask k w = bit_and w (2 ^ (1 + k) - 2 ^ k)

-- the mask finds bit k clear
pub clear : (k w : ℕ) → mask k w ≡ 0 → eqb (w / 2 ^ k % 2) 0 ≡ true
clear k w h =
    eq-eqb (w / 2 ^ k % 2) 0
    (sym (shl-shr (w / 2 ^ k % 2) k) ∙ ap (λ (n : ℕ). n / 2 ^ k) (sym (and_high w 1 k) ∙ h) ∙ zero-div (2 ^ k))

-- the mask finds bit k set
pub raised : (k w : ℕ) → (mask k w ≡ 0 → ⊥) → eqb (w / 2 ^ k % 2) 0 ≡ false
raised k w h =
    ne_eqb (w / 2 ^ k % 2) 0
    (λ e. h (and_high w 1 k ∙ ap (λ (n : ℕ). n * 2 ^ k) e ∙ zero-mul (2 ^ k)))

-- the mask's test is the bit's
pub tested : (k w : ℕ) → eqb (mask k w) 0 ≡ eqb (w / 2 ^ k % 2) 0
tested k w = go (eqb (mask k w) 0) refl
  where
    go : (t : Bool) → eqb (mask k w) 0 ≡ t → eqb (mask k w) 0 ≡ eqb (w / 2 ^ k % 2) 0
    go true e = e ∙ sym (clear k w (eqb-true _ _ e))
    go false e = e ∙ sym (raised k w (eqb-false _ _ e))
