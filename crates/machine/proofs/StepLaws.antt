-- Another worker on a descriptor: the loop.
use mathlib.Core.Path.{◌≡◌, sym, ◌∙◌}
use mathlib.Core.Bool.{Bool, true, false}
use Prim.Native.Nat.{ℕ, zero, suc, ◌+◌, ◌-◌, ◌<◌}
use native.Mathlib.Omega.{arith}
use Rattle.memory.specs.Block.{Block}
use Rattle.machine.specs.Step.{other_on, others_on}

module _ (m : Block) (w d : ℕ) where
  one-more : (n : ℕ) (r : Bool) → others_on m w d n ≡ false → r ≡ other_on m w d n → others_on m w d (n + 1) ≡ r
  unfolding others_on
  one-more n r e f = let z : n + 1 ≡ suc n = omega arith in rw (z, e, f)

  stays : (n k : ℕ) → others_on m w d n ≡ true → others_on m w d (n + k) ≡ true
  unfolding others_on
  stays n zero e = let z : n + 0 ≡ n = omega arith in rw z e
  stays n (suc k) e = let z : n + suc k ≡ suc (n + k) = omega arith in rw (z, stays n k e)

  pub others_found : (n : ℕ) (r : Bool) → others_on m w d n ≡ false → n < 8 → r ≡ other_on m w d n → r ≡ true → true ≡ others_on m w d 8
  others_found n r e l f g = let z : n + 1 + (7 - n) ≡ 8 = omega arith in sym (rw z at (stays (n + 1) (7 - n) (one-more n r e f ∙ g)))
