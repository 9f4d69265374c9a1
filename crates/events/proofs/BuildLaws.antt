-- Who owns a descriptor, and the lowest that qualifies: the loops.
use Rattle.std.specs.Prelude.{None, Some, ℕ}
use mathlib.Core.Path.{◌≡◌, sym, ap, ◌∙◌}
use mathlib.Core.Bool.{Bool, true, false}
use Prim.Native.Nat.{ℕ, zero, suc, ◌+◌, ◌-◌, ◌<◌}
use native.Mathlib.Omega.{arith}
use Rattle.steps.specs.declared.Worker.{Worker}
use Rattle.memory.specs.Block.{Block}
use Rattle.memory.specs.Content.{worker_in}
use Rattle.events.specs.Build.{owns, owned_below, qualifies, lowest_below}

-- who owns d
module _ (m : Block) (d : ℕ) where
  one-more : (n : ℕ) (r : Bool) → owned_below m d n ≡ false → r ≡ owns (worker_in m n) d → owned_below m d (n + 1) ≡ r
  unfolding owned_below
  one-more n r e f = let z : n + 1 ≡ suc n = omega arith in rw (z, e, f)

  stays : (n : ℕ) (k : ℕ) → owned_below m d n ≡ true → owned_below m d (n + k) ≡ true
  unfolding owned_below
  stays n zero e = let z : n + 0 ≡ n = omega arith in rw z e
  stays n (suc k) e = let z : n + suc k ≡ suc (n + k) = omega arith in rw (z, stays n k e)

  pub owned_found : (n : ℕ) (x : Worker) (r : Bool) → owned_below m d n ≡ false → n < 8 → x ≡ worker_in m n → r ≡ owns x d → r ≡ true → true ≡ owned_below m d 8
  owned_found n x r e l f g h =
      let z : n + 1 + (7 - n) ≡ 8 = omega arith in
      sym (rw z at (stays (n + 1) (7 - n) (one-more n r e (g ∙ ap (λ (y : Worker). owns y d) f) ∙ h)))

-- the lowest that does
module _ (m : Block) where
  here_stays : (i d k : ℕ) → lowest_below m d ≡ Some i → lowest_below m (d + k) ≡ Some i
  unfolding lowest_below
  here_stays i d zero e = let z : d + 0 ≡ d = omega arith in rw z e
  here_stays i d (suc k) e = let z : d + suc k ≡ suc (d + k) = omega arith in rw (z, here_stays i d k e)

  first_here : (d : ℕ) → lowest_below m d ≡ None → true ≡ qualifies m d → lowest_below m (d + 1) ≡ Some d
  unfolding lowest_below
  first_here d e f = let z : d + 1 ≡ suc d = omega arith in rw (z, e, ← f)

  pub lowest_here : (d k : ℕ) (t : Bool) → lowest_below m d ≡ None → d < k → t ≡ qualifies m d → t ≡ true → Some d ≡ lowest_below m k
  lowest_here d k t e l f g =
      let z : d + 1 + (k - 1 - d) ≡ k = omega arith in
      sym (rw z at (here_stays d (d + 1) (k - 1 - d) (first_here d e (sym g ∙ f))))
