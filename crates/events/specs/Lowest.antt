-- `lowest_below` finds the lowest descriptor that qualifies, and none exactly where none does.
use Rattle.std.specs.Prelude.{◌≡◌, refl, Bool, true, false, cond, ℕ, zero, suc, ◌<◌, eqb}
use Rattle.std.proofs.Common.{arith, eqb-true, None, Option, Some}
use Rattle.std.proofs.lemmas.Bool.{eqb-false}
use Rattle.memory.specs.Block.{Block}
use Rattle.events.specs.Build.{qualifies, found_or, lowest_below}

-- none of the first k qualifies
abbrev pub NoneBelow : Block → ℕ → Type 0
NoneBelow m k = (i : ℕ) → i < k → qualifies m i ≡ false

-- d is the lowest below k that qualifies
pub record Lowest (m : Block) (k d : ℕ) : Type 0 where
  pub below : d < k
  pub does : qualifies m d ≡ true
  pub first : NoneBelow m d

-- what was found says so
abbrev pub Says : Block → ℕ → Option ℕ → Type 0
Says m k (Some d) = Lowest m k d
Says m k None = NoneBelow m k

one-more : (m : Block) (k : ℕ) → NoneBelow m k → qualifies m k ≡ false → NoneBelow m (suc k)
one-more m k h e i l = go (eqb i k) refl
  where
    go : (t : Bool) → eqb i k ≡ t → qualifies m i ≡ false
    go true f = let z : i ≡ k = eqb-true _ _ f in rw z e
    go false f = let z : i ≡ k → ⊥ = eqb-false _ _ f in h i (omega arith)

pub lowest_says : (m : Block) (k : ℕ) → Says m k (lowest_below m k)
unfolding lowest_below
lowest_says m zero = λ i l. let z : ⊥ = omega arith in search
lowest_says m (suc k) = go (lowest_below m k) (qualifies m k) refl (lowest_says m k)
  where
    go : (f : Option ℕ) (t : Bool) → qualifies m k ≡ t → Says m k f → Says m (suc k) (found_or f (cond t (Some k) None))
    go (Some d) t e h = record { below = omega (arith, h.below); does = h.does; first = h.first }
    go None true e h = record { below = omega arith; does = e; first = h }
    go None false e h = one-more m k h e
