-- A part from the start is no longer than the whole.
use Rattle.std.specs.Prelude.{◌≤◌, List, ℕ, [], ◌∷◌, zero, suc, length, take}
use Rattle.std.proofs.Common.{arith}

pub front_fits : (n : ℕ) (s : List ℕ) → length (take n s) ≤ length s
front_fits zero s = omega arith
front_fits (suc n) [] = omega arith
front_fits (suc n) (x ∷ s) = let h = front_fits n s in omega (arith, h)
