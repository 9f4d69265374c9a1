-- The test of a row: computed, and where it is true the row holds.
use Rattle.std.specs.Prelude.{◌≡◌, refl, Bool, true, false, ◌&&◌, List, [], ◌∷◌, ℕ, eqb}
use Rattle.std.proofs.Common.{eqb-true}
use Rattle.events.specs.First.{both}
use Rattle.play.specs.Tick.{tick_of}
use Rattle.runs.specs.Row.{Row, Every}

abbrev pub same : List ℕ → List ℕ → Bool
same [] [] = true
same [] (y ∷ ys) = false
same (x ∷ xs) [] = false
same (x ∷ xs) (y ∷ ys) = eqb x y && same xs ys

abbrev pub all_hold : List Row → Bool
all_hold [] = true
all_hold (r ∷ rs) = same (tick_of r.input) r.output && all_hold rs

same_holds : (xs ys : List ℕ) → same xs ys ≡ true → xs ≡ ys
same_holds [] [] h = refl
same_holds [] (y ∷ ys) h = let z : ◌≡◌ {A = Bool} false true = h in cc
same_holds (x ∷ xs) [] h = let z : ◌≡◌ {A = Bool} false true = h in cc
same_holds (x ∷ xs) (y ∷ ys) h =
    let b : (eqb x y ≡ true) × (same xs ys ≡ true) = both (eqb x y) (same xs ys) h in
    cc (eqb-true x y b.0, same_holds xs ys b.1)

pub every_holds : (rs : List Row) → all_hold rs ≡ true → Every rs
every_holds [] h = tt
every_holds (r ∷ rs) h =
    let b : (same (tick_of r.input) r.output ≡ true) × (all_hold rs ≡ true) = both _ _ h in
    (same_holds (tick_of r.input) r.output b.0, every_holds rs b.1)
