-- How two things are told apart, for every file here. There, `WRONG ≢ f x` says: a function whose promise is `r ≡ f x` does not answer WRONG; and of one that changes
-- what it is lent, that it does not leave WRONG.
use Rattle.std.specs.Prelude.{◌≡◌, ◌≢◌, Bool, true, false, cond, ℕ, eqb}
use Rattle.std.proofs.Common.{ap, sym, ◌∙◌, arith}
use Rattle.std.proofs.lemmas.Bool.{eqb-false}

-- where the equations in reach join two different cases: `clash (cc)`
pub clash : ◌≡◌ {A = ℕ} 0 1 → ⊥
clash e = omega arith

-- a number that is seen of them differs, as computing says
pub differ : {A : Type 0} (f : A → ℕ) {x y : A} → eqb (f x) (f y) ≡ false → x ≢ y
differ f {x} {y} e h = eqb-false (f x) (f y) e (ap f h)

-- what is seen of them differs; it is u of the one and v of the other, and these differ
pub by : {A B : Type 0} (f : A → B) {x y : A} → f x ≢ f y → x ≢ y
by f n e = n (ap f e)

pub seen : {A B : Type 0} (f : A → B) {x y : A} {u v : B} → f x ≡ u → f y ≡ v → u ≢ v → x ≢ y
seen f p q n e = n (sym p ∙ ap f e ∙ q)

-- neither of the two, so not the one that a test picks
pub picked : {A : Type 0} (t : Bool) {x y z : A} → z ≢ x → z ≢ y → z ≢ cond t x y
picked true n o = n
picked false n o = o
