-- `any` over the numbers below n is `some_below`.
use mathlib.Core.Path.{◌≡◌, sym, ap, ◌∙◌}
use mathlib.Core.Bool.{Bool, true, false, ◌||◌}
use mathlib.Core.List.{List}
use Prim.Native.Nat.{ℕ, zero, suc, ◌+◌, ◌-◌}
use native.Mathlib.Omega.{arith}
use Rattle.std.specs.Prelude.{Option}
use Rattle.std.specs.List.{FoldsTo, list_any, range_with_len}
use Rattle.std.specs.Iterator.{YieldsThen}
use Rattle.std.specs.Fn.{Called}
use Rattle.std.specs.Option.{MatchOption}
use Rattle.std.specs.declared.ops.Range.{Range}
use Rattle.std.proofs.iter.Yields.{nat_range_steps}
use Rattle.std.proofs.lemmas.Iterator.{YieldsList-from_range}
use Rattle.std.proofs.lemmas.Iterator.Search.{any_from_yields_List}
use Rattle.std.proofs.Math.Bool.{or-false, or_assoc}
use denote.Param.Members.{Mut}
use Rattle.image.specs.Check.{some_below}

one_more : (f : ℕ → Bool) (a : ℕ) → some_below (a + 1) f ≡ (some_below a f || f a)
unfolding some_below
one_more f a = let z : a + 1 ≡ suc a = omega arith in rw z

-- those below a, and n more
from_here : (f : ℕ → Bool) (a n : ℕ) → (some_below a f || list_any f (range_with_len a n)) ≡ some_below (a + n) f
from_here f a zero = let z : a + 0 ≡ a = omega arith in rw z (or-false (some_below a f))
from_here f a (suc n) =
    let z : a + suc n ≡ a + 1 + n = omega arith in
    let rest = list_any f (range_with_len (a + 1) n) in
    rw z (sym (or_assoc (some_below a f) (f a) rest) ∙ (ap (λ (t : Bool). t || rest) (sym (one_more f a)) ∙ from_here f (a + 1) n))

all_of : (f : ℕ → Bool) (n : ℕ) → list_any f (range_with_len 0 n) ≡ some_below n f
unfolding some_below
all_of f n = let z : 0 + n ≡ n = omega arith in rw z at (from_here f 0 n)

pub any_below : {F : Type 0} {g : Mut F (ℕ × Unit {0}) Bool} (test : ℕ → Bool) (n : ℕ) (s u : Range ℕ) (f : F) (r : Bool) → s ≡ record { start = 0; end = n }
    → (xs : List ℕ) × (o : Option ℕ) × (j : F) × YieldsThen nat_range_steps s xs o u × FoldsTo (λ p x q. Called g p (x, tt) false q) f xs j
    × MatchOption o (r ≡ false) (λ x. (r ≡ true) × ((h : F) × Called g j (x, tt) true h))
    → ((x : ℕ) (b : Bool) (q : F) → Called g f (x, tt) b q → (q ≡ f) × (b ≡ test x)) → r ≡ some_below n test
any_below test n s u f r e ran each =
    let z : n - 0 ≡ n = omega arith in
    any_from_yields_List test u f r ran (YieldsList-from_range 0 n n e z) each ∙ all_of test n
