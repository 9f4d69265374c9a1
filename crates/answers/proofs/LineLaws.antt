-- Lines: one law for each answer.
use mathlib.Core.Path.{◌≡◌}
use mathlib.Core.List.{List, [], ◌∷◌, append-nil}
use Prim.Native.Nat.{ℕ, suc, ◌+◌}
use native.Mathlib.Omega.{arith}
use Rattle.memory.specs.Block.{Block}
use Rattle.memory.specs.Value.{value_of}
use Rattle.events.specs.declared.Answer.{Answer}
use Rattle.answers.specs.Decimal.{decimal_of}
use Rattle.answers.specs.Put.{filled, put_of}
use Rattle.answers.specs.Line.{spaced, said, line_of, values_below, words_shown, last_line}
use Rattle.answers.specs.LineLaws.{spaced_append}
use Rattle.answers.proofs.TextLaws.{join}

pub line : (o x y z : List ℕ) (at r s t i : ℕ) (a : Answer) → filled x r ≡ put_of o at (decimal_of i) → filled y s ≡ put_of x r (said a)
    → filled z t ≡ put_of y s (10 ∷ [])
    → filled z t ≡ put_of o at (line_of i a)
unfolding line_of
line o x y z at r s t i a e f g = join o y z at s t _ (10 ∷ []) (join o x y at r s (decimal_of i) (said a) e f) g

-- the loop over the values
pub values_next : (o x y : List ℕ) (at r s a v : ℕ) (m : Block) → filled x r ≡ put_of o at (spaced (values_below m a)) → v ≡ value_of m a
    → filled y s ≡ put_of x r (32 ∷ decimal_of v)
    → filled y s ≡ put_of o at (spaced (values_below m (a + 1)))
unfolding values_below
values_next o x y at r s a v m e g f =
    let z : a + 1 ≡ suc a = omega arith in
    rw (z, spaced_append (values_below m a) (value_of m a ∷ []), append-nil, ← g)
    (join o x y at r s (spaced (values_below m a)) (32 ∷ decimal_of v) e f)

pub last-line : (o x y z : List ℕ) (at r s t n : ℕ) (m : Block) → n ≡ words_shown m → filled x r ≡ put_of o at (61 ∷ [])
    → filled y s ≡ put_of x r (spaced (values_below m n))
    → filled z t ≡ put_of y s (10 ∷ [])
    → filled z t ≡ put_of o at (last_line m)
unfolding last_line
last-line o x y z at r s t n m h e f g =
    rw (← h) (join o y z at s t (61 ∷ spaced (values_below m n)) (10 ∷ []) (join o x y at r s (61 ∷ []) (spaced (values_below m n)) e f) g)
