-- Bytes, texts and numbers: one law for each answer.
use mathlib.Core.Path.{◌≡◌}
use mathlib.Core.List.{List, [], ◌∷◌, ◌++◌}
use Prim.Native.Nat.{ℕ, suc, ◌+◌, ◌/◌, ◌%◌, ◌^◌, ◌<◌, ◌≤◌}
use native.Mathlib.Omega.{arith}
use lib.ListN.{length, take, get_or}
use lib.Seq.{take-suc}
use Rattle.answers.specs.Decimal.{decimal_of, places_of}
use Rattle.answers.specs.DecimalLaws.{decimal_one, decimal_next, decimal_places}
use Rattle.answers.specs.Put.{filled, put_of}
use Rattle.answers.specs.PutLaws.{put_append}

-- a text after another
pub join : (o x y : List ℕ) (at r s : ℕ) (xs ys : List ℕ) → filled x r ≡ put_of o at xs → filled y s ≡ put_of x r ys → filled y s ≡ put_of o at (xs ++ ys)
join o x y at r s xs ys e f = rw (put_append o at xs ys, ← e) f

pub joined : (o x y : List ℕ) (at r s : ℕ) (xs ys zs : List ℕ) → filled x r ≡ put_of o at xs → filled y s ≡ put_of x r ys → zs ≡ xs ++ ys → filled y s ≡ put_of o at zs
joined o x y at r s xs ys zs e f g = rw g (join o x y at r s xs ys e f)

-- the loop over a text
pub text_next : (o x y t : List ℕ) (at r s i : ℕ) → filled x r ≡ put_of o at (take i t) → i < length t → filled y s ≡ put_of x r (get_or t i 0 ∷ [])
    → filled y s ≡ put_of o at (take (i + 1) t)
text_next o x y t at r s i e h f =
    let z : i + 1 ≡ suc i = omega arith in
    rw (z, take-suc t i 0 h) (join o x y at r s (take i t) (get_or t i 0 ∷ []) e f)

-- The last digits of n, one after the other: x is the buffer and r the place after the first of them, p its byte; y, s and q those of the next; and so on.
module _ (o : List ℕ) (at n : ℕ) where
  pub one_digit : (x : List ℕ) (r p : ℕ) → n < 10 → p ≡ 48 + n % 10 → filled x r ≡ put_of o at (p ∷ []) → filled x r ≡ put_of o at (decimal_of n)
  one_digit x r p h e f =
      let z : p ≡ 48 + n = omega arith in
      rw (decimal_one n h, ← z) f

  -- where the digits before the last stand, and then the last
  more : (x y : List ℕ) (r s q : ℕ) → 10 ≤ n → n < 10 ^ 20 → filled x r ≡ put_of o at (decimal_of (n / 10)) → q ≡ 48 + n % 10 → filled y s ≡ put_of x r (q ∷ [])
      → filled y s ≡ put_of o at (decimal_of n)
  more x y r s q h l e g f = rw (decimal_next n h l, ← g) (join o x y at r s (decimal_of (n / 10)) (q ∷ []) e f)

module _ (o : List ℕ) (at n : ℕ) (x y : List ℕ) (r s p q : ℕ) where
  pub two_digits : 10 ≤ n → n < 100 → p ≡ 48 + n / 10 % 10 → filled x r ≡ put_of o at (p ∷ []) → q ≡ 48 + n % 10 → filled y s ≡ put_of x r (q ∷ [])
      → filled y s ≡ put_of o at (decimal_of n)
  two_digits h l d e g f = more o at n x y r s q h (omega arith) (one_digit o at (n / 10) x r p (omega arith) d e) g f

  module _ (z : List ℕ) (t v : ℕ) where
    pub three_digits : 100 ≤ n → n < 1000 → p ≡ 48 + n / 10 / 10 % 10 → filled x r ≡ put_of o at (p ∷ []) → q ≡ 48 + n / 10 % 10
        → filled y s ≡ put_of x r (q ∷ [])
        → v ≡ 48 + n % 10
        → filled z t ≡ put_of y s (v ∷ [])
        → filled z t ≡ put_of o at (decimal_of n)
    three_digits h l d e g f k m =
        more o at n y z s t v (omega arith) (omega arith)
        (more o at (n / 10) x y r s q (omega arith) (omega arith) (one_digit o at (n / 10 / 10) x r p (omega arith) d e) g f)
        k
        m

    pub four_places : (u : List ℕ) (i j : ℕ) → p ≡ 48 + n / 10 / 10 / 10 % 10 → filled x r ≡ put_of o at (p ∷ []) → q ≡ 48 + n / 10 / 10 % 10
        → filled y s ≡ put_of x r (q ∷ [])
        → v ≡ 48 + n / 10 % 10
        → filled z t ≡ put_of y s (v ∷ [])
        → j ≡ 48 + n % 10
        → filled u i ≡ put_of z t (j ∷ [])
        → filled u i ≡ put_of o at (places_of 4 n)
    unfolding places_of
    four_places u i j d e g f k m a b =
        rw (← d, ← g, ← k, ← a)
        (join o z u at t i _ (j ∷ []) (join o y z at s t _ (v ∷ []) (join o x y at r s (p ∷ []) (q ∷ []) e f) m) b)

-- a number of four digits is its last four
pub four_digits : (o x : List ℕ) (at n r : ℕ) → 1000 ≤ n → n < 10000 → filled x r ≡ put_of o at (places_of 4 n) → filled x r ≡ put_of o at (decimal_of n)
unfolding places_of
four_digits o x at n r h l e =
    let a : n / 10 / 10 / 10 % 10 ≡ n / 10 / 10 / 10 = omega arith in
    rw (decimal_next n (omega arith) (omega arith), decimal_next (n / 10) (omega arith) (omega arith), decimal_next (n / 10 / 10) (omega arith) (omega arith), decimal_one (n / 10 / 10 / 10) (omega arith), ← a)
    e

-- the digits above the last four, and the last four
pub groups : (o x y : List ℕ) (at n r s : ℕ) → 10000 ≤ n → n < 2 ^ 64 → filled x r ≡ put_of o at (decimal_of (n / 10000)) → filled y s ≡ put_of x r (places_of 4 n)
    → filled y s ≡ put_of o at (decimal_of n)
groups o x y at n r s h l e f = rw (decimal_places 4 n (omega arith) (omega arith)) (join o x y at r s (decimal_of (n / 10000)) (places_of 4 n) e f)
