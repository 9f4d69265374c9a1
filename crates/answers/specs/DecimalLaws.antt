-- Decimal: no digit is lost, there is no leading zero, at least one digit and at most 20, and nothing but digits.
use Rattle.std.specs.Prelude.{◌≡◌, refl, Bool, true, false, cond, ◌&&◌, List, [], ◌∷◌, ◌++◌, ℕ, zero, suc, ◌+◌, ◌-◌, ◌*◌, ◌/◌, ◌%◌, ◌^◌, ◌<◌, ◌≤◌, ltb, leb, length, get_or}
use Rattle.std.proofs.Common.{sym, ap, ◌∙◌, append_assoc, append-nil, div-one, arith, length-append, lt-ltb, le-ltb, le-leb, ltb-true, ltb-false}
use Rattle.std.proofs.Math.Nat.{pow-succ', one-le-pow, div-div-eq-div-mul}
use Rattle.std.proofs.Math.ListN.{get_or-append}
use Rattle.answers.specs.Decimal.{digits_of, decimal_of, places_of}

-- one digit, and one more
module _ (f n : ℕ) where
  digits_one : n < 10 → digits_of (suc f) n ≡ (48 + n) ∷ []
  unfolding digits_of
  digits_one h = simp (lt-ltb _ _ h)

  digits_next : 10 ≤ n → digits_of (suc f) n ≡ digits_of f (n / 10) ++ (48 + n % 10) ∷ []
  unfolding digits_of
  digits_next h = simp (le-ltb _ _ h)

-- at most as many as there is room for
pub digits_length : (f n : ℕ) → length (digits_of f n) ≤ f
unfolding digits_of
digits_length zero n = omega arith
digits_length (suc f) n = go (ltb n 10) (digits_length f (n / 10))
  where
    go : (t : Bool) → length (digits_of f (n / 10)) ≤ f
        → length (cond t ((48 + n) ∷ []) (digits_of f (n / 10) ++ (48 + n % 10) ∷ [])) ≤ suc f
    go true h = omega arith
    go false h = simp length-append (omega arith)

pub decimal_length : (n : ℕ) → length (decimal_of n) ≤ 20
unfolding decimal_of
decimal_length n = digits_length 20 n

-- more room changes nothing where there is enough
digits_fuel : (f n : ℕ) → n < 10 ^ suc f → digits_of (suc (suc f)) n ≡ digits_of (suc f) n
digits_fuel zero n h = digits_one 1 n h ∙ sym (digits_one 0 n h)
digits_fuel (suc f) n h = go (ltb n 10) refl (digits_fuel f (n / 10))
  where
    go : (t : Bool) → ltb n 10 ≡ t → (n / 10 < 10 ^ suc f → digits_of (suc (suc f)) (n / 10) ≡ digits_of (suc f) (n / 10))
        → digits_of (suc (suc (suc f))) n ≡ digits_of (suc (suc f)) n
    go true e r = let l : n < 10 = ltb-true _ _ e in digits_one (suc (suc f)) n l ∙ sym (digits_one (suc f) n l)
    go false e r =
        let l : 10 ≤ n = ltb-false _ _ e in
        let p : 10 ^ suc (suc f) ≡ 10 * 10 ^ suc f = pow-succ' 10 (suc f) in
        digits_next (suc (suc f)) n l
        ∙ ap (λ (xs : List ℕ). xs ++ (48 + n % 10) ∷ []) (r (omega arith))
        ∙ sym (digits_next (suc f) n l)

-- one digit; the digits of the tens, and that of the ones
pub decimal_one : (n : ℕ) → n < 10 → decimal_of n ≡ (48 + n) ∷ []
unfolding decimal_of
decimal_one n h = digits_one 19 n h

pub decimal_next : (n : ℕ) → 10 ≤ n → n < 10 ^ 20 → decimal_of n ≡ decimal_of (n / 10) ++ (48 + n % 10) ∷ []
unfolding decimal_of
decimal_next n h l =
    digits_next 19 n h ∙ ap (λ (xs : List ℕ). xs ++ (48 + n % 10) ∷ []) (sym (digits_fuel 18 (n / 10) (omega arith)))

-- the digits above the last k, and the last k
pub decimal_places : (k n : ℕ) → 10 ^ k ≤ n → n < 10 ^ 20 → decimal_of n ≡ decimal_of (n / 10 ^ k) ++ places_of k n
unfolding places_of
decimal_places zero n h l = rw (div-one n, append-nil)
decimal_places (suc k) n h l =
    let p : 10 ^ suc k ≡ 10 * 10 ^ k = pow-succ' 10 k in
    let q : 1 ≤ 10 ^ k = one-le-pow k 10 (omega arith) in
    decimal_next n (omega arith) l
    ∙ ap (λ (xs : List ℕ). xs ++ (48 + n % 10) ∷ []) (decimal_places k (n / 10) (omega arith) (omega arith))
    ∙ append_assoc (decimal_of (n / 10 / 10 ^ k)) (places_of k (n / 10)) ((48 + n % 10) ∷ [])
    ∙ ap (λ (x : ℕ). decimal_of x ++ (places_of k (n / 10) ++ (48 + n % 10) ∷ [])) (div-div-eq-div-mul n 10 (10 ^ k) ∙ ap (λ (x : ℕ). n / x) (sym p))

-- a text of digits read as a number, from the left
unfoldable pub read_on : ℕ → List ℕ → ℕ
read_on v [] = v
read_on v (b ∷ bs) = read_on (10 * v + (b - 48)) bs

abbrev pub number_of : List ℕ → ℕ
number_of bs = read_on 0 bs

read_append : (v : ℕ) (xs ys : List ℕ) → read_on v (xs ++ ys) ≡ read_on (read_on v xs) ys
unfolding read_on
read_append v [] ys = refl
read_append v (b ∷ bs) ys = read_append (10 * v + (b - 48)) bs ys

digits_back : (f n : ℕ) → n < 10 ^ f → number_of (digits_of f n) ≡ n
unfolding digits_of read_on
digits_back zero n h = omega arith
digits_back (suc f) n h = go (ltb n 10) refl (digits_back f (n / 10))
  where
    go : (t : Bool) → ltb n 10 ≡ t → (n / 10 < 10 ^ f → number_of (digits_of f (n / 10)) ≡ n / 10)
        → number_of (cond t ((48 + n) ∷ []) (digits_of f (n / 10) ++ (48 + n % 10) ∷ [])) ≡ n
    go true e r = omega arith
    go false e r =
        let p : 10 ^ suc f ≡ 10 * 10 ^ f = pow-succ' 10 f in
        read_append 0 (digits_of f (n / 10)) ((48 + n % 10) ∷ []) ∙ rw (r (omega arith)) (omega arith)

-- no digit is lost
pub decimal_back : (n : ℕ) → n < 10 ^ 20 → number_of (decimal_of n) ≡ n
unfolding decimal_of
decimal_back n h = digits_back 20 n h

-- at least one digit
digits_some : (f n : ℕ) → 0 < length (digits_of (suc f) n)
unfolding digits_of
digits_some f n = go (ltb n 10)
  where
    go : (t : Bool) → 0 < length (cond t ((48 + n) ∷ []) (digits_of f (n / 10) ++ (48 + n % 10) ∷ []))
    go true = omega arith
    go false = simp length-append (omega arith)

pub decimal_some : (n : ℕ) → 0 < length (decimal_of n)
unfolding decimal_of
decimal_some n = digits_some 19 n

-- no zero in front, but for the number 0
digits_first : (f n : ℕ) → n < 10 ^ suc f → (n ≡ 0 → ⊥) → get_or (digits_of (suc f) n) 0 0 ≡ 48 → ⊥
digits_first zero n h z q =
    let r : 48 + n ≡ 48 = sym (ap (λ (xs : List ℕ). get_or xs 0 0) (digits_one 0 n h)) ∙ q in
    z (omega arith)
digits_first (suc f) n h z q = go (ltb n 10) refl (digits_first f (n / 10))
  where
    go : (t : Bool) → ltb n 10 ≡ t → (n / 10 < 10 ^ suc f → (n / 10 ≡ 0 → ⊥) → get_or (digits_of (suc f) (n / 10)) 0 0 ≡ 48 → ⊥) → ⊥
    go true e r =
        let l : n < 10 = ltb-true _ _ e in
        let s : 48 + n ≡ 48 = sym (ap (λ (xs : List ℕ). get_or xs 0 0) (digits_one (suc f) n l)) ∙ q in
        z (omega arith)
    go false e r =
        let l : 10 ≤ n = ltb-false _ _ e in
        let p : 10 ^ suc (suc f) ≡ 10 * 10 ^ suc f = pow-succ' 10 (suc f) in
        r (omega arith) (λ y. omega arith)
        (sym (get_or-append (digits_of (suc f) (n / 10)) ((48 + n % 10) ∷ []) 0 0 (digits_some f (n / 10)))
        ∙ sym (ap (λ (xs : List ℕ). get_or xs 0 0) (digits_next (suc f) n l))
        ∙ q)

pub decimal_first : (n : ℕ) → n < 10 ^ 20 → (n ≡ 0 → ⊥) → get_or (decimal_of n) 0 0 ≡ 48 → ⊥
unfolding decimal_of
decimal_first n h z q = digits_first 19 n h z q

-- nothing but digits
abbrev pub only_digits : List ℕ → Bool
only_digits [] = true
only_digits (b ∷ bs) = leb 48 b && (leb b 57 && only_digits bs)

only_more : (xs : List ℕ) (d : ℕ) → d < 10 → only_digits xs ≡ true → only_digits (xs ++ (48 + d) ∷ []) ≡ true
only_more [] d h e = simp (le-leb 48 (48 + d) (omega arith), le-leb (48 + d) 57 (omega arith))
only_more (b ∷ bs) d h e = go (leb 48 b) (leb b 57) e (only_more bs d h)
  where
    go : (s t : Bool) → (s && (t && only_digits bs)) ≡ true → (only_digits bs ≡ true → only_digits (bs ++ (48 + d) ∷ []) ≡ true)
        → (s && (t && only_digits (bs ++ (48 + d) ∷ []))) ≡ true
    go true true e r = r e
    go true false e r = e
    go false t e r = e

digits_only : (f n : ℕ) → only_digits (digits_of f n) ≡ true
unfolding digits_of
digits_only zero n = refl
digits_only (suc f) n = go (ltb n 10) refl (digits_only f (n / 10))
  where
    go : (t : Bool) → ltb n 10 ≡ t → only_digits (digits_of f (n / 10)) ≡ true
        → only_digits (cond t ((48 + n) ∷ []) (digits_of f (n / 10) ++ (48 + n % 10) ∷ [])) ≡ true
    go true e r = only_more [] n (ltb-true _ _ e) refl
    go false e r = only_more (digits_of f (n / 10)) (n % 10) (omega arith) r

pub decimal_digits : (n : ℕ) → only_digits (decimal_of n) ≡ true
unfolding decimal_of
decimal_digits n = digits_only 20 n
