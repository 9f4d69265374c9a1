-- How long a line is, and what the last line shows.
use Rattle.std.specs.Prelude.{◌≡◌, refl, Bool, true, false, List, [], ◌∷◌, ◌++◌, ℕ, zero, suc, ◌*◌, ◌<◌, ◌≤◌, eqb, length, get_or}
use Rattle.std.proofs.Common.{sym, ap, ◌∙◌, append_assoc, arith, length-append, eqb-true}
use Rattle.std.proofs.Math.ListN.{get_or-append}
use Rattle.std.proofs.lemmas.List.{get_or_at}
use Rattle.std.proofs.lemmas.Bool.{eqb-false}
use Rattle.word.specs.declared.Outcome.TheVariants.{Succeeded, Failed}
use Rattle.memory.specs.Block.{Block}
use Rattle.memory.specs.Value.{value_of}
use Rattle.events.specs.declared.Answer.{Answer}
use Rattle.events.specs.declared.Answer.TheVariants.{Ok, Opened, Moved, Helping, Waits, Answered, Shows, Recovering, Recovered, Refused}
use Rattle.events.specs.Event.{letters_of, figure_of}
use Rattle.answers.specs.Decimal.{decimal_of}
use Rattle.answers.specs.DecimalLaws.{decimal_length}
use Rattle.answers.specs.Line.{spaced, line_of, values_below, words_shown, last_line}

pub spaced_append : (xs ys : List ℕ) → spaced (xs ++ ys) ≡ spaced xs ++ spaced ys
spaced_append [] ys = refl
spaced_append (x ∷ xs) ys =
    ap (λ (zs : List ℕ). (32 ∷ decimal_of x) ++ zs) (spaced_append xs ys) ∙ sym (append_assoc (32 ∷ decimal_of x) (spaced xs) (spaced ys))

-- a space and at most 20 digits for each number
pub spaced_length : (xs : List ℕ) → length (spaced xs) ≤ 21 * length xs
spaced_length [] = omega arith
spaced_length (x ∷ xs) = simp length-append (omega (arith, decimal_length x, spaced_length xs))

letters_length : (a : Answer) → length (letters_of a) ≤ 2
letters_length Ok = omega arith
letters_length (Opened d) = omega arith
letters_length Moved = omega arith
letters_length (Helping e) = omega arith
letters_length Waits = omega arith
letters_length (Answered Succeeded) = omega arith
letters_length (Answered Failed) = omega arith
letters_length (Shows v) = omega arith
letters_length Recovering = omega arith
letters_length Recovered = omega arith
letters_length (Refused r) = omega arith

figure_length : (a : Answer) → length (figure_of a) ≤ 1
figure_length Ok = omega arith
figure_length (Opened d) = omega arith
figure_length Moved = omega arith
figure_length (Helping e) = omega arith
figure_length Waits = omega arith
figure_length (Answered o) = omega arith
figure_length (Shows v) = omega arith
figure_length Recovering = omega arith
figure_length Recovered = omega arith
figure_length (Refused r) = omega arith

pub line_length : (i : ℕ) (a : Answer) → length (line_of i a) ≤ 45
unfolding line_of
line_length i a =
    simp length-append (omega (arith, decimal_length i, letters_length a, figure_length a, spaced_length (figure_of a)))

-- the values of n words, each at its address
pub values_length : (m : Block) (n : ℕ) → length (values_below m n) ≡ n
unfolding values_below
values_length m zero = refl
values_length m (suc n) = simp length-append (omega (arith, values_length m n))

pub values_at : (m : Block) (n a : ℕ) → a < n → get_or (values_below m n) a 0 ≡ value_of m a
unfolding values_below
values_at m zero a h = omega arith
values_at m (suc n) a h = go (eqb n a) refl (values_at m n a)
  where
    go : (t : Bool) → eqb n a ≡ t → (a < n → get_or (values_below m n) a 0 ≡ value_of m a)
        → get_or (values_below m n ++ value_of m n ∷ []) a 0 ≡ value_of m a
    go true e r =
        let z : n ≡ a = eqb-true _ _ e in
        rw (← z) (get_or_at (values_below m n) (value_of m n) [] 0 n (values_length m n))
    go false e r =
        let z : n ≡ a → ⊥ = eqb-false _ _ e in
        get_or-append (values_below m n) (value_of m n ∷ []) 0 a (omega (arith, values_length m n)) ∙ r (omega arith)

pub last_length : (m : Block) → length (last_line m) ≤ 1346
unfolding last_line
last_length m =
    simp length-append (omega (arith, spaced_length (values_below m (words_shown m)), values_length m (words_shown m)))
