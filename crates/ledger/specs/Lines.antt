-- A text and its lines: the lines put together are the text again, and lines that end with their only newline come apart as they were. A record's line and the last line are such lines; and the letter
-- of a line tells its answer.
use Rattle.std.specs.Prelude.{◌≡◌, refl, ◌≢◌, Bool, true, false, cond, ◌&&◌, ℕ, ◌≤◌, ◌<◌, eqb, leb, length, get_or}
use Rattle.std.proofs.Common.{◌∙◌, ap, arith, ne_eqb, leb-true}
use mathlib.Core.List.{List, [], ◌∷◌, ◌++◌, flatten, append_assoc}
use Rattle.word.specs.declared.Outcome.{Outcome}
use Rattle.word.specs.declared.Outcome.TheVariants.{Succeeded, Failed}
use Rattle.events.specs.declared.Answer.{Answer}
use Rattle.events.specs.declared.Answer.TheVariants.{Ok, Opened, Moved, Helping, Waits, Answered, Shows, Recovering, Recovered, Refused}
use Rattle.events.specs.Event.{letters_of, figure_of}
use Rattle.events.specs.First.{both}
use Rattle.answers.specs.Decimal.{decimal_of}
use Rattle.answers.specs.DecimalLaws.{only_digits, decimal_some, decimal_digits}
use Rattle.answers.specs.Line.{spaced, said, line_of}
use Rattle.ledger.specs.OverBytes.{before, lines_of, letter_in, ledger_values, ledger_line}
use Rattle.ledger.specs.Update.{clash}

-- the lines put together
flatten_before : (b : ℕ) (ls : List (List ℕ)) → flatten (before b ls) ≡ b ∷ flatten ls
unfolding flatten
flatten_before b [] = refl
flatten_before b (l ∷ ls) = refl

pub lines_back : (x : List ℕ) → flatten (lines_of x) ≡ x
unfolding lines_of flatten
lines_back [] = refl
lines_back (b ∷ x) = go (eqb b 10) (lines_back x)
  where
    go : (t : Bool) → flatten (lines_of x) ≡ x → flatten (cond t ((b ∷ []) ∷ lines_of x) (before b (lines_of x))) ≡ b ∷ x
    go true e = ap (λ (y : List ℕ). b ∷ y) e
    go false e = flatten_before b (lines_of x) ∙ ap (λ (y : List ℕ). b ∷ y) e

-- no newline in it
abbrev Unbroken : List ℕ → Type 0
Unbroken [] = Unit {0}
Unbroken (b ∷ x) = (b ≢ 10) × Unbroken x

unbroken_append : (x y : List ℕ) → Unbroken x → Unbroken y → Unbroken (x ++ y)
unbroken_append [] y h g = g
unbroken_append (b ∷ x) y h g = (h.0, unbroken_append x y h.1 g)

-- one line, with its newline
abbrev pub Line : List ℕ → Type 0
Line l = (x : List ℕ) × Unbroken x × (l ≡ x ++ 10 ∷ [])

first_line : (x y : List ℕ) → Unbroken x → lines_of (x ++ 10 ∷ y) ≡ (x ++ 10 ∷ []) ∷ lines_of y
unfolding lines_of
first_line [] y h = refl
first_line (b ∷ x) y h = rw (ne_eqb b 10 h.0, first_line x y h.1)

abbrev pub AllLines : List (List ℕ) → Type 0
AllLines [] = Unit {0}
AllLines (l ∷ ls) = Line l × AllLines ls

pub all_append : (ls ms : List (List ℕ)) → AllLines ls → AllLines ms → AllLines (ls ++ ms)
all_append [] ms h g = g
all_append (l ∷ ls) ms h g = (h.0, all_append ls ms h.1 g)

pub lines_apart : (ls : List (List ℕ)) → AllLines ls → lines_of (flatten ls) ≡ ls
unfolding lines_of flatten
lines_apart [] h = refl
lines_apart (l ∷ ls) h =
    let z = h.0 in
    ap lines_of (ap (λ (y : List ℕ). y ++ flatten ls) z.2 ∙ append_assoc z.0 (10 ∷ []) (flatten ls))
    ∙ first_line z.0 (flatten ls) z.1
    ∙ rw (← z.2, lines_apart ls h.1) refl

-- digits, numbers and letters
module _ where
  digits_unbroken : (x : List ℕ) → only_digits x ≡ true → Unbroken x
  digits_unbroken [] e = tt
  digits_unbroken (b ∷ x) e =
      let z = both (leb 48 b) (leb b 57 && only_digits x) e in
      let l : 48 ≤ b = leb-true _ _ z.0 in
      ((λ q. omega arith), digits_unbroken x (both (leb b 57) (only_digits x) z.1).1)

  spaced_unbroken : (xs : List ℕ) → Unbroken (spaced xs)
  spaced_unbroken [] = tt
  spaced_unbroken (y ∷ xs) = ((λ q. omega arith), unbroken_append (decimal_of y) (spaced xs) (digits_unbroken (decimal_of y) (decimal_digits y)) (spaced_unbroken xs))

  letters_unbroken : (r : Answer) → Unbroken (letters_of r)
  letters_unbroken Ok = ((λ q. omega arith), ((λ q. omega arith), tt))
  letters_unbroken (Opened d) = ((λ q. omega arith), tt)
  letters_unbroken Moved = ((λ q. omega arith), tt)
  letters_unbroken (Helping e) = ((λ q. omega arith), tt)
  letters_unbroken Waits = ((λ q. omega arith), tt)
  letters_unbroken (Answered Succeeded) = ((λ q. omega arith), tt)
  letters_unbroken (Answered Failed) = ((λ q. omega arith), tt)
  letters_unbroken (Shows v) = ((λ q. omega arith), tt)
  letters_unbroken Recovering = ((λ q. omega arith), tt)
  letters_unbroken Recovered = ((λ q. omega arith), tt)
  letters_unbroken (Refused r) = ((λ q. omega arith), tt)

-- a record's line, and the last line
pub record_line : (i : ℕ) (r : Answer) → Line (line_of i r)
unfolding line_of
record_line i r = (
  decimal_of i ++ said r,
  unbroken_append (decimal_of i) (said r) (digits_unbroken (decimal_of i) (decimal_digits i))
      ((λ q. omega arith), unbroken_append (letters_of r) (spaced (figure_of r)) (letters_unbroken r) (spaced_unbroken (figure_of r))),
  refl,
)

pub last-line : (n : ℕ) (L : ℕ → ℕ) → Line (ledger_line n L)
unfolding ledger_line
last-line n L = (61 ∷ spaced (ledger_values n L), ((λ q. omega arith), spaced_unbroken (ledger_values n L)), refl)

-- the letter: it comes after the number, which has digits alone, and the space
letter_after : (x y : List ℕ) → only_digits x ≡ true → letter_in (x ++ 32 ∷ y) ≡ get_or y 0 0
unfolding letter_in
letter_after [] y e = refl
letter_after (b ∷ x) y e =
    let z = both (leb 48 b) (leb b 57 && only_digits x) e in
    let l : 48 ≤ b = leb-true _ _ z.0 in
    rw (ne_eqb b 32 (λ q. omega arith)) (letter_after x y (both (leb b 57) (only_digits x) z.1).1)

abbrev pub letter_of : Answer → ℕ
letter_of r = get_or (letters_of r) 0 0

letter_first : (r : Answer) (y : List ℕ) → get_or (letters_of r ++ y) 0 0 ≡ letter_of r
letter_first Ok y = refl
letter_first (Opened d) y = refl
letter_first Moved y = refl
letter_first (Helping e) y = refl
letter_first Waits y = refl
letter_first (Answered Succeeded) y = refl
letter_first (Answered Failed) y = refl
letter_first (Shows v) y = refl
letter_first Recovering y = refl
letter_first Recovered y = refl
letter_first (Refused r) y = refl

pub letter_is : (i : ℕ) (r : Answer) → letter_in (line_of i r) ≡ letter_of r
unfolding line_of
letter_is i r =
    ap letter_in (append_assoc (decimal_of i) (said r) (10 ∷ []))
    ∙ letter_after (decimal_of i) ((letters_of r ++ spaced (figure_of r)) ++ 10 ∷ []) (decimal_digits i)
    ∙ ap (λ (y : List ℕ). get_or y 0 0) (append_assoc (letters_of r) (spaced (figure_of r)) (10 ∷ []))
    ∙ letter_first r (spaced (figure_of r) ++ 10 ∷ [])

-- it tells S, F and V from all others
pub letter_outcome : (r : Answer) (o : Outcome) → letter_of r ≡ letter_of (Answered o) → r ≡ Answered o
letter_outcome Ok Succeeded e = clash (omega arith)
letter_outcome Ok Failed e = clash (omega arith)
letter_outcome (Opened d) Succeeded e = clash (omega arith)
letter_outcome (Opened d) Failed e = clash (omega arith)
letter_outcome Moved Succeeded e = clash (omega arith)
letter_outcome Moved Failed e = clash (omega arith)
letter_outcome (Helping d) Succeeded e = clash (omega arith)
letter_outcome (Helping d) Failed e = clash (omega arith)
letter_outcome Waits Succeeded e = clash (omega arith)
letter_outcome Waits Failed e = clash (omega arith)
letter_outcome (Answered Succeeded) Succeeded e = refl
letter_outcome (Answered Succeeded) Failed e = clash (omega arith)
letter_outcome (Answered Failed) Succeeded e = clash (omega arith)
letter_outcome (Answered Failed) Failed e = refl
letter_outcome (Shows v) Succeeded e = clash (omega arith)
letter_outcome (Shows v) Failed e = clash (omega arith)
letter_outcome Recovering Succeeded e = clash (omega arith)
letter_outcome Recovering Failed e = clash (omega arith)
letter_outcome Recovered Succeeded e = clash (omega arith)
letter_outcome Recovered Failed e = clash (omega arith)
letter_outcome (Refused y) Succeeded e = clash (omega arith)
letter_outcome (Refused y) Failed e = clash (omega arith)

pub letter_shows : (r : Answer) → letter_of r ≡ 86 → (y : ℕ) × (r ≡ Shows y)
letter_shows Ok e = clash (omega arith)
letter_shows (Opened d) e = clash (omega arith)
letter_shows Moved e = clash (omega arith)
letter_shows (Helping d) e = clash (omega arith)
letter_shows Waits e = clash (omega arith)
letter_shows (Answered Succeeded) e = clash (omega arith)
letter_shows (Answered Failed) e = clash (omega arith)
letter_shows (Shows v) e = (v, refl)
letter_shows Recovering e = clash (omega arith)
letter_shows Recovered e = clash (omega arith)
letter_shows (Refused y) e = clash (omega arith)

-- and the last line has none: a digit stands there
first_digit : (x y : List ℕ) → 0 < length x → only_digits x ≡ true → get_or (x ++ y) 0 0 ≤ 57
first_digit [] y l e = absurd (omega arith)
first_digit (b ∷ x) y l e = leb-true _ _ (both (leb b 57) (only_digits x) (both (leb 48 b) (leb b 57 && only_digits x) e).1).0

values_letter : (xs : List ℕ) → letter_in (spaced xs ++ 10 ∷ []) ≤ 57
unfolding letter_in
values_letter [] = omega arith
values_letter (y ∷ xs) = rw (append_assoc (decimal_of y) (spaced xs) (10 ∷ [])) (first_digit (decimal_of y) (spaced xs ++ 10 ∷ []) (decimal_some y) (decimal_digits y))

pub last_letter : (n : ℕ) (L : ℕ → ℕ) → letter_in (ledger_line n L) ≤ 57
unfolding letter_in ledger_line
last_letter n L = values_letter (ledger_values n L)
