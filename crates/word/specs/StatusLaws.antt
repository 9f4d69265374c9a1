-- Sorting and making statuses are each other's inverse, and clearing the dirty bit changes nothing else.
use Rattle.std.specs.Prelude.{◌≡◌, true, false, not, ℕ, ◌/◌, ◌%◌, ◌^◌, ◌<◌, eqb}
use Rattle.std.proofs.Math.Path.{refl}
use Rattle.std.proofs.Common.{sym, ap, ◌∙◌, arith, eqb-true}
use Rattle.std.proofs.Math.Bool.{Bool, cond}
use Rattle.std.proofs.lemmas.Bool.{eqb-false, not-true, not-false}
use Rattle.word.specs.declared.Outcome.{Outcome}
use Rattle.word.specs.declared.Outcome.TheVariants.{Succeeded, Failed}
use Rattle.word.specs.declared.Status.{Status}
use Rattle.word.specs.declared.Status.TheVariants.{Free, Undecided, Decided, Bad}
use Rattle.word.specs.Word.{marked}
use Rattle.word.specs.Status.{status_of, status_number, status_cleared, outcome_number}

-- what sorting a number can answer: Bad stands only on a number that is no status
abbrev pub StatusFormed : Status → Type 0
StatusFormed Free = Unit
StatusFormed Undecided = Unit
StatusFormed (Decided o dirty) = Unit
StatusFormed (Bad x) = status_of x ≡ Bad x

-- the sort of what was made is what was made
pub status_made : (s : Status) → StatusFormed s → status_of (status_number s) ≡ s
unfolding status_of
status_made Free h = refl
status_made Undecided h = refl
status_made (Decided Succeeded true) h = refl
status_made (Decided Succeeded false) h = refl
status_made (Decided Failed true) h = refl
status_made (Decided Failed false) h = refl
status_made (Bad x) h = h

-- what holds of the sort of x, from the tests that lead to it
module _ (x : ℕ) (P : Status → Type 0) where
  pub by_tests : (x ≡ 0 → P Free) → (x ≡ 1 → P Undecided)
      → ((o : Outcome) (c : Bool) → x % 2 ^ 63 ≡ outcome_number o → not (eqb (x / 2 ^ 63) 0) ≡ c → P (Decided o c))
      → (status_of x ≡ Bad x → P (Bad x))
      → P (status_of x)
  unfolding status_of
  by_tests free undecided decided bad = go (eqb x 0) (eqb x 1) (eqb (x % 2 ^ 63) 2) (eqb (x % 2 ^ 63) 3) refl refl refl refl
    where
      by : Bool → Bool → Bool → Bool → Status
      by a b c d =
          cond a Free
          (cond b Undecided
          (cond c (Decided Succeeded (not (eqb (x / 2 ^ 63) 0)))
          (cond d (Decided Failed (not (eqb (x / 2 ^ 63) 0)))
          (Bad x))))

      go : (a b c d : Bool) → eqb x 0 ≡ a → eqb x 1 ≡ b → eqb (x % 2 ^ 63) 2 ≡ c → eqb (x % 2 ^ 63) 3 ≡ d → P (by a b c d)
      go true b c d e f g h = free (eqb-true _ _ e)
      go false true c d e f g h = undecided (eqb-true _ _ f)
      go false false true d e f g h = decided Succeeded _ (eqb-true _ _ g) refl
      go false false false true e f g h = decided Failed _ (eqb-true _ _ h) refl
      go false false false false e f g h = bad (simp (e, f, g, h))

-- making from a sort gives the number back
back_decided : (x : ℕ) → x < 2 ^ 64 → (n : ℕ) (c : Bool) → x % 2 ^ 63 ≡ n → not (eqb (x / 2 ^ 63) 0) ≡ c → marked c n ≡ x
back_decided x h n true e f = let g : x / 2 ^ 63 ≡ 0 → ⊥ = eqb-false _ _ (not-true _ f) in omega arith
back_decided x h n false e f = let g : x / 2 ^ 63 ≡ 0 = eqb-true _ _ (not-false _ f) in omega arith

pub status_back : (x : ℕ) → x < 2 ^ 64 → status_number (status_of x) ≡ x
status_back x h = by_tests x (λ s. status_number s ≡ x) (λ e. sym e) (λ e. sym e) (λ o c e f. back_decided x h _ c e f) (λ e. refl)

-- two statuses of the same sort are equal
pub same_status : (x y : ℕ) → x < 2 ^ 64 → y < 2 ^ 64 → status_of x ≡ status_of y → x ≡ y
same_status x y h l e = sym (status_back x h) ∙ ap status_number e ∙ status_back y l

pub status_formed : (x : ℕ) → StatusFormed (status_of x)
status_formed x = by_tests x StatusFormed (λ e. tt) (λ e. tt) (λ o c e f. tt) (λ e. e)

-- clearing takes bit 63 off a status and changes no other bit; a number that is no status stays
abbrev pub Good : Status → Type 0
Good Free = Unit
Good Undecided = Unit
Good (Decided o dirty) = Unit
Good (Bad x) = ⊥

pub status-cleared : (x : ℕ) → Good (status_of x) → status_number (status_cleared (status_of x)) ≡ x % 2 ^ 63
status-cleared x =
    by_tests x (λ s. Good s → status_number (status_cleared s) ≡ x % 2 ^ 63)
    (λ e g. omega arith)
    (λ e g. omega arith)
    (λ o c e f g. sym e)
    (λ e g. omega arith)

pub bad_cleared : (x : ℕ) → status_of x ≡ Bad x → status_cleared (status_of x) ≡ Bad x
bad_cleared x e = ap status_cleared e
