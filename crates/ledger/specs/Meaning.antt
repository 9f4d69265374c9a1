-- What a body says of an address, what a cell means, and the ledger after an operation.
use Rattle.std.specs.Prelude.{◌≡◌, refl, cond, [], ◌∷◌, ℕ, zero, suc, ◌<◌, length}
use Rattle.std.proofs.Common.{arith}
use Rattle.std.proofs.Math.Decide.{ℕ_discrete}
use Rattle.word.specs.declared.Status.{Status}
use Rattle.steps.specs.declared.Entry.{Entry}
use Rattle.memory.specs.declared.Copy.TheVariants.{Persisted}
use Rattle.memory.specs.Value.{succeeded}
use Rattle.ledger.specs.Update.{upd, upd_case, upd_same, upd_cong}
use Rattle.ledger.specs.Cells.{Cell, plain, pointer, neither, Body, Cells}
use Rattle.ledger.specs.Seen.{address_at}

-- the expected and the desired of the entry for an address (0 if there is none)
unfoldable pub expected_of : Body → ℕ → ℕ
expected_of [] = λ a. 0
expected_of (e ∷ b) = upd (expected_of b) e.address e.expected

unfoldable pub desired_of : Body → ℕ → ℕ
desired_of [] = λ a. 0
desired_of (e ∷ b) = upd (desired_of b) e.address e.desired

-- the ledger L after all the desired values of a body at once
unfoldable pub put_all : Body → (ℕ → ℕ) → ℕ → ℕ
put_all [] L = L
put_all (e ∷ b) L = upd (put_all b L) e.address e.desired

-- the body has the address
pub data Has : Body → ℕ → Type 0 where
  here : {e : Entry} {b : Body} {a : ℕ} → a ≡ e.address → Has (e ∷ b) a
  later : {e : Entry} {b : Body} {a : ℕ} → Has b a → Has (e ∷ b) a

-- what a pointer to a descriptor with this persisted status and body stands for at a (document 01, "value")
abbrev pub stands : Status → Body → ℕ → ℕ
stands s b a = cond (succeeded s) (desired_of b a) (expected_of b a)

-- what a cell at a means, by persisted status and body (a number that is neither word is never met: see Fits)
abbrev pub means_in : (ℕ → Status) → (ℕ → Body) → ℕ → Cell → ℕ
means_in s b a (plain v) = v
means_in s b a (pointer d) = stands (s d) (b d) a
means_in s b a (neither w) = 0

abbrev pub means : Cells → ℕ → Cell → ℕ
means M a c = means_in (M.status Persisted) (M.body Persisted) a c

pub has? : (b : Body) (a : ℕ) → Dec (Has b a)
has? [] a = no (λ h. elim h [ ])
has? (e ∷ b) a = go (ℕ_discrete a e.address) (has? b a)
  where
    go : Dec (a ≡ e.address) → Dec (Has b a) → Dec (Has (e ∷ b) a)
    go (yes p) r = yes (here p)
    go (no q) (yes m) = yes (later m)
    go (no q) (no r) = no (λ h. neither_one h q r)
      where
        neither_one : Has (e ∷ b) a → ¬ (a ≡ e.address) → ¬ (Has b a) → ⊥
        neither_one (here p) q r = q p
        neither_one (later m) q r = r m

-- where the body has the address, the ledger becomes its desired value; elsewhere it stays
pub put_in : (b : Body) (L : ℕ → ℕ) (a : ℕ) → Has b a → put_all b L a ≡ desired_of b a
unfolding put_all desired_of
put_in [] L a x' = elim x' [ ]
put_in (e ∷ b) L a (here p) = rw (p, upd_same (put_all b L) e.address e.desired, upd_same (desired_of b) e.address e.desired)
put_in (e ∷ b) L a (later h) = upd_cong _ _ e.address e.desired a (put_in b L a h)

pub put_out : (b : Body) (L : ℕ → ℕ) (a : ℕ) → ¬ (Has b a) → put_all b L a ≡ L a
unfolding put_all
put_out [] L a h = refl
put_out (e ∷ b) L a h = upd_case (λ (a : ℕ) (v : ℕ). ¬ (Has (e ∷ b) a) → v ≡ L a) (λ a q h. put_out b L a (λ m. h (later m))) (λ h. absurd (h (here refl))) a h

-- entries by their number
pub has-at : (b : Body) (i : ℕ) → i < length b → Has b (address_at b i)
has-at [] i h = absurd (omega arith)
has-at (e ∷ b) zero h = here refl
has-at (e ∷ b) (suc i) h = later (has-at b i (omega arith))

pub at_has : (b : Body) (a : ℕ) (P : ℕ → Type 0) → Has b a → ((i : ℕ) → i < length b → P (address_at b i)) → P a
at_has [] a P x'' u = elim x'' [ ]
at_has (e ∷ b) a P (here p) u = rw p (u 0 (omega arith))
at_has (e ∷ b) a P (later m) u = at_has b a P m (λ j h. u (suc j) (omega arith))
