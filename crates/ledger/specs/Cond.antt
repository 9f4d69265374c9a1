-- What holds of a choice, from what holds of each side where it is taken.
use Rattle.std.specs.Prelude.{◌≡◌, refl, ◌≢◌, Bool, true, false, cond, ◌&&◌, ℕ, ◌≤◌, ◌<◌, eqb, ltb}
use Rattle.std.proofs.Common.{eqb-true, ltb-true, ltb-false, lt-ltb}
use Rattle.std.proofs.lemmas.Bool.{eqb-false}
use Rattle.events.specs.First.{and_first, and_second}
use Rattle.ledger.specs.Update.{clash}

module _ {A : Type 0} (P : A → Type 0) where
  pub cond_if : (t : Bool) (x y : A) → (t ≡ true → P x) → (t ≡ false → P y) → P (cond t x y)
  cond_if true x y f h = f refl
  cond_if false x y f h = h refl

  pub cond_eq : (m n : ℕ) (x y : A) → (m ≡ n → P x) → (m ≢ n → P y) → P (cond (eqb m n) x y)
  cond_eq m n x y f h = cond_if (eqb m n) x y (λ e. f (eqb-true m n e)) (λ e. h (eqb-false m n e))

  pub cond_lt : (m n : ℕ) (x y : A) → (m < n → P x) → (n ≤ m → P y) → P (cond (ltb m n) x y)
  cond_lt m n x y f h = cond_if (ltb m n) x y (λ e. f (ltb-true m n e)) (λ e. h (ltb-false m n e))

  pub cond_both : (i j m n : ℕ) (x y : A) → (i < j → m < n → P x) → ((i < j → m < n → ⊥) → P y) → P (cond (ltb i j && ltb m n) x y)
  cond_both i j m n x y f h = cond_if (ltb i j && ltb m n) x y
      (λ e. f (ltb-true i j (and_first (ltb i j) (ltb m n) e)) (ltb-true m n (and_second (ltb i j) (ltb m n) e)))
      (λ e. h (λ p q. let z : ltb i j ≡ true = lt-ltb i j p in let w : ltb m n ≡ true = lt-ltb m n q in let u : ◌≡◌ {A = Bool} true false = (rw (z, w) at e) in clash (cc)))
