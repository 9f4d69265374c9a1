-- The call that uses nothing, and the input used up.
use Rattle.std.specs.Prelude.{◌≡◌, List, ℕ, length, drop}
use Rattle.std.proofs.Common.{subst, sym}
use Rattle.drive.specs.Playing.{Calls, PlaysAll}
use Rattle.drive.specs.Playing.PlaysAll.{used_up, stopped}

module _ {S : Type 0} (plays : S → List ℕ → S → ℕ → Type 0) where
  pub stops : (s t u : S) (x : List ℕ) (n m : ℕ) → Calls plays s x t n → plays t (drop n x) u m → m ≡ 0 → PlaysAll plays s x u n
  stops s t u x n m c p z = stopped c (subst (λ (k : ℕ). plays t (drop n x) u k) z p)

  pub uses_up : (s t : S) (x : List ℕ) (n : ℕ) → Calls plays s x t n → n ≡ length x → PlaysAll plays s x t n
  uses_up s t x n c e = subst (λ (k : ℕ). PlaysAll plays s x t k) (sym e) (used_up (subst (λ (k : ℕ). Calls plays s x t k) e c))
