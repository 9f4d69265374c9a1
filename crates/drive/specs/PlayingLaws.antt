-- What each call keeps, all calls keep.
use Rattle.std.specs.Prelude.{◌≡◌, refl, List, ℕ}
use Rattle.std.proofs.Common.{◌∙◌}
use Rattle.drive.specs.Playing.{Calls, PlaysAll}
use Rattle.drive.specs.Playing.Calls.{none, more}
use Rattle.drive.specs.Playing.PlaysAll.{used_up, stopped}

module _ {S : Type 0} (plays : S → List ℕ → S → ℕ → Type 0) (f : S → ℕ) (keeps : (s t : S) (x : List ℕ) (n : ℕ) → plays s x t n → f t ≡ f s) where
  calls_keep : (s : S) (x : List ℕ) (t : S) (n : ℕ) → Calls plays s x t n → f t ≡ f s
  calls_keep s x t n none = refl
  calls_keep s x t n (more {t = u} {n = i} c p q) = keeps _ _ _ _ p ∙ calls_keep s x u i c

  pub all_keep : (s t : S) (x : List ℕ) (n : ℕ) → PlaysAll plays s x t n → f t ≡ f s
  all_keep s t x n (used_up c) = calls_keep s x t n c
  all_keep s t x n (stopped {t = u} c p) = keeps _ _ _ _ p ∙ calls_keep s x u n c
