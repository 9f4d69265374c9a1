-- For every public function: two results, or two final contents, that keep its promise coincide.
use Rattle.std.specs.Prelude.{◌≡◌, List, ℕ}
use Rattle.std.proofs.Common.{sym, ◌∙◌}
use Rattle.little.specs.Number.{number_at, with_number}

pub read_u64 : (s : List ℕ) (at r t : ℕ) → r ≡ number_at s at → t ≡ number_at s at → r ≡ t
read_u64 s at r t e f = e ∙ sym f

pub write_u64 : (s : List ℕ) (at v : ℕ) (x y : List ℕ) → x ≡ with_number s at v → y ≡ with_number s at v → x ≡ y
write_u64 s at v x y e f = e ∙ sym f
