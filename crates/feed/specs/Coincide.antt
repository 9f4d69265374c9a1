-- Two final contents and two results that keep the promise of `keep` coincide. Those of `read_on` need not: what is read comes from outside.
use Rattle.std.specs.Prelude.{◌≡◌, List, ℕ}
use Rattle.std.proofs.Common.{sym, ap, ◌∙◌}
use Rattle.feed.specs.Feed.{Kept, kept, kept_of}

pub keep : (s : List ℕ) (from to : ℕ) (x y : List ℕ) (r t : ℕ) → kept x r ≡ kept_of s from to → kept y t ≡ kept_of s from to → (x ≡ y) × (r ≡ t)
keep s from to x y r t e f = (ap (λ (k : Kept). k.bytes) (e ∙ sym f), ap (λ (k : Kept). k.many) (e ∙ sym f))
