-- Two results and two final contents that keep the promise of `pmwcas_recover` coincide.
use Rattle.std.specs.Prelude.{◌≡◌, List, ℕ}
use Rattle.std.proofs.Common.{sym, ap, ◌∙◌}
use Rattle.image.specs.declared.Recovery.{Recovery}
use Rattle.image.specs.Recover.{Recovered, recovered, recover_of}

pub pmwcas_recover : (n k : ℕ) (s : List ℕ) (allowance : ℕ) (x y : List ℕ) (q r : Recovery) → recovered x q ≡ recover_of n k s allowance → recovered y r ≡ recover_of n k s allowance
    → (x ≡ y) × (q ≡ r)
pmwcas_recover n k s allowance x y q r e f =
    let h = e ∙ sym f in
    (ap (λ (c : Recovered). c.bytes) h, ap (λ (c : Recovered). c.result) h)
