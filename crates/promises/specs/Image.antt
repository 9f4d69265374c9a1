-- The crate `image`: the contract of every public function, as it is written in src/, asks nothing and gives the equation.
use Rattle.image.specs.Recover.{recover_of, recovered}
use Rattle.std.specs.Prelude.{◌≡◌}
use Rattle.image.proofs.pmwcas_recover.Reads as FnPmwcasRecover

pub pmwcas_recover : (κs n k image allowance r n' k' image' allowance' : _) → FnPmwcasRecover.Asked κs (n, (k, (image, (allowance, tt)))) × (FnPmwcasRecover.Learnt κs (n, (k, (image, (allowance, tt)))) r (n', (k', (image', (allowance', tt)))) → recovered image'.now r ≡ recover_of n k image.now allowance)
pmwcas_recover _ _ _ _ _ _ _ _ _ _ = (tt, λ given. given)
