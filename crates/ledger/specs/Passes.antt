-- "Every persisted image the machine reaches passes" (document 01, "Images for the C runtime"): at every moment of every history, no check of `image` refuses the
-- image of persisted memory. proofs/Passes.antt has why.
use Rattle.std.specs.Prelude.{◌≡◌, true, List, ℕ}
use Rattle.memory.specs.declared.Copy.TheVariants.{Persisted}
use Rattle.memory.specs.Fresh.{good_sizes}
use Rattle.events.specs.declared.Event.{Event}
use Rattle.image.specs.Check.{image_refusal}
use Rattle.image.specs.OfMemory.{image_of}
use Rattle.ledger.specs.Statement.{memory_at}

abbrev pub EveryImagePasses : Type 0
EveryImagePasses = (n k w : ℕ) → good_sizes n k w ≡ true → (es : List Event) (i : ℕ) → image_refusal n k (image_of Persisted (memory_at n k w es i) n k) ≡ 0
