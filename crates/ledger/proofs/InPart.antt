-- WHAT THE C RUNTIME MAY COUNT ON WHERE STORES REACH MEMORY IN PART: stop the machine after any history, and recover the image of persisted memory as often as one likes: each
-- time cut wherever one likes, or complete while of its stores some only have reached memory, words before the descriptor that they pointed to (`MayBeLeft` of `images`). What is then
-- there is accepted, every word's value is the ledger's, and a complete call leaves the bytes of one complete call on the first image.
use Rattle.std.specs.Prelude.{◌≡◌, true, List, [], ℕ, ◌<◌, length}
use Rattle.std.proofs.Common.{◌∙◌}
use Rattle.memory.specs.Fresh.{good_sizes}
use Rattle.events.specs.declared.Event.{Event}
use Rattle.image.specs.Check.{image_refusal}
use Rattle.image.specs.Recover.{run_from, recover_of}
use Rattle.image.specs.Values.{value_in}
use Rattle.image.specs.Cuts.{call_runs}
use Rattle.images.specs.InPart.{MayBeLeft, StillRecovers}
use Rattle.images.proofs.Mixing.{every_mixture_recovers}
use Rattle.ledger.specs.Statement.{ledger}
use Rattle.ledger.proofs.Passes.{every_image_passes}
use Rattle.ledger.specs.Runtime.{found}
use Rattle.ledger.proofs.RuntimeHolds.{every_history_recovers}

module _ (n k w : ℕ) (sizes : good_sizes n k w ≡ true) (es : List Event) (y : List ℕ) (l : MayBeLeft n k (found n k w es) y) where
  passes : image_refusal n k (found n k w es) ≡ 0
  passes = every_image_passes n k w sizes es (length es)

  start : (a : ℕ) → a < n → value_in n (found n k w es) a ≡ ledger n k w es (length es) a
  unfolding run_from
  start a h = rw (call_runs n k (found n k w es) 0 passes) at ((every_history_recovers n k w sizes es).value [] 0 a h)

  still : StillRecovers n k (found n k w es) y
  still = every_mixture_recovers n k (found n k w es) y passes l

  pub part_accepted : image_refusal n k y ≡ 0
  part_accepted = still.accepted

  pub part_value : (a : ℕ) → a < n → value_in n y a ≡ ledger n k w es (length es) a
  part_value a h = still.values a h ∙ start a h

  pub part_recovers : (s t : ℕ) → (recover_of n k y s).result.answer ≡ 0 → (recover_of n k (found n k w es) t).result.answer ≡ 0
      → (recover_of n k y s).bytes ≡ (recover_of n k (found n k w es) t).bytes
  part_recovers = still.same
