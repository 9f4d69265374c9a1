-- Every history recovers: the statement of `Runtime`, from the laws of `image` on accepted images.
use Rattle.std.specs.Prelude.{◌≡◌, List, ℕ, ◌≤◌, ◌<◌, length}
use Rattle.std.proofs.Common.{◌∙◌}
use Rattle.std.proofs.Math.Bool.{true}
use Rattle.memory.specs.declared.Copy.TheVariants.{Persisted}
use Rattle.memory.specs.Fresh.{good_sizes}
use Rattle.events.specs.declared.Event.{Event}
use Rattle.image.specs.Check.{image_refusal}
use Rattle.image.specs.Values.{value_in}
use Rattle.image.specs.OfMemory.{image_of}
use Rattle.ledger.specs.Statement.{memory_at, ledger}
use Rattle.ledger.proofs.History.{memory_whole}
use Rattle.ledger.proofs.Moments.{always}
use Rattle.ledger.proofs.Instant.{inv}
use Rattle.ledger.specs.Ranges.{ranges}
use Rattle.ledger.specs.Small.{small_fits}
use Rattle.ledger.proofs.SmallKept.{always_small}
use Rattle.ledger.proofs.Passes.{every_image_passes}
use Rattle.ledger.proofs.ImageValue.{image_value, crash_image}
use Rattle.ledger.specs.Runtime.{Recovers, EveryHistoryRecovers}
use Rattle.images.specs.Again.{Again}
use Rattle.images.specs.AgainHolds.{every_image_again}

module _ (n k w : ℕ) (sizes : good_sizes n k w ≡ true) (nn : n ≤ 64) (kk : k ≤ 16) (ww : w ≤ 8) (kp : 0 < k) (es : List Event) where
  abbrev x : List ℕ
  x = image_of Persisted (memory_at n k w es (length es)) n k

  accepted : image_refusal n k x ≡ 0
  accepted = every_image_passes n k w sizes es (length es)

  start_value : (a : ℕ) → a < n → value_in n x a ≡ ledger n k w es (length es) a
  start_value a l =
      let i = length es in
      image_value n k nn kk (memory_at n k w es i) (small_fits Persisted (memory_at n k w es i) (always_small n k w nn kk ww kp es i)) (inv n k w nn kk ww kp es i) a l
      ∙ always n k w es nn kk ww kp i a

  -- of every accepted image (`images`)
  again : Again n k x
  again = every_image_again n k x accepted

  holds : Recovers n k w es
  holds = record {
    crash = crash_image (memory_at n k w es (length es)) (memory_whole n k w es (length es)) n k;
    accepted = again.accepted;
    enough = again.enough;
    plain = λ ss s a z l. rw (← start_value a l) (again.plain ss s a z l);
    free = again.free;
    value = λ ss s a l. again.values ss s a l ∙ start_value a l;
  }

pub every_history_recovers : EveryHistoryRecovers
every_history_recovers n k w e es = let r = ranges n k w e in holds n k w e r.words r.descriptors r.workers r.some es
