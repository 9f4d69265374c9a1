-- WHAT THE C RUNTIME MAY COUNT ON, stated of the routine's definition (`recover_of` of `image`) and of the machine: stop the machine after any history, take the image of
-- persisted memory, which is what a crash leaves, and call the routine on it, as often as one likes, cut wherever one likes. No call is refused; the first call that
-- answers complete leaves plain words with the ledger's values, and all descriptors Free; and an allowance of 160 is enough.
use Rattle.std.specs.Prelude.{◌≡◌, ◌⊎◌, Bool, true, List, ℕ, ◌≤◌, ◌<◌, length}
use Rattle.word.specs.declared.Sort.TheVariants.{Plain}
use Rattle.word.specs.declared.Status.TheVariants.{Free}
use Rattle.memory.specs.declared.Copy.TheVariants.{Cached, Persisted}
use Rattle.memory.specs.Fresh.{good_sizes}
use Rattle.events.specs.declared.Event.{Event}
use Rattle.events.specs.declared.Event.TheVariants.{Crash}
use Rattle.machine.specs.Apply.{apply_of}
use Rattle.image.specs.Layout.{word_of, part_of, status_in}
use Rattle.image.specs.OfMemory.{image_of}
use Rattle.image.specs.Recover.{recover_of}
use Rattle.image.specs.Values.{value_in}
use Rattle.ledger.specs.Statement.{memory_at, ledger}
-- one call after the other, each with its allowance, on the bytes that the one before left
pub use Rattle.images.specs.Again.{calls}

module _ (n k w : ℕ) (es : List Event) where
  -- what the history leaves in persisted memory
  abbrev pub found : List ℕ
  found = image_of Persisted (memory_at n k w es (length es)) n k

  -- after these calls one more, with the allowance s: its answer, and the bytes that it leaves
  abbrev pub answer : List ℕ → ℕ → ℕ
  answer ss s = (recover_of n k (calls ss n k found) s).result.answer

  abbrev pub bytes : List ℕ → ℕ → List ℕ
  bytes ss s = (recover_of n k (calls ss n k found) s).bytes

  pub record Recovers : Type 0 where
    -- it is the image that a crash leaves in cached memory
    pub crash : image_of Cached (apply_of (memory_at n k w es (length es)) Crash).memory n k ≡ found
    -- complete (0) or not (256): never refused; and complete where the allowance is 160
    pub accepted : (ss : List ℕ) (s : ℕ) → (answer ss s ≡ 0) ⊎ (answer ss s ≡ 256)
    pub enough : (ss : List ℕ) (s : ℕ) → 160 ≤ s → answer ss s ≡ 0
    -- where it is complete: every word is plain with the ledger's value, every descriptor Free
    pub plain : (ss : List ℕ) (s a : ℕ) → answer ss s ≡ 0 → a < n → (dirty : Bool) × (word_of (bytes ss s) a ≡ Plain (ledger n k w es (length es) a) dirty)
    pub free : (ss : List ℕ) (s d : ℕ) → answer ss s ≡ 0 → d < k → status_in (part_of (bytes ss s) n d) ≡ Free
    -- and, complete or not, every word's value is the ledger's
    pub value : (ss : List ℕ) (s a : ℕ) → a < n → value_in n (bytes ss s) a ≡ ledger n k w es (length es) a

-- for every n, k and w in document 01's ranges, and every list of events
abbrev pub EveryHistoryRecovers : Type 0
EveryHistoryRecovers = (n k w : ℕ) → good_sizes n k w ≡ true → (es : List Event) → Recovers n k w es
