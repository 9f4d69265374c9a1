-- THE MACHINE'S RECOVERY AND THE IMAGE'S: from a memory whose recovery has just begun, s events 0C leave in cached memory what a call with the allowance s leaves of its image, with these answers; for every s,
-- also past the end, where the machine refuses 6 and the image's recovery is complete.
use Rattle.std.specs.Prelude.{◌≡◌, ℕ}
use Rattle.std.proofs.Common.{sym, ◌∙◌}
use Rattle.steps.specs.declared.RecoveryPlace.TheVariants.{At}
use Rattle.memory.specs.declared.Copy.TheVariants.{Cached}
use Rattle.memory.specs.Block.{Block}
use Rattle.machine.specs.Apply.{after_of}
use Rattle.image.specs.Check.{image_refusal}
use Rattle.image.specs.Recover.{recover_of}
use Rattle.image.specs.OfMemory.{image_of}
use Rattle.image.specs.Machine.{Begun, recovers, answers_from, image_follows, answers_follow}
use Rattle.image.specs.Cuts.{call_runs}

-- for every such memory whose image is accepted
abbrev pub EveryMemoryFollowed : Type 0
EveryMemoryFollowed = (n k : ℕ) (m : Block) → Begun k m → image_refusal n k (image_of Cached m n k) ≡ 0 → (s : ℕ)
    → (image_of Cached (after_of m (recovers s)).memory n k ≡ (recover_of n k (image_of Cached m n k) s).bytes)
    × ((after_of m (recovers s)).answers ≡ answers_from s n k (image_of Cached m n k) (At 0 0))

pub every_memory_followed : EveryMemoryFollowed
every_memory_followed n k m h e s = (image_follows n k m h e s ∙ sym (call_runs n k (image_of Cached m n k) s e), answers_follow n k m h e s)
