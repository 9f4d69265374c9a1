-- The crate `little`: what its promises rule out.
use Rattle.std.specs.Prelude.{refl, ◌≢◌, List, [], ◌∷◌, ℕ, ◌+◌, ◌^◌, ◌<◌, ◌≤◌, length}
use Rattle.std.proofs.lemmas.Bool.{lt-leb}
use Rattle.little.specs.Number.{number_at, with_number}
use Rattle.little.specs.Laws.{number_stored}
use Rattle.excludes.specs.Differ.{differ, seen}

pub read_u64_not_the_highest_byte_first : 2 ^ 56 ≢ number_at (1 ∷ 0 ∷ 0 ∷ 0 ∷ 0 ∷ 0 ∷ 0 ∷ 0 ∷ []) 0
unfolding number_at
read_u64_not_the_highest_byte_first = differ (λ x. x) refl

-- of a number that is not all there nothing is read
pub read_u64_not_past_the_end : (s : List ℕ) (at r : ℕ) → length s < at + 8 → r ≢ 0 → r ≢ number_at s at
unfolding number_at
read_u64_not_past_the_end s at r h n = rw (lt-leb _ _ h) n

pub write_u64_not_nothing : (s : List ℕ) (at v : ℕ) → at + 8 ≤ length s → v < 2 ^ 64 → number_at s at ≢ v → s ≢ with_number s at v
write_u64_not_nothing s at v h l n = seen (λ x. number_at x at) refl (number_stored s at v h l) n

-- where the eight bytes do not all fit, none is stored
pub write_u64_not_past_the_end : (s x : List ℕ) (at v : ℕ) → length s < at + 8 → x ≢ s → x ≢ with_number s at v
unfolding with_number
write_u64_not_past_the_end s x at v h n = rw (lt-leb _ _ h) n
