-- The sizes, and a fresh memory: all words 0, all descriptors Free with bodies of zeros, workers idle; no recovery.
use Rattle.std.specs.Prelude.{ℕ, Bool, true, false, cond, ◌&&◌, ltb, leb, replicate}
use Rattle.memory.specs.declared.Sizes.{Sizes}
use Rattle.memory.specs.Block.{Block, nowhere, get, put}
use Rattle.memory.specs.Block.Field.{size}

abbrev pub sizes_in : Block → Sizes
sizes_in m = record { n = get m (size 0); k = get m (size 1); w = get m (size 2) }

-- from 1 to the most
abbrev pub within : ℕ → ℕ → Bool
within x most = ltb 0 x && leb x most

-- n is 1 to 64, k is 1 to 16, w is 1 to 8
abbrev pub good_sizes : ℕ → ℕ → ℕ → Bool
good_sizes n k w = within n 64 && (within k 16 && within w 8)

abbrev pub zeros : Block
zeros = replicate nowhere 0

abbrev pub fresh_block : ℕ → ℕ → ℕ → Block
fresh_block n k w = put (put (put zeros (size 0) n) (size 1) k) (size 2) w

pub record Begun : Type 0 where
  pub memory : Block
  pub accepted : Bool

abbrev pub begun : Block → Bool → Begun
begun m r = record { memory = m; accepted = r }

-- sizes out of range change nothing, and the answer says so
unfoldable pub fresh_of : Block → ℕ → ℕ → ℕ → Begun
fresh_of m n k w = cond (good_sizes n k w) (begun (fresh_block n k w) true) (begun m false)
