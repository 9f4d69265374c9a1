-- Check 24 by descriptors: the words that a live descriptor claims, those that point to it and stand in its entries. A pointer that no descriptor claims is bad.
use Rattle.std.specs.Prelude.{ℕ, ◌<◌, ◌≡◌, Bool, true, false, not, ◌&&◌, ◌||◌, List, length, get_or}
use Rattle.word.specs.declared.Sort.{Sort}
use Rattle.word.specs.declared.Sort.TheVariants.{Plain, Pointer, Neither}
use Rattle.steps.specs.Plan.{is_free, points_to}
use Rattle.image.specs.Layout.{word_of, part_of, status_in}
use Rattle.image.specs.Check.{some_below, bad_status, bad_body, has_within, has_address}

-- the word at a points to d, whose bytes are p, and stands in its first c entries
unfoldable pub claims_in : List ℕ → List ℕ → ℕ → ℕ → ℕ → Bool
claims_in x p d c a = points_to (word_of x a) d && has_within p c a

-- the same of descriptor d of an image: live, and all its entries
unfoldable pub claims : ℕ → List ℕ → ℕ → ℕ → Bool
claims n x d a = points_to (word_of x a) d && (not (is_free (status_in (part_of x n d))) && has_address (part_of x n d) a)

-- one of the first k descriptors does
abbrev pub claimed : ℕ → ℕ → List ℕ → ℕ → Bool
claimed n k x a = some_below k (λ d. claims n x d a)

-- a mark for each address: those of m₀ and what d claims; what all claim
pub record MarkedBy (m₀ m : List Bool) (x p : List ℕ) (d c : ℕ) : Type 0 where
  pub whole : length m ≡ 64
  pub marks : (a : ℕ) → a < 64 → get_or m a false ≡ (get_or m₀ a false || claims_in x p d c a)

pub record Marked (n k : ℕ) (x : List ℕ) (m : List Bool) : Type 0 where
  pub whole : length m ≡ 64
  pub marks : (a : ℕ) → a < 64 → get_or m a false ≡ claimed n k x a

-- 23 or 24, of a word that has this mark
abbrev pub bad_marked : Bool → Sort → Bool
bad_marked t (Plain v dirty) = false
bad_marked t (Pointer d dirty) = not t
bad_marked t (Neither w) = true

abbrev pub bad_marked_words : ℕ → List ℕ → List Bool → Bool
bad_marked_words n x m = some_below n (λ a. bad_marked (get_or m a false) (word_of x a))

-- 21 or 22
abbrev pub bad_descriptors : ℕ → ℕ → List ℕ → Bool
bad_descriptors n k x = some_below k (λ d. bad_status (part_of x n d) || bad_body n (part_of x n d))
