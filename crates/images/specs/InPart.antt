-- IN WHICH ORDER A RECOVERED IMAGE MAY REACH PERSISTENT MEMORY: recover a copy; write its words back, in any order; and a descriptor only when every word that pointed to it is written back.
-- Whatever part of this has been done when the power fails, what is then there is a mixture of the old image and the recovered one: it is accepted, has the same values, and a complete
-- recovery of it leaves the same bytes. (Mixing.antt proves it; Order.antt has a mixture that is neither, and what the other order would leave.)
use Rattle.std.specs.Prelude.{◌≡◌, true, List, ◌⊎◌, ℕ, ◌+◌, ◌<◌, length, get_or}
use Rattle.steps.specs.Plan.{points_to}
use Rattle.image.specs.Layout.{word_place, word_of, part_of}
use Rattle.image.specs.Check.{image_refusal}
use Rattle.image.specs.Recover.{recover_of}
use Rattle.image.specs.Values.{value_in}

-- y has the eight bytes of x at a
abbrev pub SameWord : List ℕ → List ℕ → ℕ → Type 0
SameWord x y a = (j : ℕ) → j < 8 → get_or y (word_place a + j) 0 ≡ get_or x (word_place a + j) 0

-- descriptor d of y: as in x; or as in r, and then the words that pointed to it in x are as in r
abbrev pub OldOrFreed : ℕ → List ℕ → List ℕ → List ℕ → ℕ → Type 0
OldOrFreed n x r y d = (part_of y n d ≡ part_of x n d) ⊎ ((part_of y n d ≡ part_of r n d) × ((a : ℕ) → a < n → points_to (word_of x a) d ≡ true → SameWord r y a))

-- y is a mixture of the old image x and the recovered one r
pub record Mixture (n k : ℕ) (x r y : List ℕ) : Type 0 where
  pub size : length y ≡ length x
  pub words : (a : ℕ) → a < n → SameWord x y a ⊎ SameWord r y a
  pub parts : (d : ℕ) → d < k → OldOrFreed n x r y d

-- what may be there after calls one after the other: each cut anywhere, or complete and then written back in part
pub data MayBeLeft (n k : ℕ) : List ℕ → List ℕ → Type 0 where
  none : {x : List ℕ} → MayBeLeft n k x x
  cut : {x z : List ℕ} (s : ℕ) → MayBeLeft n k (recover_of n k x s).bytes z → MayBeLeft n k x z
  mixed : {x z : List ℕ} (t : ℕ) (y : List ℕ) → (recover_of n k x t).result.answer ≡ 0 → Mixture n k x (recover_of n k x t).bytes y → MayBeLeft n k y z → MayBeLeft n k x z

-- it is accepted, with the same values, and a complete call on it leaves the bytes of one on the first image
pub record StillRecovers (n k : ℕ) (x y : List ℕ) : Type 0 where
  pub accepted : image_refusal n k y ≡ 0
  pub values : (a : ℕ) → a < n → value_in n y a ≡ value_in n x a
  pub same : (s t : ℕ) → (recover_of n k y s).result.answer ≡ 0 → (recover_of n k x t).result.answer ≡ 0 → (recover_of n k y s).bytes ≡ (recover_of n k x t).bytes

abbrev pub EveryMixtureRecovers : Type 0
EveryMixtureRecovers = (n k : ℕ) (x y : List ℕ) → image_refusal n k x ≡ 0 → MayBeLeft n k x y → StillRecovers n k x y

-- and what a cut call leaves is such a mixture itself (CutMixed.antt)
abbrev pub EveryCutMixes : Type 0
EveryCutMixes = (n k : ℕ) (x : List ℕ) (s t : ℕ) → image_refusal n k x ≡ 0 → (recover_of n k x t).result.answer ≡ 0 → Mixture n k x (recover_of n k x t).bytes (recover_of n k x s).bytes
