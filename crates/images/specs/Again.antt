-- RUN AGAIN AFTER A CUT ("Run again after a cut, it gives the same values"), stated of the routine that C calls: on an accepted image any number of calls with any allowances,
-- each on the bytes that the one before left. AgainHolds.antt proves it for every accepted image.
use Rattle.std.specs.Prelude.{◌≡◌, ◌⊎◌, Bool, List, [], ◌∷◌, ℕ, ◌≤◌, ◌<◌}
use Rattle.word.specs.declared.Sort.TheVariants.{Plain}
use Rattle.word.specs.declared.Status.TheVariants.{Free}
use Rattle.image.specs.Layout.{word_of, part_of, status_in}
use Rattle.image.specs.Check.{image_refusal}
use Rattle.image.specs.Recover.{recover_of}
use Rattle.image.specs.Values.{value_in}

-- one call after the other, each with its allowance
abbrev pub calls : List ℕ → ℕ → ℕ → List ℕ → List ℕ
calls [] n k x = x
calls (s ∷ ss) n k x = calls ss n k (recover_of n k x s).bytes

module _ (n k : ℕ) (x : List ℕ) where
  -- after these calls one more, with the allowance s: its answer, and the bytes that it leaves
  abbrev pub answer : List ℕ → ℕ → ℕ
  answer ss s = (recover_of n k (calls ss n k x) s).result.answer

  abbrev pub bytes : List ℕ → ℕ → List ℕ
  bytes ss s = (recover_of n k (calls ss n k x) s).bytes

  pub record Again : Type 0 where
    -- complete (0) or not (256), never refused; and complete where the allowance is 160
    pub accepted : (ss : List ℕ) (s : ℕ) → (answer ss s ≡ 0) ⊎ (answer ss s ≡ 256)
    pub enough : (ss : List ℕ) (s : ℕ) → 160 ≤ s → answer ss s ≡ 0
    -- the same values
    pub values : (ss : List ℕ) (s a : ℕ) → a < n → value_in n (bytes ss s) a ≡ value_in n x a
    -- where it is complete: every word is plain with that value, every descriptor Free; and the bytes are those of one complete call on the first image
    pub plain : (ss : List ℕ) (s a : ℕ) → answer ss s ≡ 0 → a < n → (dirty : Bool) × (word_of (bytes ss s) a ≡ Plain (value_in n x a) dirty)
    pub free : (ss : List ℕ) (s d : ℕ) → answer ss s ≡ 0 → d < k → status_in (part_of (bytes ss s) n d) ≡ Free
    pub same : (ss : List ℕ) (s t : ℕ) → answer ss s ≡ 0 → (recover_of n k x t).result.answer ≡ 0 → bytes ss s ≡ (recover_of n k x t).bytes

abbrev pub EveryImageAgain : Type 0
EveryImageAgain = (n k : ℕ) (x : List ℕ) → image_refusal n k x ≡ 0 → Again n k x
