-- The image of a memory's copy, and what is read and stored there: each word, status, count and entry.
use Rattle.std.specs.Prelude.{◌≡◌, refl, Bool, cond, List, ℕ, zero, suc, ◌+◌, ◌-◌, ◌*◌, ◌/◌, ◌%◌, ◌<◌, ◌≤◌, ◌^◌, ltb, length}
use Rattle.std.proofs.Math.Path.{ap}
use Rattle.std.proofs.Common.{◌∙◌, lt-ltb, le-ltb, ltb-false}
use Rattle.std.proofs.Math.Bool.{true, false}
use native.Mathlib.Omega.{arith}
use Rattle.word.specs.declared.Sort.{Sort}
use Rattle.word.specs.declared.Status.{Status}
use Rattle.word.specs.Word.{sort_of, word_number}
use Rattle.word.specs.Status.{status_of, status_number}
use Rattle.little.specs.Number.{number_at, with_number}
use Rattle.memory.specs.declared.Copy.{Copy}
use Rattle.memory.specs.declared.Copy.TheVariants.{Cached}
use Rattle.memory.specs.Fields.{Whole, get_put, get_other, word_somewhere, status_somewhere}
use Rattle.memory.specs.Block.{Block, Field, get}
use Rattle.memory.specs.Block.Field.{word, status, body}
use Rattle.memory.specs.Content as M
use Rattle.image.specs.Layout.{word_of, with_word, descriptor_place, part_of, status_in, count_in, entry_in, with_status}
use Rattle.image.specs.LayoutLaws.{part_number}
use Rattle.image.specs.Flat.{flat, flat_length, flat_number, flat_stored, flat_same}

-- the numbers of a descriptor: its status, then its body's thirteen
abbrev pub in_descriptor : Copy → ℕ → ℕ → Field
in_descriptor c d zero = status c d
in_descriptor c d (suc j) = body c d j

-- the numbers of an image in order: n words, then fourteen numbers for each descriptor
unfoldable pub field_at : Copy → ℕ → ℕ → Field
field_at c n j = cond (ltb j n) (word c j) (in_descriptor c ((j - n) / 14) ((j - n) % 14))

unfoldable pub image_of : Copy → Block → ℕ → ℕ → List ℕ
image_of c m n k = flat (λ j. get m (field_at c n j)) (n + 14 * k)

-- which field stands where: none but the copy's own, each once
module _ (c : Copy) (P : Field → Type 0) where
  in_is : (d j : ℕ) → P (status c d) → ((i : ℕ) → P (body c d i)) → P (in_descriptor c d j)
  in_is d zero p q = p
  in_is d (suc j) p q = q j

  pub field_is : (n j : ℕ) → ((a : ℕ) → P (word c a)) → ((d : ℕ) → P (status c d)) → ((d i : ℕ) → P (body c d i)) → P (field_at c n j)
  unfolding field_at
  field_is n j w s b = go (ltb j n)
    where
      go : (t : Bool) → P (cond t (word c j) (in_descriptor c ((j - n) / 14) ((j - n) % 14)))
      go true = w j
      go false = in_is ((j - n) / 14) ((j - n) % 14) (s ((j - n) / 14)) (b ((j - n) / 14))

-- a copy's numbers are of 64 bits
pub record Fits (c : Copy) (m : Block) : Type 0 where
  pub words : (a : ℕ) → get m (word c a) < 2 ^ 64
  pub statuses : (d : ℕ) → get m (status c d) < 2 ^ 64
  pub bodies : (d j : ℕ) → get m (body c d j) < 2 ^ 64

field_fits : (c : Copy) (m : Block) → Fits c m → (n j : ℕ) → get m (field_at c n j) < 2 ^ 64
field_fits c m h n j = field_is c (λ f. get m f < 2 ^ 64) n j h.words h.statuses h.bodies

word_field : (c : Copy) (n a : ℕ) → a < n → field_at c n a ≡ word c a
unfolding field_at
word_field c n a h = rw (lt-ltb a n h)

descriptor_field : (c : Copy) (n d j : ℕ) → j < 14 → field_at c n (n + 14 * d + j) ≡ in_descriptor c d j
unfolding field_at
descriptor_field c n d j h =
    let a : n ≤ n + 14 * d + j = omega arith in
    let b : (n + 14 * d + j - n) / 14 ≡ d = omega arith in
    let e : (n + 14 * d + j - n) % 14 ≡ j = omega arith in
    rw (le-ltb (n + 14 * d + j) n a, b, e)

module _ (c : Copy) (m : Block) (n k : ℕ) where
  pub image_length : length (image_of c m n k) ≡ 8 * n + 112 * k
  unfolding image_of
  image_length = flat_length (λ j. get m (field_at c n j)) (n + 14 * k) ∙ omega arith

  module _ (fits : Fits c m) where
    pub word_read : (a : ℕ) → a < n → word_of (image_of c m n k) a ≡ M.word_in c m a
    unfolding image_of
    word_read a h =
        ap sort_of
        (flat_number (λ j. get m (field_at c n j)) (n + 14 * k) a (omega arith) (field_fits c m fits n a) ∙ ap (λ (f : Field). get m f) (word_field c n a h))

    at_number : (d j : ℕ) → d < k → j < 14 → number_at (image_of c m n k) (8 * (n + 14 * d + j)) ≡ get m (in_descriptor c d j)
    unfolding image_of
    at_number d j h l =
        flat_number (λ i. get m (field_at c n i)) (n + 14 * k) (n + 14 * d + j) (omega arith) (field_fits c m fits n (n + 14 * d + j))
        ∙ ap (λ (f : Field). get m f) (descriptor_field c n d j l)

    number_read : (d j : ℕ) → d < k → j < 14 → number_at (part_of (image_of c m n k) n d) (8 * j) ≡ get m (in_descriptor c d j)
    number_read d j h l =
        let e = image_length in
        let z : descriptor_place n d + 8 * j ≡ 8 * (n + 14 * d + j) = omega arith in
        part_number (image_of c m n k) (descriptor_place n d) (8 * j) (omega arith) (omega arith) ∙ ap (λ (p : ℕ). number_at (image_of c m n k) p) z ∙ at_number d j h l

    pub status_read : (d : ℕ) → d < k → status_in (part_of (image_of c m n k) n d) ≡ M.status_in c m d
    status_read d h = ap status_of (number_read d 0 h (omega arith))

    pub count_read : (d : ℕ) → d < k → count_in (part_of (image_of c m n k) n d) ≡ M.count_in c m d
    count_read d h = number_read d 1 h (omega arith)

    body_read : (d j q : ℕ) → d < k → j < 13 → q ≡ 8 * suc j → number_at (part_of (image_of c m n k) n d) q ≡ get m (body c d j)
    body_read d j q h l e = rw e (number_read d (suc j) h (omega arith))

    pub entry_read : (d i : ℕ) → d < k → i < 4 → entry_in (part_of (image_of c m n k) n d) i ≡ M.entry_in c m d i
    unfolding M.entry_in
    entry_read d i h l =
        rw (
          body_read d (1 + 3 * i) (16 + 24 * i) h (omega arith) (omega arith),
          body_read d (2 + 3 * i) (24 + 24 * i) h (omega arith) (omega arith),
          body_read d (3 + 3 * i) (32 + 24 * i) h (omega arith) (omega arith),
        )

-- two memories whose copies have the same numbers have the same image
pub same_image : (c : Copy) (m x : Block) (n k : ℕ) → ((j : ℕ) → get x (field_at c n j) ≡ get m (field_at c n j)) → image_of c x n k ≡ image_of c m n k
unfolding image_of
same_image c m x n k h = flat_same (λ j. get x (field_at c n j)) (λ j. get m (field_at c n j)) (n + 14 * k) (λ j l. h j)

word_at : (c : Copy) (n i a : ℕ) → word c a ≡ field_at c n i → a ≡ i
unfolding field_at
word_at c n i a e = go (ltb i n) e
  where
    none : (d j : ℕ) → word c a ≡ in_descriptor c d j → a ≡ i
    none d zero f = let z : ◌≡◌ {A = ℕ} 0 1 = cc in absurd (omega arith)
    none d (suc j) f = let z : ◌≡◌ {A = ℕ} 0 1 = cc in absurd (omega arith)

    go : (t : Bool) → word c a ≡ cond t (word c i) (in_descriptor c ((i - n) / 14) ((i - n) % 14)) → a ≡ i
    go true f = cc
    go false f = none ((i - n) / 14) ((i - n) % 14) f

status_at : (c : Copy) (n i d : ℕ) → status c d ≡ field_at c n i → n + 14 * d ≡ i
unfolding field_at
status_at c n i d e = go (ltb i n) refl e
  where
    at : (q r : ℕ) → status c d ≡ in_descriptor c q r → (q ≡ d) × (r ≡ 0)
    at q zero f = (cc, refl)
    at q (suc r) f = let z : ◌≡◌ {A = ℕ} 0 1 = cc in absurd (omega arith)

    go : (t : Bool) → ltb i n ≡ t → status c d ≡ cond t (word c i) (in_descriptor c ((i - n) / 14) ((i - n) % 14)) → n + 14 * d ≡ i
    go true l f = let z : ◌≡◌ {A = ℕ} 0 1 = cc in absurd (omega arith)
    go false l f =
        let h = ltb-false i n l in
        let g = at ((i - n) / 14) ((i - n) % 14) f in
        let a = g.0 in
        let b = g.1 in
        omega arith

-- a store to the copy is a store to its image
module _ (m : Block) (n k : ℕ) (w : Whole m) where
  pub word_store : (a : ℕ) (s : Sort) → a < n → n ≤ 64 → with_word (image_of Cached m n k) a s ≡ image_of Cached (M.put_word m a s) n k
  unfolding image_of
  word_store a s h l =
      flat_stored (λ j. get m (field_at Cached n j)) (λ j. get (M.put_word m a s) (field_at Cached n j)) (n + 14 * k) a (word_number s) (omega arith)
      (ap (λ (f : Field). get (M.put_word m a s) f) (word_field Cached n a h) ∙ get_put m (word Cached a) (word_number s) w (word_somewhere Cached a (omega arith)))
      (λ i p q. get_other m (word Cached a) (word_number s) (field_at Cached n i) (λ e. q (word_at Cached n i a e)))

  pub status_store : (d : ℕ) (s : Status) → d < k → k ≤ 16 → with_status (image_of Cached m n k) n d s ≡ image_of Cached (M.put_status m d s) n k
  unfolding image_of
  status_store d s h l =
      let z : descriptor_place n d ≡ 8 * (n + 14 * d) = omega arith in
      let y : n + 14 * d + 0 ≡ n + 14 * d = omega arith in
      let t : field_at Cached n (n + 14 * d) ≡ status Cached d = rw y at (descriptor_field Cached n d 0 (omega arith)) in
      ap (λ (p : ℕ). with_number (flat (λ j. get m (field_at Cached n j)) (n + 14 * k)) p (status_number s)) z
      ∙ flat_stored (λ j. get m (field_at Cached n j)) (λ j. get (M.put_status m d s) (field_at Cached n j)) (n + 14 * k) (n + 14 * d) (status_number s) (omega arith)
      (ap (λ (f : Field). get (M.put_status m d s) f) t ∙ get_put m (status Cached d) (status_number s) w (status_somewhere Cached d (omega arith)))
      (λ i p q. get_other m (status Cached d) (status_number s) (field_at Cached n i) (λ e. q (status_at Cached n i d e)))
