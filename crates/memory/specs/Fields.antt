-- Fields stand apart: reading what was stored gives it, and every other field is as it was. Stated once, over every field.
use Rattle.std.specs.Prelude.{◌≡◌, Bool, ℕ, ◌+◌, ◌-◌, ◌*◌, ◌/◌, ◌%◌, ◌<◌, ◌≤◌, get_or, set}
use Rattle.std.proofs.Math.Path.{refl}
use Rattle.std.proofs.Common.{sym, ap, ◌∙◌, get_or-set_same, get_or-set_other}
use Rattle.std.proofs.Math.Bool.{true, false, cond}
use native.Mathlib.Omega.{arith}
use Rattle.std.proofs.Math.Dec.{ltb}
use Rattle.std.proofs.Math.ListN.{length, length-set}
use Rattle.std.proofs.lemmas.List.{set-get_or}
use borrow.Author.Tests.{lt-ltb, le-ltb, ltb-true}
use Rattle.memory.specs.declared.Copy.{Copy}
use Rattle.memory.specs.declared.Copy.TheVariants.{Cached, Persisted}
use Rattle.memory.specs.Block.{Block, Field, nowhere, base_of, slot, at, store, get, put}
use Rattle.memory.specs.Block.Field.{word, status, body, worker, size, recovery}

-- a block is whole: it has all its numbers
abbrev pub Whole : Block → Type 0
Whole m = length m ≡ nowhere

-- a field is in range
abbrev pub Somewhere : Field → Type 0
Somewhere f = slot f < nowhere

-- the field that stands at a slot
abbrev in_copy : Copy → ℕ → Field
in_copy c i = cond (ltb i 64) (word c i) (cond (ltb i 80) (status c (i - 64)) (body c ((i - 80) / 13) ((i - 80) % 13)))

field_at : ℕ → Field
field_at i =
    cond (ltb i 288) (in_copy Cached i)
    (cond (ltb i 576) (in_copy Persisted (i - 288))
    (cond (ltb i 640) (worker ((i - 576) / 8) ((i - 576) % 8))
    (cond (ltb i 643) (size (i - 640)) (recovery (i - 643)))))

in-copy : (c : Copy) (i : ℕ) → i < 288 → field_at (base_of c + i) ≡ in_copy c i
unfolding field_at
in-copy Cached i h = let z : 0 + i ≡ i = omega arith in rw z (simp (lt-ltb _ _ h))
in-copy Persisted i h =
    let a : ltb (288 + i) 288 ≡ false = le-ltb (288 + i) 288 (omega arith) in
    let b : ltb (288 + i) 576 ≡ true = lt-ltb (288 + i) 576 (omega arith) in
    let z : 288 + i - 288 ≡ i = omega arith in
    simp (a, b, z)

in_range : (t : Bool) (x : ℕ) → cond t x nowhere < nowhere → t ≡ true
in_range true x h = refl
in_range false x h = let z : ⊥ = omega arith in search

module _ (c : Copy) where
  at_word : (a : ℕ) → a < 64 → slot (word c a) ≡ base_of c + a
  unfolding slot
  at_word a h = simp (lt-ltb _ _ h)

  at_status : (d : ℕ) → d < 16 → slot (status c d) ≡ base_of c + (64 + d)
  unfolding slot
  at_status d h = simp (lt-ltb _ _ h) (omega arith)

  at_body : (d j : ℕ) → d < 16 → j < 13 → slot (body c d j) ≡ base_of c + (80 + (13 * d + j))
  unfolding slot
  at_body d j h l = simp (lt-ltb _ _ h, lt-ltb _ _ l) (omega arith)

at_worker : (w j : ℕ) → w < 8 → j < 8 → slot (worker w j) ≡ 576 + (8 * w + j)
unfolding slot
at_worker w j h l = simp (lt-ltb _ _ h, lt-ltb _ _ l) (omega arith)

at_size : (j : ℕ) → j < 3 → slot (size j) ≡ 640 + j
unfolding slot
at_size j h = simp (lt-ltb _ _ h)

at_recovery : (j : ℕ) → j < 3 → slot (recovery j) ≡ 643 + j
unfolding slot
at_recovery j h = simp (lt-ltb _ _ h)

-- a field in range stands where `field_at` finds it
module _ (c : Copy) where
  field_word : (a : ℕ) → a < 64 → field_at (slot (word c a)) ≡ word c a
  field_word a h = rw (at_word c a h) (in-copy c a (omega arith) ∙ simp (lt-ltb _ _ h))

  field_status : (d : ℕ) → d < 16 → field_at (slot (status c d)) ≡ status c d
  field_status d h =
      let a : ltb (64 + d) 64 ≡ false = le-ltb (64 + d) 64 (omega arith) in
      let b : ltb (64 + d) 80 ≡ true = lt-ltb (64 + d) 80 (omega arith) in
      let z : 64 + d - 64 ≡ d = omega arith in
      rw (at_status c d h) (in-copy c (64 + d) (omega arith) ∙ simp (a, b, z))

  field_body : (d j : ℕ) → d < 16 → j < 13 → field_at (slot (body c d j)) ≡ body c d j
  field_body d j h l =
      let i = 80 + (13 * d + j) in
      let a : ltb i 64 ≡ false = le-ltb i 64 (omega arith) in
      let b : ltb i 80 ≡ false = le-ltb i 80 (omega arith) in
      let y : (i - 80) / 13 ≡ d = omega arith in
      let z : (i - 80) % 13 ≡ j = omega arith in
      rw (at_body c d j h l) (in-copy c i (omega arith) ∙ simp (a, b, y, z))

module _ where
  field_worker : (w j : ℕ) → w < 8 → j < 8 → field_at (slot (worker w j)) ≡ worker w j
  unfolding field_at
  field_worker w j h l =
      let i = 576 + (8 * w + j) in
      let a : ltb i 288 ≡ false = le-ltb i 288 (omega arith) in
      let b : ltb i 576 ≡ false = le-ltb i 576 (omega arith) in
      let c : ltb i 640 ≡ true = lt-ltb i 640 (omega arith) in
      let y : (i - 576) / 8 ≡ w = omega arith in
      let z : (i - 576) % 8 ≡ j = omega arith in
      rw (at_worker w j h l) (simp (a, b, c, y, z))

  field_size : (j : ℕ) → j < 3 → field_at (slot (size j)) ≡ size j
  unfolding field_at
  field_size j h =
      let i = 640 + j in
      let a : ltb i 288 ≡ false = le-ltb i 288 (omega arith) in
      let b : ltb i 576 ≡ false = le-ltb i 576 (omega arith) in
      let c : ltb i 640 ≡ false = le-ltb i 640 (omega arith) in
      let d : ltb i 643 ≡ true = lt-ltb i 643 (omega arith) in
      let z : i - 640 ≡ j = omega arith in
      rw (at_size j h) (simp (a, b, c, d, z))

  field_recovery : (j : ℕ) → j < 3 → field_at (slot (recovery j)) ≡ recovery j
  unfolding field_at
  field_recovery j h =
      let i = 643 + j in
      let a : ltb i 288 ≡ false = le-ltb i 288 (omega arith) in
      let b : ltb i 576 ≡ false = le-ltb i 576 (omega arith) in
      let c : ltb i 640 ≡ false = le-ltb i 640 (omega arith) in
      let d : ltb i 643 ≡ false = le-ltb i 643 (omega arith) in
      let z : i - 643 ≡ j = omega arith in
      rw (at_recovery j h) (simp (a, b, c, d, z))

two_ranges : (s t : Bool) (x : ℕ) → cond s (cond t x nowhere) nowhere < nowhere → (s ≡ true) × (t ≡ true)
two_ranges s t x h = go s (in_range s _ h) h
  where
    go : (s : Bool) → s ≡ true → cond s (cond t x nowhere) nowhere < nowhere → (s ≡ true) × (t ≡ true)
    go true e l = (refl, in_range t x l)
    go false e l = let z : ⊥ = omega arith in search

field-at : (f : Field) → Somewhere f → field_at (slot f) ≡ f
unfolding slot
field-at (word c a) h = field_word c a (ltb-true _ _ (in_range _ _ h))
field-at (status c d) h = field_status c d (ltb-true _ _ (in_range _ _ h))
field-at (body c d j) h = let p = two_ranges (ltb d 16) (ltb j 13) _ h in field_body c d j (ltb-true _ _ p.0) (ltb-true _ _ p.1)
field-at (worker w j) h = let p = two_ranges (ltb w 8) (ltb j 8) _ h in field_worker w j (ltb-true _ _ p.0) (ltb-true _ _ p.1)
field-at (size j) h = field_size j (ltb-true _ _ (in_range _ _ h))
field-at (recovery j) h = field_recovery j (ltb-true _ _ (in_range _ _ h))

-- no two fields in range share a slot
pub apart : (f g : Field) → Somewhere f → slot f ≡ slot g → f ≡ g
apart f g h e = sym (field-at f h) ∙ ap field_at e ∙ field-at g (rw (← e) h)

-- fields in range
module _ (c : Copy) where
  pub word_somewhere : (a : ℕ) → a < 64 → Somewhere (word c a)
  word_somewhere a h = rw (at_word c a h) (go c)
    where
      go : (c : Copy) → base_of c + a < nowhere
      go Cached = omega arith
      go Persisted = omega arith

  pub status_somewhere : (d : ℕ) → d < 16 → Somewhere (status c d)
  status_somewhere d h = rw (at_status c d h) (go c)
    where
      go : (c : Copy) → base_of c + (64 + d) < nowhere
      go Cached = omega arith
      go Persisted = omega arith

  pub body_somewhere : (d j : ℕ) → d < 16 → j < 13 → Somewhere (body c d j)
  body_somewhere d j h l = rw (at_body c d j h l) (go c)
    where
      go : (c : Copy) → base_of c + (80 + (13 * d + j)) < nowhere
      go Cached = omega arith
      go Persisted = omega arith

pub worker_somewhere : (w j : ℕ) → w < 8 → j < 8 → Somewhere (worker w j)
worker_somewhere w j h l = rw (at_worker w j h l) (omega arith)

-- storing, and reading
module _ (m : Block) (f : Field) (v : ℕ) where
  pub length_put : length (put m f v) ≡ length m
  unfolding store
  length_put = go (ltb (slot f) nowhere)
    where
      go : (t : Bool) → length (cond t (set m (slot f) v) m) ≡ length m
      go true = length-set m (slot f) v
      go false = refl

  pub whole_put : Whole m → Whole (put m f v)
  whole_put h = length_put ∙ h

  -- what was stored is read
  pub get_put : Whole m → Somewhere f → get (put m f v) f ≡ v
  unfolding at store
  get_put h l = simp (lt-ltb _ _ l) (get_or-set_same m (slot f) v 0 (omega arith))

  -- every other field is as it was
  pub get_other : (g : Field) → (f ≡ g → ⊥) → get (put m f v) g ≡ get m g
  unfolding at store
  get_other g n = go (ltb (slot f) nowhere) refl
    where
      go : (t : Bool) → ltb (slot f) nowhere ≡ t
          → cond (ltb (slot g) nowhere) (get_or (cond t (set m (slot f) v) m) (slot g) 0) 0 ≡ cond (ltb (slot g) nowhere) (get_or m (slot g) 0) 0
      go true e =
          let l : slot g ≡ slot f → ⊥ = λ s. n (apart f g (ltb-true _ _ e) (sym s)) in
          rw (get_or-set_other m (slot f) (slot g) v 0 l)
      go false e = refl

-- putting back what is there changes nothing
pub put_same : (m : Block) (f : Field) → put m f (get m f) ≡ m
unfolding at store
put_same m f = go (ltb (slot f) nowhere)
  where
    go : (t : Bool) → cond t (set m (slot f) (cond t (get_or m (slot f) 0) 0)) m ≡ m
    go true = set-get_or m (slot f) 0
    go false = refl

-- out of range there is nothing: 0 is read, and a store changes nothing
module _ (m : Block) (f : Field) (h : nowhere ≤ slot f) where
  pub get_nowhere : get m f ≡ 0
  unfolding at
  get_nowhere = simp (le-ltb _ _ h)

  pub put_nowhere : (v : ℕ) → put m f v ≡ m
  unfolding store
  put_nowhere v = simp (le-ltb _ _ h)

pub recovery_somewhere : (j : ℕ) → j < 3 → Somewhere (recovery j)
recovery_somewhere j h = rw (at_recovery j h) (omega arith)

pub size_somewhere : (j : ℕ) → j < 3 → Somewhere (size j)
size_somewhere j h = rw (at_size j h) (omega arith)
