-- Copying numbers of the block: a body's write-back, and a crash's copying.
use Rattle.std.specs.Prelude.{◌≡◌, Bool, cond, get_or, set}
use Rattle.std.proofs.Math.Path.{refl}
use Rattle.std.proofs.Common.{sym, ap, ◌∙◌, get_or-set_same, get_or-set_other}
use Rattle.std.proofs.Math.Bool.{true, false}
use Prim.Native.Nat.{ℕ, zero, suc, ◌+◌, ◌*◌, ◌<◌, ◌≤◌}
use native.Mathlib.Omega.{arith}
use Rattle.std.proofs.Math.Dec.{ltb, eqb}
use Rattle.std.proofs.Math.ListN.{length, length-set}
use borrow.Author.Tests.{lt-ltb, le-ltb, ltb-true, ltb-false, eqb-true, eqb-false}
use Rattle.memory.specs.declared.Copy.{Copy}
use Rattle.memory.specs.declared.Copy.TheVariants.{Cached, Persisted}
use Rattle.memory.specs.Block.{Block, Field, nowhere, base_of, slot, at, store, get}
use Rattle.memory.specs.Block.Field.{word, status, body, worker, size, recovery}
use Rattle.memory.specs.Content.{copied, back_body, crash_copied}
use Rattle.memory.specs.Fields.{Whole, apart, body_somewhere}

-- one slot
module _ (m : Block) (i v : ℕ) where
  length_store : length (store m i v) ≡ length m
  unfolding store
  length_store = go (ltb i nowhere)
    where
      go : (t : Bool) → length (cond t (set m i v) m) ≡ length m
      go true = length-set m i v
      go false = refl

  at_stored : Whole m → i < nowhere → at (store m i v) i ≡ v
  unfolding at store
  at_stored h l = simp (lt-ltb _ _ l) (get_or-set_same m i v 0 (omega arith))

  at_other : (j : ℕ) → (i ≡ j → ⊥) → at (store m i v) j ≡ at m j
  unfolding at store
  at_other j n = go (ltb i nowhere)
    where
      l : j ≡ i → ⊥
      l e = n (sym e)

      go : (t : Bool) → cond (ltb j nowhere) (get_or (cond t (set m i v) m) j 0) 0 ≡ cond (ltb j nowhere) (get_or m j 0) 0
      go true = rw (get_or-set_other m i j v 0 l)
      go false = refl

  store_past : nowhere ≤ i → store m i v ≡ m
  unfolding store
  store_past h = simp (le-ltb _ _ h)

-- n slots
module _ (m : Block) (f t : ℕ) where
  pub copied_whole : (n : ℕ) → Whole m → Whole (copied m f t n)
  unfolding copied
  copied_whole zero h = h
  copied_whole (suc n) h = length_store _ (t + n) _ ∙ copied_whole n h

  -- a slot that none of them goes to
  pub copied_other : (n j : ℕ) → ((i : ℕ) → i < n → t + i ≡ j → ⊥) → at (copied m f t n) j ≡ at m j
  unfolding copied
  copied_other zero j k = refl
  copied_other (suc n) j k = at_other _ (t + n) _ j (k n (omega arith)) ∙ copied_other n j (λ i l. k i (omega arith))

  -- past the end there is none
  copied_past : (n : ℕ) → nowhere ≤ t → copied m f t n ≡ m
  unfolding copied
  copied_past zero h = refl
  copied_past (suc n) h = store_past _ (t + n) _ (omega arith) ∙ copied_past n h

  -- a slot that the i-th goes to, where the two ranges are apart
  pub copied_to : (n i : ℕ) → Whole m → t + n ≤ nowhere → ((a b : ℕ) → a < n → b < n → t + a ≡ f + b → ⊥) → i < n
      → at (copied m f t n) (t + i) ≡ at m (f + i)
  unfolding copied
  copied_to zero i h k d l = omega arith
  copied_to (suc n) i h k d l = go (eqb n i) refl (λ q. copied_to n i h (omega arith) (λ a b p r. d a b (omega arith) (omega arith)) q)
    where
      go : (s : Bool) → eqb n i ≡ s → (i < n → at (copied m f t n) (t + i) ≡ at m (f + i))
          → at (store (copied m f t n) (t + n) (at (copied m f t n) (f + n))) (t + i) ≡ at m (f + i)
      go true e r =
          let z : n ≡ i = eqb-true _ _ e in
          rw (← z) (at_stored _ (t + n) _ (copied_whole n h) (omega arith) ∙ copied_other n (f + n) (λ j q. d j n (omega arith) (omega arith)))
      go false e r = let z : n ≡ i → ⊥ = eqb-false _ _ e in at_other _ (t + n) _ (t + i) (λ q. z (omega arith)) ∙ r (omega arith)

-- the numbers of a body stand in a row
module _ (c : Copy) (d j : ℕ) (h : d < 16) (l : j < 13) where
  body_row : slot (body c d 0) + j ≡ slot (body c d j)
  unfolding slot
  body_row = simp (lt-ltb _ _ h, lt-ltb _ _ l) (omega arith)

-- a body's write-back
module _ (m : Block) (d : ℕ) where
  pub body_back_whole : Whole m → Whole (back_body m d)
  body_back_whole h = copied_whole m _ _ 13 h

  body_nowhere : (c : Copy) → 16 ≤ d → slot (body c d 0) ≡ nowhere
  unfolding slot
  body_nowhere c h = simp (le-ltb _ _ h)

  at_body_0 : (c : Copy) → d < 16 → slot (body c d 0) ≡ base_of c + 80 + 13 * d
  unfolding slot
  at_body_0 c h = simp (lt-ltb _ _ h) (omega arith)

  pub body_back_other : (o : Field) → ((j : ℕ) → body Persisted d j ≡ o → ⊥) → get (back_body m d) o ≡ get m o
  body_back_other o n = go (ltb d 16) refl
    where
      go : (s : Bool) → ltb d 16 ≡ s → get (back_body m d) o ≡ get m o
      go true e =
          let l : d < 16 = ltb-true _ _ e in
          copied_other m _ _ 13 (slot o)
          (λ i k q. n i (apart (body Persisted d i) o (body_somewhere Persisted d i l k) (sym (body_row Persisted d i l k) ∙ q)))
      go false e =
          let l : 16 ≤ d = ltb-false _ _ e in
          let z : nowhere ≤ slot (body Persisted d 0) = rw (body_nowhere Persisted l) (omega arith) in
          ap (λ (x : Block). get x o) (copied_past m _ _ 13 z)

  pub body_backed : (j : ℕ) → Whole m → d < 16 → j < 13 → get (back_body m d) (body Persisted d j) ≡ get m (body Cached d j)
  body_backed j h l k =
      let f = slot (body Cached d 0) in
      let t = slot (body Persisted d 0) in
      let e : f ≡ 80 + 13 * d = at_body_0 Cached l in
      let g : t ≡ 368 + 13 * d = at_body_0 Persisted l in
      rw (← body_row Persisted d j l k, ← body_row Cached d j l k) (copied_to m f t 13 j h (omega arith) (λ a b p q r. omega arith) k)

-- a crash's copying
module _ (m : Block) where
  pub crash_whole : Whole m → Whole (crash_copied m)
  crash_whole h = copied_whole m 288 0 288 h

  -- what is no cached field is as it was
  pub crash_other : (o : Field) → 288 ≤ slot o → get (crash_copied m) o ≡ get m o
  crash_other o h = copied_other m 288 0 288 (slot o) (λ i k q. omega arith)

  -- a cached field becomes the persisted one
  shadow : (x y : Field) → Whole m → slot x < 288 → slot y ≡ 288 + slot x → get (crash_copied m) x ≡ get m y
  shadow x y h l e =
      let z : 0 + slot x ≡ slot x = omega arith in
      rw e (rw z at (copied_to m 288 0 288 (slot x) h (omega arith) (λ a b p q r. omega arith) l))

  both_nowhere : (x y : Field) → slot x ≡ nowhere → slot y ≡ nowhere → get (crash_copied m) x ≡ get m y
  both_nowhere x y e f = crash_other x (omega arith) ∙ rw (e, f)

  module _ (h : Whole m) where
    pub crash_word : (a : ℕ) → get (crash_copied m) (word Cached a) ≡ get m (word Persisted a)
    unfolding slot
    crash_word a = go (ltb a 64) refl
      where
        go : (s : Bool) → ltb a 64 ≡ s → get (crash_copied m) (word Cached a) ≡ get m (word Persisted a)
        go true e =
            let l : a < 64 = ltb-true _ _ e in
            let f : slot (word Cached a) ≡ a = simp e (omega arith) in
            let g : slot (word Persisted a) ≡ 288 + a = simp e in
            shadow (word Cached a) (word Persisted a) h (omega arith) (omega arith)
        go false e = both_nowhere (word Cached a) (word Persisted a) (simp e) (simp e)

    pub crash_status : (d : ℕ) → get (crash_copied m) (status Cached d) ≡ get m (status Persisted d)
    unfolding slot
    crash_status d = go (ltb d 16) refl
      where
        go : (s : Bool) → ltb d 16 ≡ s → get (crash_copied m) (status Cached d) ≡ get m (status Persisted d)
        go true e =
            let l : d < 16 = ltb-true _ _ e in
            let f : slot (status Cached d) ≡ 64 + d = simp e (omega arith) in
            let g : slot (status Persisted d) ≡ 352 + d = simp e (omega arith) in
            shadow (status Cached d) (status Persisted d) h (omega arith) (omega arith)
        go false e = both_nowhere (status Cached d) (status Persisted d) (simp e) (simp e)

    pub crash_body : (d j : ℕ) → get (crash_copied m) (body Cached d j) ≡ get m (body Persisted d j)
    unfolding slot
    crash_body d j = go (ltb d 16) (ltb j 13) refl refl
      where
        go : (s t : Bool) → ltb d 16 ≡ s → ltb j 13 ≡ t → get (crash_copied m) (body Cached d j) ≡ get m (body Persisted d j)
        go true true e k =
            let l : d < 16 = ltb-true _ _ e in
            let o : j < 13 = ltb-true _ _ k in
            let f : slot (body Cached d j) ≡ 80 + 13 * d + j = simp (e, k) (omega arith) in
            let g : slot (body Persisted d j) ≡ 368 + 13 * d + j = simp (e, k) (omega arith) in
            shadow (body Cached d j) (body Persisted d j) h (omega arith) (omega arith)
        go true false e k = both_nowhere (body Cached d j) (body Persisted d j) (simp (e, k)) (simp (e, k))
        go false t e k = both_nowhere (body Cached d j) (body Persisted d j) (simp e) (simp e)

-- what is no cached field is as it was, by its name
module _ (m : Block) where
  past_copies : (t : Bool) (i : ℕ) → 288 ≤ i → 288 ≤ cond t i nowhere
  past_copies true i h = h
  past_copies false i h = omega arith

  past_two : (s t : Bool) (i : ℕ) → 288 ≤ i → 288 ≤ cond s (cond t i nowhere) nowhere
  past_two true t i h = past_copies t i h
  past_two false t i h = omega arith

  pub crash_copy_other : (f : Field) → ((a : ℕ) → word Cached a ≡ f → ⊥) → ((d : ℕ) → status Cached d ≡ f → ⊥) → ((d j : ℕ) → body Cached d j ≡ f → ⊥)
      → get (crash_copied m) f ≡ get m f
  unfolding slot
  crash_copy_other (word Cached a) n o p = let z : ⊥ = n a refl in search
  crash_copy_other (word Persisted a) n o p = crash_other m (word Persisted a) (past_copies (ltb a 64) (288 + a) (omega arith))
  crash_copy_other (status Cached d) n o p = let z : ⊥ = o d refl in search
  crash_copy_other (status Persisted d) n o p = crash_other m (status Persisted d) (past_copies (ltb d 16) (288 + 64 + d) (omega arith))
  crash_copy_other (body Cached d j) n o p = let z : ⊥ = p d j refl in search
  crash_copy_other (body Persisted d j) n o p = crash_other m (body Persisted d j) (past_two (ltb d 16) (ltb j 13) (288 + 80 + 13 * d + j) (omega arith))
  crash_copy_other (worker w j) n o p = crash_other m (worker w j) (past_two (ltb w 8) (ltb j 8) (576 + 8 * w + j) (omega arith))
  crash_copy_other (size j) n o p = crash_other m (size j) (past_copies (ltb j 3) (640 + j) (omega arith))
  crash_copy_other (recovery j) n o p = crash_other m (recovery j) (past_copies (ltb j 3) (643 + j) (omega arith))
