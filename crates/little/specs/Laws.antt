-- What was stored is read, storing what was read changes nothing, and everything else is as it was.
use Rattle.std.specs.Prelude.{◌≡◌, Bool, ℕ, ◌+◌, ◌-◌, ◌<◌, ◌≤◌, ◌^◌, length, get_or}
use Rattle.std.proofs.Math.Path.{refl}
use Rattle.std.proofs.Common.{sym, ap, ◌∙◌, length-append, length-drop, take-append-drop, length-take-le, take_at, drop-drop, get_or-take, get_or-drop, ext_get_or, le-leb, leb-true}
use Rattle.std.proofs.Math.Bool.{true, false, cond}
use mathlib.Core.List.{List, ◌++◌, append_assoc}
use native.Mathlib.Omega.{arith}
use Rattle.std.proofs.Math.Dec.{leb}
use Rattle.std.proofs.Math.ListN.{take, drop}
use Rattle.std.proofs.Math.Seq.{drop_at}
use Rattle.little.specs.Number.{number_of, bytes_of, number_at, with_number}
use Rattle.little.specs.Bytes.{Bytes, bytes_take, bytes_drop, bytes_append, bytes_are, number_below, number_bytes, bytes_number}

-- the eight bytes from a place on that fits
module _ (s : List ℕ) (at : ℕ) (h : at + 8 ≤ length s) where
  eight : length (take 8 (drop at s)) ≡ 8
  eight = length-take-le 8 (drop at s) (simp length-drop (omega arith))

  before : length (take at s) ≡ at
  before = length-take-le at s (omega arith)

  part : (v : ℕ) → length (take at s ++ bytes_of 8 v) ≡ at + 8
  part v = simp length-append (rw before)

  new_length : (v : ℕ) → length (take at s ++ bytes_of 8 v ++ drop (at + 8) s) ≡ length s
  new_length v = length-append (take at s ++ bytes_of 8 v) (drop (at + 8) s) ∙ rw (part v, length-drop) (omega arith)

  new_drop : (v : ℕ) → drop at (take at s ++ bytes_of 8 v ++ drop (at + 8) s) ≡ bytes_of 8 v ++ drop (at + 8) s
  new_drop v = rw append_assoc (drop_at (take at s) (bytes_of 8 v ++ drop (at + 8) s) at before)

-- the length is kept
pub number_length : (s : List ℕ) (at v : ℕ) → length (with_number s at v) ≡ length s
unfolding with_number
number_length s at v = go (leb (at + 8) (length s)) refl
  where
    go : (t : Bool) → leb (at + 8) (length s) ≡ t → length (cond t (take at s ++ bytes_of 8 v ++ drop (at + 8) s) s) ≡ length s
    go true e = new_length s at (leb-true _ _ e) v
    go false e = refl

-- what was stored is read
pub number_stored : (s : List ℕ) (at v : ℕ) → at + 8 ≤ length s → v < 2 ^ 64 → number_at (with_number s at v) at ≡ v
unfolding number_at with_number
number_stored s at v h l = simp (le-leb _ _ h, new_length s at h v, new_drop s at h v) (number_bytes 8 v l)

-- storing what was read changes nothing
pub number_again : (s : List ℕ) (at : ℕ) → Bytes s → with_number s at (number_at s at) ≡ s
unfolding number_at with_number
number_again s at b = go (leb (at + 8) (length s)) refl
  where
    go : (t : Bool) → leb (at + 8) (length s) ≡ t
        → cond t (take at s ++ bytes_of 8 (cond t (number_of (take 8 (drop at s))) 0) ++ drop (at + 8) s) s ≡ s
    go false e = refl
    go true e =
        let h = leb-true _ _ e in
        let f = bytes_take 8 (drop at s) (bytes_drop at s b) in
        let g : bytes_of 8 (number_of (take 8 (drop at s))) ≡ take 8 (drop at s) = rw (eight s at h) at (bytes_number (take 8 (drop at s)) f) in
        rw (g, append_assoc, ← drop-drop 8 at s, take-append-drop, take-append-drop)

-- what lies before the eight bytes and after them is as it was
module _ (s : List ℕ) (at v : ℕ) where
  pub before_kept : take at (with_number s at v) ≡ take at s
  unfolding with_number
  before_kept = go (leb (at + 8) (length s)) refl
    where
      go : (t : Bool) → leb (at + 8) (length s) ≡ t → take at (cond t (take at s ++ bytes_of 8 v ++ drop (at + 8) s) s) ≡ take at s
      go true e = rw append_assoc (take_at (take at s) (bytes_of 8 v ++ drop (at + 8) s) at (before s at (leb-true _ _ e)))
      go false e = refl

  pub after_kept : drop (at + 8) (with_number s at v) ≡ drop (at + 8) s
  unfolding with_number
  after_kept = go (leb (at + 8) (length s)) refl
    where
      go : (t : Bool) → leb (at + 8) (length s) ≡ t → drop (at + 8) (cond t (take at s ++ bytes_of 8 v ++ drop (at + 8) s) s) ≡ drop (at + 8) s
      go true e = drop_at (take at s ++ bytes_of 8 v) (drop (at + 8) s) (at + 8) (part s at (leb-true _ _ e) v)
      go false e = refl

  -- every byte outside the eight
  pub byte_before : (i : ℕ) → i < at → get_or (with_number s at v) i 0 ≡ get_or s i 0
  byte_before i h = sym (get_or-take at (with_number s at v) i 0 h) ∙ ap (λ (l : List ℕ). get_or l i 0) before_kept ∙ get_or-take at s i 0 h

  pub byte_after : (i : ℕ) → at + 8 ≤ i → get_or (with_number s at v) i 0 ≡ get_or s i 0
  byte_after i h =
      let e : at + 8 + (i - (at + 8)) ≡ i = omega arith in
      let f = sym (get_or-drop (at + 8) (with_number s at v) (i - (at + 8)) 0)
      ∙ ap (λ (l : List ℕ). get_or l (i - (at + 8)) 0) after_kept
      ∙ get_or-drop (at + 8) s (i - (at + 8)) 0 in
      rw e at f

-- a number depends on the length and on its eight bytes alone
pub same_number : (x s : List ℕ) (at : ℕ) → length x ≡ length s
    → ((i : ℕ) → at ≤ i → i < at + 8 → get_or x i 0 ≡ get_or s i 0)
    → number_at x at ≡ number_at s at
unfolding number_at
same_number x s at e f = rw e (go (leb (at + 8) (length s)) refl)
  where
    go : (t : Bool) → leb (at + 8) (length s) ≡ t → cond t (number_of (take 8 (drop at x))) 0 ≡ cond t (number_of (take 8 (drop at s))) 0
    go false q = refl
    go true q =
        let h : at + 8 ≤ length s = leb-true _ _ q in
        let k : at + 8 ≤ length x = omega arith in
        let a = eight x at k in
        ap number_of
        (ext_get_or 0 (take 8 (drop at x)) (take 8 (drop at s)) (a ∙ sym (eight s at h))
        (λ i l.
        let m : i < 8 = omega arith in
        get_or-take 8 (drop at x) i 0 m ∙ get_or-drop at x i 0 ∙ f (at + i) (omega arith) (omega arith) ∙ sym (get_or-drop at s i 0) ∙ sym (get_or-take 8 (drop at s) i 0 m)))

-- every number that does not overlap
module _ (s : List ℕ) (at v b : ℕ) where
  pub number_before : b + 8 ≤ at → number_at (with_number s at v) b ≡ number_at s b
  number_before h = same_number (with_number s at v) s b (number_length s at v) (λ i l m. byte_before s at v i (omega arith))

  pub number-after : at + 8 ≤ b → number_at (with_number s at v) b ≡ number_at s b
  number-after h = same_number (with_number s at v) s b (number_length s at v) (λ i l m. byte_after s at v i (omega arith))

-- bytes give a number below 2 ^ 64, and stay bytes
module _ (s : List ℕ) (at : ℕ) (b : Bytes s) where
  pub number_fits : number_at s at < 2 ^ 64
  unfolding number_at
  number_fits = go (leb (at + 8) (length s)) refl
    where
      go : (t : Bool) → leb (at + 8) (length s) ≡ t → cond t (number_of (take 8 (drop at s))) 0 < 2 ^ 64
      go true e = rw (eight s at (leb-true _ _ e)) at (number_below (take 8 (drop at s)) (bytes_take 8 (drop at s) (bytes_drop at s b)))
      go false e = omega arith

  pub bytes_kept : (v : ℕ) → Bytes (with_number s at v)
  unfolding with_number
  bytes_kept v = go (leb (at + 8) (length s))
    where
      go : (t : Bool) → Bytes (cond t (take at s ++ bytes_of 8 v ++ drop (at + 8) s) s)
      go true = bytes_append (take at s ++ bytes_of 8 v) (drop (at + 8) s) (bytes_append (take at s) (bytes_of 8 v) (bytes_take at s b) (bytes_are 8 v)) (bytes_drop (at + 8) s b)
      go false = b
