-- What each head says of the input, and that its refusal is the first of the table.
use Rattle.std.proofs.Math.Path.{◌≡◌, refl, sym}
use Rattle.std.proofs.Math.Bool.{Bool, true, false, not}
use Rattle.std.specs.Prelude.{cond, ◌&&◌, List, [], ◌∷◌, ltb, drop}
use Prim.Native.Nat.{ℕ, ◌+◌, ◌<◌, ◌≤◌}
use native.Mathlib.Omega.{arith}
use Rattle.std.proofs.Math.Dec.{leb}
use Rattle.std.proofs.Math.ListN.{length, get_or, length-drop}
use Rattle.std.proofs.Common.{length-take-le}
use borrow.Author.Tests.{lt-leb, le-leb, lt-ltb, le-ltb, leb-true, leb-false}
use Rattle.events.specs.Refusal.{check, first_of}
use Rattle.schedule.specs.declared.Head.{Head}
use Rattle.schedule.specs.declared.Head.TheVariants.{Record, Unknown, Short, End}
use Rattle.schedule.specs.Record.{length_of, known, after, verdict_of, head_of, body_of, refusal_of, head_checks}

-- the head from its three tests: the input has ended, the kind is right, the body is whole
abbrev head_by : Bool → Bool → Bool → ℕ → Head
head_by ended right whole kind = cond ended End (verdict_of right whole kind (length_of kind))

-- a record of a kind with a body of n bytes stands at a place
pub record Stands (started : Bool) (s : List ℕ) (at kind n : ℕ) : Type 0 where
  pub is : kind ≡ get_or s at 0
  pub right : known started kind ≡ true
  pub size : n ≡ length_of kind
  pub fits : at + 1 + n ≤ length s

module _ (started : Bool) (s : List ℕ) (at : ℕ) where
  pub record_says : (kind n : ℕ) → head_of started s at ≡ Record kind n → Stands started s at kind n
  unfolding head_of verdict_of
  record_says kind n = go (leb (length s) at) (known started (get_or s at 0)) (leb (after at (get_or s at 0)) (length s)) refl refl
    where
      go : (a b c : Bool) → known started (get_or s at 0) ≡ b → leb (after at (get_or s at 0)) (length s) ≡ c
          → head_by a b c (get_or s at 0) ≡ Record kind n → Stands started s at kind n
      go false true true p q e =
          let k : get_or s at 0 ≡ kind = cc in
          let m : length_of (get_or s at 0) ≡ n = cc in
          let l = leb-true (after at (get_or s at 0)) (length s) q in
          record { is = sym k; right = rw k at p; size = sym (rw k at m); fits = rw (← m) l }
      go true b c p q e = let z : ◌≡◌ {A = ℕ} 0 1 = cc in absurd (omega arith)
      go false false c p q e = let z : ◌≡◌ {A = ℕ} 0 1 = cc in absurd (omega arith)
      go false true false p q e = let z : ◌≡◌ {A = ℕ} 0 1 = cc in absurd (omega arith)

  pub stands_record : (kind n : ℕ) → Stands started s at kind n → head_of started s at ≡ Record kind n
  unfolding head_of verdict_of
  stands_record kind n h =
      let f : at + 1 + length_of kind ≤ length s = rw h.size at h.fits in
      let l : at < length s = omega arith in
      rw (← h.is, lt-leb (length s) at l, h.right, le-leb (after at kind) (length s) f, h.size)

  pub unknown_says : head_of started s at ≡ Unknown → (at < length s) × (known started (get_or s at 0) ≡ false)
  unfolding head_of verdict_of
  unknown_says = go (leb (length s) at) (known started (get_or s at 0)) (leb (after at (get_or s at 0)) (length s)) refl refl
    where
      go : (a b c : Bool) → leb (length s) at ≡ a → known started (get_or s at 0) ≡ b → head_by a b c (get_or s at 0) ≡ Unknown
          → (at < length s) × (known started (get_or s at 0) ≡ false)
      go false false c p q e = (leb-false _ _ p, q)
      go true b c p q e = let z : ◌≡◌ {A = ℕ} 0 1 = cc in absurd (omega arith)
      go false true true p q e = let z : ◌≡◌ {A = ℕ} 0 1 = cc in absurd (omega arith)
      go false true false p q e = let z : ◌≡◌ {A = ℕ} 0 1 = cc in absurd (omega arith)

  pub stands_unknown : at < length s → known started (get_or s at 0) ≡ false → head_of started s at ≡ Unknown
  unfolding head_of verdict_of
  stands_unknown h e = rw (lt-leb (length s) at h, e)

  pub short_says : head_of started s at ≡ Short → (at < length s) × (known started (get_or s at 0) ≡ true) × (length s < after at (get_or s at 0))
  unfolding head_of verdict_of
  short_says = go (leb (length s) at) (known started (get_or s at 0)) (leb (after at (get_or s at 0)) (length s)) refl refl refl
    where
      go : (a b c : Bool) → leb (length s) at ≡ a → known started (get_or s at 0) ≡ b → leb (after at (get_or s at 0)) (length s) ≡ c
          → head_by a b c (get_or s at 0) ≡ Short
          → (at < length s) × (known started (get_or s at 0) ≡ true) × (length s < after at (get_or s at 0))
      go false true false p q r e = (leb-false _ _ p, q, leb-false _ _ r)
      go true b c p q r e = let z : ◌≡◌ {A = ℕ} 0 1 = cc in absurd (omega arith)
      go false false c p q r e = let z : ◌≡◌ {A = ℕ} 0 1 = cc in absurd (omega arith)
      go false true true p q r e = let z : ◌≡◌ {A = ℕ} 0 1 = cc in absurd (omega arith)

  pub end_says : head_of started s at ≡ End → length s ≤ at
  unfolding head_of verdict_of
  end_says = go (leb (length s) at) (known started (get_or s at 0)) (leb (after at (get_or s at 0)) (length s)) refl
    where
      go : (a b c : Bool) → leb (length s) at ≡ a → head_by a b c (get_or s at 0) ≡ End → length s ≤ at
      go true b c p e = leb-true _ _ p
      go false false c p e = let z : ◌≡◌ {A = ℕ} 0 1 = cc in absurd (omega arith)
      go false true true p e = let z : ◌≡◌ {A = ℕ} 0 1 = cc in absurd (omega arith)
      go false true false p e = let z : ◌≡◌ {A = ℕ} 0 1 = cc in absurd (omega arith)

  -- the body of a record that stands has the length that the kind fixes
  pub body_length : (kind n : ℕ) → head_of started s at ≡ Record kind n → length (body_of s at kind) ≡ n
  unfolding body_of
  body_length kind n e =
      let h = record_says kind n e in
      let f : at + 1 + length_of kind ≤ length s = rw h.size at h.fits in
      let l : length_of kind ≤ length (drop (at + 1) s) = simp length-drop (omega arith) in
      rw (le-leb (after at kind) (length s) f, h.size) (length-take-le (length_of kind) (drop (at + 1) s) l)

  -- "Order: 3, 2"
  pub refusal_first : refusal_of (head_of started s at) ≡ first_of (head_checks started s at)
  unfolding head_of verdict_of first_of
  refusal_first = go (leb (length s) at) refl (known started (get_or s at 0)) (leb (after at (get_or s at 0)) (length s))
    where
      table : Bool → Bool → ℕ
      table right whole = first_of (check 3 (ltb at (length s) && not right) ∷ check 2 (ltb at (length s) && not whole) ∷ [])

      go : (a : Bool) → leb (length s) at ≡ a → (b c : Bool) → refusal_of (head_by a b c (get_or s at 0)) ≡ table b c
      go true e b c = rw (le-ltb at (length s) (leb-true _ _ e))
      go false e false c = rw (lt-ltb at (length s) (leb-false _ _ e))
      go false e true true = rw (lt-ltb at (length s) (leb-false _ _ e))
      go false e true false = rw (lt-ltb at (length s) (leb-false _ _ e))
