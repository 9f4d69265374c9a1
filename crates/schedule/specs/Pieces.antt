-- A record that is all there is read the same wherever the input is cut, and a place is as good as the input from there on.
use Rattle.std.specs.Prelude.{◌≡◌, refl, Bool, true, false, List, ◌++◌, ℕ, ◌+◌, ◌-◌, ◌<◌, ◌≤◌, leb, get_or, drop}
use Rattle.std.proofs.Common.{sym, ◌∙◌, get_or-drop}
use native.Mathlib.Omega.{arith}
use Rattle.std.proofs.Math.ListN.{length, length-append, length-drop, get_or-append}
use Rattle.std.proofs.lemmas.List.{take-append-le}
use Rattle.std.proofs.Math.Seq.{drop-append-le, drop-drop}
use borrow.Author.Tests.{le-leb, leb-true, leb-false}
use Rattle.schedule.specs.declared.Head.TheVariants.{Record, Unknown}
use Rattle.schedule.specs.Record.{length_of, after, head_of, body_of}
use Rattle.schedule.specs.Laws.{record_says, stands_record, unknown_says, stands_unknown}

-- more input after it
module _ (started : Bool) (xs ys : List ℕ) (at : ℕ) where
  module _ (kind n : ℕ) (e : head_of started xs at ≡ Record kind n) where
    pub record_append : head_of started (xs ++ ys) at ≡ Record kind n
    record_append =
        let h = record_says started xs at kind n e in
        let f = h.fits in
        let l : at < length xs = omega arith in
        stands_record started (xs ++ ys) at kind n
        (record {
          is = h.is ∙ sym (get_or-append xs ys 0 at l);
          right = h.right;
          size = h.size;
          fits = simp length-append (omega arith);
        })

    pub body_append : body_of (xs ++ ys) at kind ≡ body_of xs at kind
    unfolding body_of
    body_append =
        let h = record_says started xs at kind n e in
        let f : at + 1 + length_of kind ≤ length xs = rw h.size at h.fits in
        let g : at + 1 + length_of kind ≤ length (xs ++ ys) = simp length-append (omega arith) in
        let a : at + 1 ≤ length xs = omega arith in
        let b : length_of kind ≤ length (drop (at + 1) xs) = simp length-drop (omega arith) in
        rw (le-leb (after at kind) (length xs) f, le-leb (after at kind) (length (xs ++ ys)) g, drop-append-le (at + 1) xs ys a)
        (take-append-le (length_of kind) (drop (at + 1) xs) ys b)

  pub unknown_append : head_of started xs at ≡ Unknown → head_of started (xs ++ ys) at ≡ Unknown
  unknown_append e =
      let h = unknown_says started xs at e in
      let l = h.0 in
      stands_unknown started (xs ++ ys) at (simp length-append (omega arith)) (rw (get_or-append xs ys 0 at l) h.1)

-- two tests that hold together
pub same_leb : (a b c d : ℕ) → (a ≤ b → c ≤ d) → (c ≤ d → a ≤ b) → leb a b ≡ leb c d
same_leb a b c d f g = go (leb a b) (leb c d) refl refl
  where
    go : (p q : Bool) → leb a b ≡ p → leb c d ≡ q → p ≡ q
    go true true e k = refl
    go false false e k = refl
    go true false e k = let x = f (leb-true _ _ e) in let y = leb-false c d k in absurd (omega arith)
    go false true e k = let x = g (leb-true _ _ k) in let y = leb-false a b e in absurd (omega arith)

-- from a place on
module _ (s : List ℕ) (at : ℕ) where
  first : get_or (drop at s) 0 0 ≡ get_or s at 0
  first = let e : at + 0 ≡ at = omega arith in rw e at (get_or-drop at s 0 0)

  pub head_drop : (started : Bool) → head_of started s at ≡ head_of started (drop at s) 0
  unfolding head_of
  head_drop started =
      rw (
        first,
        length-drop at s,
        same_leb (length s) at (length s - at) 0 (λ h. omega arith) (λ h. omega arith),
        same_leb (after at (get_or s at 0)) (length s) (after 0 (get_or s at 0)) (length s - at) (λ h. omega arith) (λ h. omega arith),
      )

  pub body_drop : (kind : ℕ) → body_of s at kind ≡ body_of (drop at s) 0 kind
  unfolding body_of
  body_drop kind =
      rw (
        length-drop at s,
        drop-drop 1 at s,
        same_leb (after at kind) (length s) (after 0 kind) (length s - at) (λ h. omega arith) (λ h. omega arith),
      )
