-- Putting a text.
use Rattle.std.specs.Prelude.{◌≡◌, refl, Bool, true, false, cond, List, [], ◌∷◌, ◌++◌, ℕ, suc, ◌+◌, ◌<◌, ◌≤◌, ltb, take, drop, set}
use Rattle.std.proofs.Common.{sym, ap, ◌∙◌, append-nil, length-set, take-suc-set, drop-set-lt, lt-ltb, le-ltb, ltb-false}
use native.Mathlib.Omega.{arith}
use Rattle.std.proofs.Math.ListN.{length}
use Rattle.std.proofs.Math.Seq.{append_snoc}
use Rattle.answers.specs.Put.{Filled, filled, put_of}

-- the buffer keeps its length
pub put_length : (out : List ℕ) (at : ℕ) (text : List ℕ) → length (put_of out at text).bytes ≡ length out
unfolding put_of
put_length out at [] = refl
put_length out at (b ∷ bs) = go (ltb at (length out)) (put_length (set out at b) (at + 1) bs)
  where
    go : (t : Bool) → length (put_of (set out at b) (at + 1) bs).bytes ≡ length (set out at b)
        → length (cond t (put_of (set out at b) (at + 1) bs) (filled out at)).bytes ≡ length out
    go true e = e ∙ length-set out at b
    go false e = refl

-- where there is no room, nothing is put
pub put_full : (out : List ℕ) (at : ℕ) (text : List ℕ) → length out ≤ at → put_of out at text ≡ filled out at
unfolding put_of
put_full out at [] h = refl
put_full out at (b ∷ bs) h = simp (le-ltb _ _ h)

-- a text after another is put where that ended, also where the buffer is full by then
pub put_append : (out : List ℕ) (at : ℕ) (xs ys : List ℕ)
    → put_of out at (xs ++ ys) ≡ put_of (put_of out at xs).bytes (put_of out at xs).end ys
unfolding put_of
put_append out at [] ys = refl
put_append out at (b ∷ bs) ys = go (ltb at (length out)) refl (put_append (set out at b) (at + 1) bs ys)
  where
    go : (t : Bool) → ltb at (length out) ≡ t
        → put_of (set out at b) (at + 1) (bs ++ ys)
        ≡ put_of (put_of (set out at b) (at + 1) bs).bytes (put_of (set out at b) (at + 1) bs).end ys
        → cond t (put_of (set out at b) (at + 1) (bs ++ ys)) (filled out at)
        ≡ put_of (cond t (put_of (set out at b) (at + 1) bs) (filled out at)).bytes (cond t (put_of (set out at b) (at + 1) bs) (filled out at)).end ys
    go true e h = h
    go false e h = sym (put_full out at ys (ltb-false _ _ e))

-- where there is room for all of it: it stands there, and all else is as it was
module _ (b : ℕ) (bs out : List ℕ) (at : ℕ) (room : at + length (b ∷ bs) ≤ length out) where
  put_first : put_of out at (b ∷ bs) ≡ put_of (set out at b) (at + 1) bs
  unfolding put_of
  put_first = let h : at < length out = omega arith in simp (lt-ltb _ _ h)

  room_next : at + 1 + length bs ≤ length (set out at b)
  room_next = simp length-set (omega arith)

pub put_end : (text out : List ℕ) (at : ℕ) → at + length text ≤ length out → (put_of out at text).end ≡ at + length text
unfolding put_of
put_end [] out at h = omega arith
put_end (b ∷ bs) out at h =
    ap (λ (d : Filled). d.end) (put_first b bs out at h) ∙ put_end bs (set out at b) (at + 1) (room_next b bs out at h) ∙ omega arith

before : (text out : List ℕ) (at : ℕ) → at + length text ≤ length out
    → take (at + length text) (put_of out at text).bytes ≡ take at out ++ text
unfolding put_of
before [] out at h = let z : at + 0 ≡ at = omega arith in rw (z, append-nil)
before (b ∷ bs) out at h =
    let l : at < length out = omega arith in
    let z : at + suc (length bs) ≡ at + 1 + length bs = omega arith in
    let y : at + 1 ≡ suc at = omega arith in
    let k : take (at + 1) (set out at b) ≡ take at out ++ b ∷ [] = rw y (take-suc-set out at b l) in
    ap (λ (d : Filled). take (at + suc (length bs)) d.bytes) (put_first b bs out at h)
    ∙ rw (z, before bs (set out at b) (at + 1) (room_next b bs out at h), k, append_snoc)

after : (text out : List ℕ) (at : ℕ) → at + length text ≤ length out
    → drop (at + length text) (put_of out at text).bytes ≡ drop (at + length text) out
unfolding put_of
after [] out at h = refl
after (b ∷ bs) out at h =
    let z : at + suc (length bs) ≡ at + 1 + length bs = omega arith in
    ap (λ (d : Filled). drop (at + suc (length bs)) d.bytes) (put_first b bs out at h)
    ∙ rw (z, after bs (set out at b) (at + 1) (room_next b bs out at h)) (drop-set-lt (at + 1 + length bs) out at b (omega arith))

pub put_before : (text out : List ℕ) (at : ℕ) → at + length text ≤ length out
    → take (put_of out at text).end (put_of out at text).bytes ≡ take at out ++ text
put_before text out at h = rw (put_end text out at h) (before text out at h)

pub put_after : (text out : List ℕ) (at : ℕ) → at + length text ≤ length out
    → drop (put_of out at text).end (put_of out at text).bytes ≡ drop (put_of out at text).end out
put_after text out at h = rw (put_end text out at h) (after text out at h)
