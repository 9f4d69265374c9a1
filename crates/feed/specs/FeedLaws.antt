-- No byte is lost: what is kept is what stood there, byte by byte, though the two places may overlap.
use Rattle.std.specs.Prelude.{◌≡◌, Bool, true, false, List, eqb, length, get_or, set}
use Rattle.std.proofs.Math.Path.{refl}
use Rattle.std.proofs.Common.{◌∙◌, arith, get_or-set_same, eqb-true}
use Prim.Native.Nat.{ℕ, zero, suc, ◌+◌, ◌<◌, ◌≤◌}
use Rattle.std.proofs.Math.ListN.{length-set}
use Rattle.std.proofs.Math.Seq.{get_or-set_other}
use Rattle.std.proofs.lemmas.Bool.{eqb-false}
use Rattle.feed.specs.Feed.{moved}

module _ (s : List ℕ) (from : ℕ) where
  pub moved_length : (n : ℕ) → length (moved s from n) ≡ length s
  unfolding moved
  moved_length zero = refl
  moved_length (suc n) = length-set (moved s from n) n (get_or (moved s from n) (from + n) 0) ∙ moved_length n

  -- the bytes behind those that have moved are as they were
  pub moved_behind : (n j : ℕ) → n ≤ j → get_or (moved s from n) j 0 ≡ get_or s j 0
  unfolding moved
  moved_behind zero j h = refl
  moved_behind (suc n) j h =
      get_or-set_other (moved s from n) n j (get_or (moved s from n) (from + n) 0) 0 (λ e. omega arith) ∙ moved_behind n j (omega arith)

  moved_suc : (n : ℕ) → moved s from (suc n) ≡ set (moved s from n) n (get_or (moved s from n) (from + n) 0)
  unfolding moved
  moved_suc n = refl

  below : (i n : ℕ) → (i ≡ n → ⊥) → i < suc n → i < n
  below i n e l = omega arith

  -- byte i is the one that stood i after the place
  pub moved_front : (n i : ℕ) → from + n ≤ length s → i < n → get_or (moved s from n) i 0 ≡ get_or s (from + i) 0
  moved_front zero i h l = absurd (omega arith)
  moved_front (suc n) i h l = go (eqb i n) refl (moved_front n i (omega arith))
    where
      go : (t : Bool) → eqb i n ≡ t → (i < n → get_or (moved s from n) i 0 ≡ get_or s (from + i) 0) → get_or (moved s from (suc n)) i 0 ≡ get_or s (from + i) 0
      go true e f =
          let z = eqb-true i n e in
          let m = moved_length n in
          rw (moved_suc n, z) (get_or-set_same (moved s from n) n (get_or (moved s from n) (from + n) 0) 0 (omega arith) ∙ moved_behind n (from + n) (omega arith))
      go false e f =
          let z = eqb-false i n e in
          rw (moved_suc n) (get_or-set_other (moved s from n) n i (get_or (moved s from n) (from + n) 0) 0 z ∙ f (below i n z (omega arith)))
