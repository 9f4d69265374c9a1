-- A round, in the form in which the loop makes it: what is kept stands at the start of the buffer, what was read behind it, and `keep` moves what is left.
use Rattle.std.specs.Prelude.{◌≡◌, ◌≤◌, ◌<◌, ◌+◌, ◌-◌, ◌^◌, ◌++◌, List, ℕ, Bool, [], length, take, drop, get_or}
use Rattle.std.proofs.Common.{subst, sym, ap, ◌∙◌, arith, ext_get_or, inl, inr}
use Rattle.std.proofs.lemmas.Bool.{le-ltb, lt-leb, le-leb, cases_lt}
use Rattle.std.proofs.lemmas.List.{take-append-drop, take-take, length-take-le, length-drop, get_or-take, get_or-drop}
use Rattle.std.proofs.Math.ListN.{drop_of_length-le}
use Rattle.feed.specs.Feed.{Kept, kept, kept_of, moved}
use Rattle.feed.specs.FeedLaws.{moved_length, moved_front}
use Rattle.drive.specs.Playing.{PlaysAll, Round, Rounds, Drives}
use Rattle.drive.specs.Playing.Drives.{spent}

-- what is read comes behind what is kept
pub behind : (have to : ℕ) (x y : List ℕ) → have ≤ to → take have y ≡ take have x → take to y ≡ take have x ++ drop have (take to y)
behind have to x y h e = sym (take-append-drop have (take to y)) ∙ ap (λ (z : List ℕ). z ++ drop have (take to y)) (take-take have to y h ∙ e)

-- the bytes that moved to the start are those that were not used
moved_taken : (s : List ℕ) (from to : ℕ) → to ≤ length s → from < to → take (to - from) (moved s from (to - from)) ≡ drop from (take to s)
moved_taken s from to h l =
    let n : ℕ = to - from in
    let k = length-take-le n (moved s from n) (rw (moved_length s from n) (omega arith)) in
    let j = length-drop from (take to s) ∙ ap (λ (z : ℕ). z - from) (length-take-le to s h) in
    ext_get_or 0 (take n (moved s from n)) (drop from (take to s)) (k ∙ sym j) (λ i b. each i (subst (λ (z : ℕ). i < z) k b))
  where
    each : (i : ℕ) → i < to - from → get_or (take (to - from) (moved s from (to - from))) i 0 ≡ get_or (drop from (take to s)) i 0
    each i b =
        get_or-take (to - from) (moved s from (to - from)) i 0 b ∙ moved_front s from (to - from) i (omega arith) b
        ∙ sym (get_or-drop from (take to s) i 0 ∙ get_or-take to s (from + i) 0 (omega arith))

kept_taken : (s : List ℕ) (from to : ℕ) → to ≤ length s → take (kept_of s from to).many (kept_of s from to).bytes ≡ drop from (take to s)
unfolding kept_of
kept_taken s from to h = elim (cases_lt from to) [
  | inl l ↦ rw (le-ltb _ _ h, lt-leb _ _ l) (moved_taken s from to h l)
  | inr g ↦ rw (le-ltb _ _ h, le-leb _ _ g) (sym (drop_of_length-le (take to s) (rw (length-take-le to s h) g)))
]

-- a new byte: something comes
pub something_comes : (have to : ℕ) (y : List ℕ) → to ≤ length y → have < to → 0 < length (drop have (take to y))
something_comes have to y l h = rw (length-drop have (take to y), length-take-le to y l) (omega arith)

-- no new byte: nothing comes
pub nothing_comes : (have to : ℕ) (y : List ℕ) → to ≤ length y → to ≤ have → drop have (take to y) ≡ []
nothing_comes have to y l h = drop_of_length-le (take to y) (rw (length-take-le to y l) h)

module _ {S : Type 0} (plays : S → List ℕ → S → ℕ → Type 0) (flushes : S → S → Type 0) (over : S → Bool) where
  pub one_round : (s t u : S) (have to used left : ℕ) (x y z : List ℕ) → have ≤ to → to ≤ length y → take have y ≡ take have x
      → PlaysAll plays s (take to y) t used → flushes t u → kept z left ≡ kept_of y used to
      → Round plays flushes over s (take have x) (drop have (take to y)) u (take left z)
  one_round s t u have to used left x y z h l e p f k =
      let b = behind have to x y h e in
      record {
        played = t;
        used = used;
        plays_all = subst (λ (w : List ℕ). PlaysAll plays s w t used) b p;
        goes_out = f;
        rest = ap (λ (w : Kept). take w.many w.bytes) k ∙ (kept_taken y used to l ∙ ap (drop used) b);
      }

  pub all_rounds : (s t : S) (i : ℕ) (left : List ℕ) → i ≡ 2 ^ 64 - 1 → Rounds plays flushes over s i t left → Drives plays flushes over s t left
  all_rounds s t i left e r = spent (subst (λ (k : ℕ). Rounds plays flushes over s k t left) e r)
