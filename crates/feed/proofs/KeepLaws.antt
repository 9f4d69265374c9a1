-- `keep` copies, and the definition moves one byte after the other.
use Rattle.std.specs.Prelude.{◌≡◌, ℕ, ◌+◌, ◌-◌, ◌<◌, ◌≤◌, List, length, get_or}
use Rattle.std.specs.List.{CopiedTo, SameFrom}
use Rattle.std.proofs.Common.{arith, sym, ◌∙◌, ext_get_or, inl, inr}
use native.Mathlib.Numerals.{unary_clauses}
use Rattle.std.proofs.lemmas.Bool.{le-ltb, lt-leb, cases_lt}
use Rattle.feed.specs.Feed.{kept, moved, kept_of}
use Rattle.feed.specs.FeedLaws.{moved_length, moved_behind, moved_front}

-- a copy of n bytes to the start is those bytes moved one after the other
copied : (s x : List ℕ) (from n : ℕ) → from + n ≤ length s → length x ≡ length s → CopiedTo s x from 0 n → SameFrom s x (0 + n) → x ≡ moved s from n
copied s x from n h l f b = ext_get_or 0 x (moved s from n) (l ∙ sym (moved_length s from n)) each
  where
    each : (i : ℕ) → i < length x → get_or x i 0 ≡ get_or (moved s from n) i 0
    each i k = elim (cases_lt i n) [
      | inl a ↦ simp unary_clauses at (f i 0 (omega arith) (omega arith)) ∙ sym (moved_front s from n i h a)
      | inr a ↦ b i 0 (omega arith) ∙ sym (moved_behind s from n i a)
    ]

pub keep_some : (s x : List ℕ) (from to : ℕ) → to ≤ length s → from < to → length x ≡ length s → CopiedTo s x from 0 (to - from) → SameFrom s x (0 + (to - from))
    → kept x (to - from) ≡ kept_of s from to
unfolding kept_of
keep_some s x from to h l k f b = rw (le-ltb _ _ h, lt-leb _ _ l, copied s x from (to - from) (omega arith) k f b)
