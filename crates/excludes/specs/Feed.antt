-- The crate `feed`: what its promises rule out. The promise of `read_on` is no equation (what is read comes from outside), so it is told that what is wrong breaks one of its clauses.
use Rattle.std.specs.Prelude.{◌≡◌, refl, ◌≢◌, List, [], ◌∷◌, ℕ, suc, ◌<◌, ◌≤◌, length, get_or, take}
use Rattle.std.proofs.Common.{sym, ap, ◌∙◌, arith, take_all, lt-ltb}
use Rattle.feed.specs.Feed.{Kept, kept, moved, kept_of}
use Rattle.excludes.specs.Differ.{differ, by}

-- the bytes go to the start of the buffer, and are counted
pub keep_not_left_where_they_were : kept (1 ∷ 2 ∷ 3 ∷ []) 2 ≢ kept_of (1 ∷ 2 ∷ 3 ∷ []) 1 3
unfolding kept_of moved
keep_not_left_where_they_were = differ (λ (k : Kept). get_or k.bytes 0 0) refl

pub keep_not_past_the_end : (s x : List ℕ) (from to r : ℕ) → length s < to → r ≢ 0 → kept x r ≢ kept_of s from to
unfolding kept_of
keep_not_past_the_end s x from to r h n = rw (lt-ltb _ _ h) (by (λ (k : Kept). k.many) n)

-- s before, x after, r the result: the clauses of the contract
pub record ReadOn (s : List ℕ) (had : ℕ) (x : List ℕ) (r : ℕ) : Type 0 where
  pub same_length : length x ≡ length s
  pub inside : r ≤ length x
  pub kept_front : take had x ≡ take had s
  pub no_fewer : had ≤ length s → had ≤ r
  pub full : length s ≤ had → r ≡ length s

pub read_on_not_over_what_is_kept : (b c had r : ℕ) (s x : List ℕ) → c ≢ b → ¬ (ReadOn (b ∷ s) (suc had) (c ∷ x) r)
read_on_not_over_what_is_kept b c had r s x n h = n (ap (λ (y : List ℕ). get_or y 0 0) h.kept_front)

pub read_on_not_past_the_end : (s x : List ℕ) (had r : ℕ) → length s < r → ¬ (ReadOn s had x r)
read_on_not_past_the_end s x had r l h = omega (arith, h.same_length, h.inside)

pub read_on_not_fewer : (s x : List ℕ) (had r : ℕ) → had ≤ length s → r < had → ¬ (ReadOn s had x r)
read_on_not_fewer s x had r l k h = omega (arith, h.no_fewer l)

-- into a full buffer nothing is read
pub read_on_not_into_a_full_buffer : (s x : List ℕ) (had r : ℕ) → length s ≤ had → x ≢ s → ¬ (ReadOn s had x r)
read_on_not_into_a_full_buffer s x had r l n h = n (sym (take_all had x (rw h.same_length l)) ∙ h.kept_front ∙ take_all had s l)

-- it fixes no result where there is room: that nothing was read and that all was are both allowed
pub read_on_leaves_open : (s : List ℕ) (had : ℕ) → had < length s → ReadOn s had s had × ReadOn s had s (length s)
read_on_leaves_open s had l = (
  record { same_length = refl; inside = omega arith; kept_front = refl; no_fewer = λ h. omega arith; full = λ h. omega arith },
  record { same_length = refl; inside = omega arith; kept_front = refl; no_fewer = λ h. omega arith; full = λ h. refl },
)
