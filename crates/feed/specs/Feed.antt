-- Bytes that are kept go to the start of the buffer.
use Rattle.std.specs.Prelude.{ℕ, zero, suc, ◌+◌, ◌-◌, cond, List, ltb, leb, length, get_or, set}

pub record Kept : Type 0 where
  pub bytes : List ℕ
  pub many : ℕ

abbrev pub kept : List ℕ → ℕ → Kept
kept s n = record { bytes = s; many = n }

-- n bytes from a place on, one after the other
unfoldable pub moved : List ℕ → ℕ → ℕ → List ℕ
moved s from zero = s
moved s from (suc i) = set (moved s from i) i (get_or (moved s from i) (from + i) 0)

-- none where the places are not in order, or not in the buffer
unfoldable pub kept_of : List ℕ → ℕ → ℕ → Kept
kept_of s from to =
    cond (ltb (length s) to) (kept s 0)
    (cond (leb to from) (kept s 0) (kept (moved s from (to - from)) (to - from)))
