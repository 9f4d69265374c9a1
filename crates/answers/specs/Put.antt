-- A text is put into a buffer from a place on.
use Rattle.std.specs.Prelude.{cond, List, [], ◌∷◌, ℕ, ◌+◌, ltb, length, set}

-- what is left: the buffer's bytes, and the place after the last byte put
pub record Filled : Type 0 where
  pub bytes : List ℕ
  pub end : ℕ

abbrev pub filled : List ℕ → ℕ → Filled
filled out at = record { bytes = out; end = at }

-- byte after byte as long as there is room; where there is none, the rest is not put
unfoldable pub put_of : List ℕ → ℕ → List ℕ → Filled
put_of out at [] = filled out at
put_of out at (b ∷ bs) = cond (ltb at (length out)) (put_of (set out at b) (at + 1) bs) (filled out at)
