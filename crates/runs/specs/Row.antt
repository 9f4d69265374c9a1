-- A run with a known answer (document 01, "Runs with known answers"): the bytes of a schedule, and the whole output of `tick`.
use Rattle.std.specs.Prelude.{◌≡◌, List, [], ◌∷◌, ℕ}
use Rattle.play.specs.Tick.{tick_of}

pub record Row : Type 0 where
  pub input : List ℕ
  pub output : List ℕ

abbrev pub run : List ℕ → List ℕ → Row
run x y = record { input = x; output = y }

-- the output, byte for byte, is what the row says
abbrev pub Every : List Row → Type 0
Every [] = Unit {0}
Every (r ∷ rs) = (tick_of r.input ≡ r.output) × Every rs
