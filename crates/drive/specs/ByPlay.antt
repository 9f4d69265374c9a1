-- A call of `play_on` that is one call of `play`.
use Rattle.std.specs.Prelude.{◌≡◌, ◌⊎◌, false, List, ℕ}
use Rattle.play.specs.declared.Stage.{Stage}
use Rattle.play.specs.declared.Stage.TheVariants.{Over}
use Rattle.play.specs.declared.Progress.{Progress}
use Rattle.play.specs.Done.{done, played_into}

-- after a write: it went well, or reading is over
abbrev pub Written : Stage → Stage → Type 0
Written s t = (t ≡ s) ⊎ (t ≡ Over false)

-- from the block m and stage s, with the input x and the output out, to the block y, t and o, n bytes used; where the text could not be written, reading is over
pub record ByPlay (m : List ℕ) (s : Stage) (x out y : List ℕ) (t : Stage) (o : List ℕ) (n : ℕ) : Type 0 where
  pub progress : Progress
  pub played : done y progress o ≡ played_into m s x out
  pub used : n ≡ progress.used
  pub stage : Written progress.stage t
