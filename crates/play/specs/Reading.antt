-- Whether reading goes on.
use Rattle.std.specs.Prelude.{Bool, true, false}
use Rattle.play.specs.declared.Stage.{Stage}
use Rattle.play.specs.declared.Stage.TheVariants.{First, At, Over}

-- "Refusals 1 to 3 end reading"
abbrev pub over_in : Stage → Bool
over_in First = false
over_in (At i) = false
over_in (Over good) = true
