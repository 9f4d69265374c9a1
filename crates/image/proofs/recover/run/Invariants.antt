use mathlib.Core.Path.{◌≡◌}
use Prim.Native.Nat.{◌≤◌, ◌-◌}
use Rattle.image.specs.Good.{Good}
use Rattle.image.specs.Recover.{run_from}
use Rattle.steps.specs.declared.RecoveryPlace.TheVariants.{At}
use Rattle.image.proofs.RunLaws.{before, after_steps}
use Rattle.image.proofs.recover.run.Given as goal

abbrev pub invariant-loop-d : goal.invariant-loop-d
invariant-loop-d l =
    let n = l.sizes.words in
    let k = l.sizes.descriptors in
    (l.left ≤ l.allowance)
    × (Good n k l.image × (after_steps (l.allowance - l.left) (run_from l.left n k l.image (before k l.d)) ≡ run_from l.allowance n k l.initial.image (At 0 0)))
