-- For every public function: two results, and two final contents, that keep its promise coincide.
use Rattle.std.specs.Prelude.{◌≡◌, Bool, List, ℕ}
use Rattle.std.proofs.Common.{ap}
use Rattle.word.specs.Coincide.{coincide}
use Rattle.memory.specs.Block.{Block}
use Rattle.answers.specs.Put.{filled, put_of}
use Rattle.answers.specs.Coincide.{both}
use Rattle.play.specs.declared.Stage.{Stage}
use Rattle.play.specs.declared.Progress.{Progress}
use Rattle.play.specs.Reading.{over_in}
use Rattle.play.specs.Tick.{begun_in, closing}
use Rattle.play.specs.Done.{Done, done, played_into}

-- two memories, two answers, two outputs
abbrev progress_of : Done → Progress
progress_of d = record { stage = d.stage; used = d.used; written = d.output.end }

pub play : (m : Block) (stage : Stage) (input out : List ℕ) (y z : Block) (r s : Progress) (a b : List ℕ) → done y r a ≡ played_into m stage input out → done z s b ≡ played_into m stage input out
    → (y ≡ z) × (r ≡ s) × (a ≡ b)
play m stage input out y z r s a b e f =
    let c = coincide e f in
    (ap (λ (d : Done). d.memory) c, ap progress_of c, ap (λ (d : Done). d.output.bytes) c)

pub finish : (m : Block) (stage : Stage) (rest out x y : List ℕ) (r s : ℕ) → filled x r ≡ put_of out 0 (closing stage m rest) → filled y s ≡ put_of out 0 (closing stage m rest)
    → (x ≡ y) × (r ≡ s)
finish m stage rest out x y r s = both

pub has_begun : (stage : Stage) (r s : Bool) → r ≡ begun_in stage → s ≡ begun_in stage → r ≡ s
has_begun stage r s = coincide

pub is_over : (stage : Stage) (r s : Bool) → r ≡ over_in stage → s ≡ over_in stage → r ≡ s
is_over stage r s = coincide
