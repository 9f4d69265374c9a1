-- For every public function: two results, or two results and two final contents, that keep its promise coincide.
use Rattle.std.specs.Prelude.{◌≡◌}
use Rattle.memory.specs.Block.{Block}
use Rattle.events.specs.declared.Event.{Event}
use Rattle.events.specs.declared.Answer.{Answer}
use Rattle.events.specs.Left.{left}
use Rattle.events.specs.Coincide.{both}
use Rattle.machine.specs.Apply.{apply_of}

pub apply : (m : Block) (e : Event) (x y : Block) (r s : Answer) → left x r ≡ apply_of m e → left y s ≡ apply_of m e → (x ≡ y) × (r ≡ s)
apply m e x y r s = both
