-- What an event leaves: the memory, and the answer.
use Rattle.memory.specs.Block.{Block}
use Rattle.events.specs.declared.Answer.{Answer}

pub record Left : Type 0 where
  pub memory : Block
  pub answer : Answer

abbrev pub left : Block → Answer → Left
left m r = record { memory = m; answer = r }
