-- The numbers of the refusals 1 to 17 (document 01).
use Rattle.std.specs.Prelude.{ℕ}
use Rattle.events.specs.declared.Refusal.{Refusal}
use Rattle.events.specs.declared.Refusal.TheVariants.{BadSizes, Short, UnknownKind, NoWorker, InRecovery, OutsideRecovery, OwnsSomething, NotBuilding, NoneQualifies, NoAddress, TooLarge, FifthWord, AlreadyAdded, NotThere, CountZero, RunsNothing, NoDescriptor}

abbrev pub number : Refusal → ℕ
number BadSizes = 1
number Short = 2
number UnknownKind = 3
number NoWorker = 4
number InRecovery = 5
number OutsideRecovery = 6
number OwnsSomething = 7
number NotBuilding = 8
number NoneQualifies = 9
number NoAddress = 10
number TooLarge = 11
number FifthWord = 12
number AlreadyAdded = 13
number NotThere = 14
number CountZero = 15
number RunsNothing = 16
number NoDescriptor = 17
