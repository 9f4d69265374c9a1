-- The rules that the ledger runs: the very definitions of `steps` that the machine runs. The other files of this crate take a step's clauses and plans from here alone; the tests of a word and the value that is left, of which clauses are made, they also take from `steps`. Wrong.antt has rules with a fault
-- each; an edit of must-fail/ puts one of them here, in place of ours.

-- 2.
unfoldable pub use Rattle.steps.specs.Operation.{more_of}
pub use Rattle.steps.specs.Operation.{installed}
pub use Rattle.steps.specs.Operation.{install_word}
pub use Rattle.steps.specs.Operation.{install_by}
unfoldable pub use Rattle.steps.specs.Operation.{install}
unfoldable pub use Rattle.steps.specs.Operation.{install_clear}
-- 3, 4 and 5.
pub use Rattle.steps.specs.Operation.{persisted}
unfoldable pub use Rattle.steps.specs.Operation.{persist_clear}
pub use Rattle.steps.specs.Operation.{decide}
pub use Rattle.steps.specs.Operation.{settle}
pub use Rattle.steps.specs.Operation.{settle_clear}
-- 6 and 7.
unfoldable pub use Rattle.steps.specs.Operation.{swap}
pub use Rattle.steps.specs.Operation.{swapped, swap_done}
unfoldable pub use Rattle.steps.specs.Operation.{swap_clear}
pub use Rattle.steps.specs.Operation.{store_free}
-- all of an operation, and of a read
pub use Rattle.steps.specs.Operation.{plan_of}
pub use Rattle.steps.specs.Plan.{read_plan, read_clear_plan}
-- recovery: what it leaves in a word, its steps, and all of it
pub use Rattle.steps.specs.Plan.{left_value as recovered_value}
pub use Rattle.steps.specs.Recovery.{recovery_step}
unfoldable pub use Rattle.steps.specs.Recovery.{entry_step}
unfoldable pub use Rattle.steps.specs.Recovery.{end_step}
unfoldable pub use Rattle.steps.specs.Recovery.{live_step}
unfoldable pub use Rattle.steps.specs.Recovery.{recovery_plan}
