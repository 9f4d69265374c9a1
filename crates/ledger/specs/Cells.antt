-- Memory as functions: a word without its dirty bit, a status, a body, each in both copies; the workers; recovery's place.
-- (The dirty bit of a word plays no part in demand 3; that of a status does.)
use Rattle.std.specs.Prelude.{ℕ, ◌≡◌, List}
use Rattle.word.specs.declared.Sort.{Sort}
use Rattle.word.specs.declared.Sort.TheVariants.{Plain, Pointer, Neither}
use Rattle.word.specs.declared.Status.{Status}
use Rattle.steps.specs.declared.Entry.{Entry}
use Rattle.steps.specs.declared.Worker.{Worker}
use Rattle.steps.specs.declared.Worker.TheVariants.{Idle}
use Rattle.steps.specs.declared.RecoveryPlace.{RecoveryPlace}
use Rattle.steps.specs.declared.Effect.{Effect}
use Rattle.steps.specs.declared.Effect.TheVariants.{Nothing, StoreWord, BackWord, StoreStatus, BackStatus, BackBody}
use Rattle.memory.specs.declared.Copy.{Copy}
use Rattle.memory.specs.declared.Copy.TheVariants.{Cached, Persisted}
use Rattle.ledger.specs.Update.{upd, InBoth, upd_in}

-- a word, its dirty bit forgotten
pub data Cell : Type 0 where
  plain pointer neither : ℕ → Cell

abbrev pub cell_of : Sort → Cell
cell_of (Plain v dirty) = plain v
cell_of (Pointer d dirty) = pointer d
cell_of (Neither w) = neither w

-- the cell belongs to d
abbrev pub Belongs : ℕ → Cell → Type 0
Belongs d c = c ≡ pointer d

abbrev pub Body : Type 0
Body = List Entry

pub record Cells : Type 0 where
  pub word : InBoth Cell
  pub status : InBoth Status
  pub body : InBoth Body

pub record State : Type 0 where
  pub cells : Cells
  pub worker : ℕ → Worker
  pub recovery : RecoveryPlace

-- a change of one word, one status, one body
abbrev pub set_word : Cells → Copy → ℕ → Cell → Cells
set_word M c a x = record { word = upd_in M.word c a x; status = M.status; body = M.body }

abbrev pub set_status : Cells → Copy → ℕ → Status → Cells
set_status M c d s = record { word = M.word; status = upd_in M.status c d s; body = M.body }

abbrev pub set_body : Cells → Copy → ℕ → Body → Cells
set_body M c d b = record { word = M.word; status = M.status; body = upd_in M.body c d b }

-- the one effect of a step of d
abbrev pub applied : Cells → ℕ → Effect → Cells
applied M d Nothing = M
applied M d (StoreWord a s) = set_word M Cached a (cell_of s)
applied M d (BackWord a) = set_word M Persisted a (M.word Cached a)
applied M d (StoreStatus s) = set_status M Cached d s
applied M d BackStatus = set_status M Persisted d (M.status Cached d)
applied M d BackBody = set_body M Persisted d (M.body Cached d)

-- a crash: every cached copy becomes the persisted one
abbrev pub crashed_cells : Cells → Cells
crashed_cells M = record { word = λ c. M.word Persisted; status = λ c. M.status Persisted; body = λ c. M.body Persisted }

-- the whole state with other cells, another worker, another place of recovery
abbrev pub with_cells : State → Cells → State
with_cells s M = record { cells = M; worker = s.worker; recovery = s.recovery }

abbrev pub with_worker : State → ℕ → Worker → State
with_worker s w x = record { cells = s.cells; worker = upd s.worker w x; recovery = s.recovery }

abbrev pub with_recovery : State → RecoveryPlace → State
with_recovery s p = record { cells = s.cells; worker = s.worker; recovery = p }

abbrev pub all_idle : ℕ → Worker
all_idle w = Idle
