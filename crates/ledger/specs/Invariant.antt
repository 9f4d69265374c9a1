-- The invariant of the whole machine on cells.
use Rattle.std.specs.Prelude.{◌≡◌, ◌≢◌, ◌⊎◌, Bool, ℕ, ◌+◌, ◌*◌, ◌/◌, ◌≤◌, ◌<◌, length}
use Rattle.word.specs.declared.Status.TheVariants.{Free}
use Rattle.steps.specs.declared.Worker.TheVariants.{Idle}
use Rattle.steps.specs.declared.RecoveryPlace.{RecoveryPlace}
use Rattle.steps.specs.declared.RecoveryPlace.TheVariants.{Outside, At}
use Rattle.memory.specs.declared.Copy.{Copy}
use Rattle.memory.specs.declared.Copy.TheVariants.{Cached, Persisted}
use Rattle.ledger.specs.Cells.{Belongs, Body, Cells, State}
use Rattle.ledger.specs.Fits.{CellsFit}
use Rattle.ledger.specs.Agree.{Agrees}
use Rattle.ledger.specs.Know.{Upto, Proper}
use Rattle.ledger.specs.Still.{Bodies}
use Rattle.ledger.specs.Workers.{Owns, WorkerKnows}

-- a live descriptor is below k, and its body is the one that was submitted
abbrev pub AsSent : ℕ → (ℕ → Body) → ℕ → Body → Type 0
AsSent k Sent d b = Proper b × (b ≡ Sent d) × (d < k)

-- recovery at descriptor d, t of its steps done: two for each entry behind it, the cached word first
pub record AtEntries (M : Cells) (d t : ℕ) : Type 0 where
  pub steps : t ≤ 2 * length (M.body Persisted d)
  pub alike : M.status Cached d ≡ M.status Persisted d
  -- a Free one is passed by at once
  pub begun : M.status Persisted d ≡ Free → t ≡ 0
  pub cached : Upto (M.body Persisted d) ((t + 1) / 2) (λ a. ¬ (Belongs d (M.word Cached a)))
  pub persisted : Upto (M.body Persisted d) (t / 2) (λ a. ¬ (Belongs d (M.word Persisted a)))

-- and then Free is stored
pub record AtEnd (M : Cells) (d t : ℕ) : Type 0 where
  pub steps : t ≡ 2 * length (M.body Persisted d) + 1
  pub cached : M.status Cached d ≡ Free

pub record Recovering (k : ℕ) (s : State) (d t : ℕ) : Type 0 where
  pub below : d < k
  pub quiet : (w : ℕ) → s.worker w ≡ Idle
  pub bodies : (e : ℕ) → s.cells.body Cached e ≡ s.cells.body Persisted e
  -- the descriptors behind are Free, those ahead are as the crash left them
  pub behind : (c : Copy) (e : ℕ) → e < d → s.cells.status c e ≡ Free
  pub ahead : (e : ℕ) → d < e → s.cells.status Cached e ≡ s.cells.status Persisted e
  pub here : AtEntries s.cells d t ⊎ AtEnd s.cells d t

-- outside recovery every live descriptor has an owner
abbrev pub Tended : State → Type 0
Tended s = (c : Copy) (d : ℕ) → s.cells.status c d ≢ Free → (v : ℕ) × Owns (s.worker v) d

abbrev pub Recovery : ℕ → State → RecoveryPlace → Type 0
Recovery k s Outside = Tended s
Recovery k s (At d t) = Recovering k s d t

pub record Invariant (n k : ℕ) (s : State) (L : ℕ → ℕ) (In : ℕ → Bool) (Differed : ℕ → Type 0) (Sent : ℕ → Body) : Type 0 where
  pub agrees : Agrees s.cells L In Differed
  pub fits : CellsFit n k s.cells
  pub bodies : Bodies (AsSent k Sent) s.cells
  -- no two workers own the same descriptor
  pub one : (v w d : ℕ) → Owns (s.worker v) d → Owns (s.worker w) d → v ≡ w
  pub know : (w : ℕ) → WorkerKnows n k s.cells In Differed Sent (s.worker w)
  pub beyond : (w : ℕ) → 8 ≤ w → s.worker w ≡ Idle
  pub place : Recovery k s s.recovery
