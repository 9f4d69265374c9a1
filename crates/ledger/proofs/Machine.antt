-- The machine on cells: what one event may do. It runs the plans of `steps` on whatever a step may see; what the table of refusals lets pass stands as premises.
use Rattle.std.specs.Prelude.{◌≡◌, ◌≢◌, Bool, true, false, [], ℕ, suc, ◌<◌, ◌≤◌, ◌/◌, length, Option}
use Rattle.word.specs.declared.Sort.{Sort}
use Rattle.word.specs.declared.Status.TheVariants.{Free}
use Rattle.steps.specs.declared.Place.{Place}
use Rattle.steps.specs.declared.Place as Place
use Rattle.steps.specs.declared.Own.{Own}
use Rattle.steps.specs.declared.Own.TheVariants.{Operation}
use Rattle.steps.specs.declared.Worker.{Worker}
use Rattle.steps.specs.declared.Worker.TheVariants.{Idle, Building, Working, Reading, ReadClear}
use Rattle.steps.specs.declared.RecoveryPlace.TheVariants.{Outside, At}
use Rattle.steps.specs.declared.Entry.{Entry}
use Rattle.steps.specs.declared.Seen.{Seen}
use Rattle.steps.specs.declared.Effect as F
use Rattle.steps.specs.declared.Plan.{Plan}
use Rattle.codes.specs.Place.{place_entry}
use Rattle.memory.specs.declared.Copy.TheVariants.{Cached, Persisted}
use Rattle.events.specs.declared.Event.{Event}
use Rattle.events.specs.declared.Event.TheVariants.{Open, Add, Remove, Submit, Discard, Read, Step, BackWord, BackStatus, BackBody, Crash, Recover}
use Rattle.events.specs.declared.Answer.{Answer}
use Rattle.events.specs.declared.Answer.TheVariants.{Ok, Opened, Refused}
use Rattle.events.specs.Build.{owner_of, owns}
use Rattle.machine.specs.Step.{on_job, is_store_free, worker_after, answer_of, read_after, read_answer}
use Rattle.machine.specs.Recover.{place_after, recovery_answer}
use Rattle.ledger.specs.Rules.{plan_of, read_plan, read_clear_plan, recovery_plan}
use Rattle.ledger.specs.Cells.{cell_of, Body, State, set_body, applied, crashed_cells, with_cells, with_worker, with_recovery, all_idle}
use Rattle.ledger.specs.Seen.{entry_at, Sees}
use Rattle.ledger.specs.Fits.{EntryFits}
use Rattle.steps.specs.declared.Next.{Next}
use Rattle.steps.specs.declared.ReadNext.{ReadNext}

-- b with the entry e put in at place i, between a lower address and a higher one
pub record PutIn (i : ℕ) (e : Entry) (b new : Body) : Type 0 where
  pub size : length new ≡ suc (length b)
  pub place : i ≤ length b
  pub here : entry_at new i ≡ e
  pub before : (j : ℕ) → j < i → entry_at new j ≡ entry_at b j
  pub after : (j : ℕ) → i ≤ j → j < length b → entry_at new (suc j) ≡ entry_at b j
  pub lower : (j : ℕ) → suc j ≡ i → (entry_at b j).address < e.address
  pub higher : i < length b → e.address < (entry_at b i).address

-- b with its entry i taken out
pub record TakenOut (i : ℕ) (b new : Body) : Type 0 where
  pub size : suc (length new) ≡ length b
  pub before : (j : ℕ) → j < i → entry_at new j ≡ entry_at b j
  pub after : (j : ℕ) → i ≤ j → j < length new → entry_at new j ≡ entry_at b (suc j)

-- the plans carried out
abbrev pub worker_done : State → ℕ → Own → ℕ → Place → Plan Next → State
worker_done s w o d p q = with_worker (with_cells s (applied s.cells d q.effect)) w (worker_after o d p q.next)

abbrev pub read_done : State → ℕ → ℕ → Plan ReadNext → State
read_done s w a q = with_worker (with_cells s (applied s.cells 0 q.effect)) w (read_after a q.next)

abbrev pub recovery_done : State → ℕ → ℕ → Plan (Option ℕ) → State
recovery_done s k d q = with_recovery (with_cells s (applied s.cells d q.effect)) (place_after k d q.next)

-- where Free is to be stored and is, no other worker is on d
abbrev pub Alone : State → ℕ → ℕ → Place → Bool → Type 0
Alone s w d p busy = is_store_free p ≡ true → busy ≡ false → (v : ℕ) → v ≢ w → on_job (s.worker v) d ≡ false

module _ (n k : ℕ) (s : State) where
  -- the worker may act, and is x
  pub record Acts (w : ℕ) (x : Worker) : Type 0 where
    pub below : w < 8
    pub outside : s.recovery ≡ Outside
    pub is : s.worker w ≡ x

  pub data Turn : Event → State → Answer → Type 0 where
    refused : (e : Event) (r : ℕ) → Turn e s (Refused r)
    opens : (w d : ℕ) → Acts w Idle → d < k → s.cells.status Cached d ≡ Free → s.cells.status Persisted d ≡ Free → ((v : ℕ) → owns (s.worker v) d ≡ false)
        → Turn (Open w) (with_worker (with_cells s (set_body s.cells Cached d [])) w (Building d)) (Opened d)
    adds : (w d i : ℕ) (e : Entry) (new : Body) → Acts w (Building d) → EntryFits n k e → PutIn i e (s.cells.body Cached d) new → length new ≤ 4
        → Turn (Add w e.address e.expected e.desired) (with_cells s (set_body s.cells Cached d new)) Ok
    removes : (w d a i : ℕ) (new : Body) → Acts w (Building d) → TakenOut i (s.cells.body Cached d) new → Turn (Remove w a) (with_cells s (set_body s.cells Cached d new)) Ok
    submits : (w d : ℕ) → Acts w (Building d) → 0 < length (s.cells.body Cached d) → Turn (Submit w) (with_worker s w (Working (Operation d) d Place.TheVariants.BackBody)) Ok
    discards : (w d : ℕ) → Acts w (Building d) → Turn (Discard w) (with_worker s w Idle) Ok
    begins : (w a : ℕ) → Acts w Idle → a < n → Turn (Read w a) (with_worker s w (Reading a)) Ok
    works : (w : ℕ) (o : Own) (d : ℕ) (p : Place) (x : Seen) (busy : Bool) → Acts w (Working o d p) → Sees s.cells Cached d (place_entry p) x → Alone s w d p busy
        → Turn (Step w) (worker_done s w o d p (plan_of p d x busy (owner_of o d))) (answer_of (plan_of p d x busy (owner_of o d)).next)
    reads : (w a : ℕ) (x : Sort) → Acts w (Reading a) → cell_of x ≡ s.cells.word Cached a
        → Turn (Step w) (read_done s w a (read_plan a x)) (read_answer (read_plan a x).next)
    clears : (w a v : ℕ) (x : Sort) → Acts w (ReadClear a v) → cell_of x ≡ s.cells.word Cached a
        → Turn (Step w) (read_done s w a (read_clear_plan a v x)) (read_answer (read_clear_plan a v x).next)
    backs_word : (a : ℕ) → a < n → Turn (BackWord a) (with_cells s (applied s.cells 0 (F.TheVariants.BackWord a))) Ok
    backs_status : (d : ℕ) → d < k → Turn (BackStatus d) (with_cells s (applied s.cells d F.TheVariants.BackStatus)) Ok
    backs_body : (d : ℕ) → d < k → Turn (BackBody d) (with_cells s (applied s.cells d F.TheVariants.BackBody)) Ok
    crashes : Turn Crash (record { cells = crashed_cells s.cells; worker = all_idle; recovery = At 0 0 }) Ok
    recovers : (d t : ℕ) (x : Seen) → s.recovery ≡ At d t → Sees s.cells Persisted d (t / 2) x
        → Turn Recover (recovery_done s k d (recovery_plan d t x)) (recovery_answer (place_after k d (recovery_plan d t x).next))
