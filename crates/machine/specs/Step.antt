-- Record 07: one step of a worker. What it sees, the plan of `steps`, its one effect on memory, and what the worker becomes.
use Rattle.std.specs.Prelude.{Bool, true, false, not, ◌&&◌, ◌||◌, ℕ, zero, suc, eqb}
use Rattle.steps.specs.declared.Place.{Place}
use Rattle.steps.specs.declared.Place.TheVariants.{BackBody, StoreUndecided, BackUndecided, Install, InstallClear, Persist, PersistClear, Decide, Settle, SettleClear, Swap, SwapBack, SwapClear, StoreFree, BackFree}
use Rattle.steps.specs.declared.Own.{Own}
use Rattle.steps.specs.declared.Own.TheVariants.{Operation, Read}
use Rattle.steps.specs.declared.Worker.{Worker}
use Rattle.steps.specs.declared.Worker.TheVariants.{Idle, Building, Working, Reading, ReadClear}
use Rattle.steps.specs.declared.Seen.{Seen}
use Rattle.steps.specs.declared.Effect as E
use Rattle.steps.specs.declared.Effect.{Effect}
use Rattle.steps.specs.declared.Effect.TheVariants.{Nothing, StoreWord, BackWord, StoreStatus, BackStatus}
use Rattle.steps.specs.declared.Next.{Next}
use Rattle.steps.specs.declared.Next.TheVariants.{Go, Help, Over, Wait, Answer}
use Rattle.steps.specs.declared.Plan.{Plan}
use Rattle.steps.specs.declared.ReadNext.{ReadNext}
use Rattle.steps.specs.declared.ReadNext.TheVariants.{Meet, Clear, Value}
use Rattle.steps.specs.Plan.{read_plan, read_clear_plan}
use Rattle.steps.specs.Operation.{plan_of}
use Rattle.codes.specs.Place.{place_entry}
use Rattle.memory.specs.declared.Copy.{Copy}
use Rattle.memory.specs.declared.Copy.TheVariants.{Cached}
use Rattle.memory.specs.Block.{Block}
use Rattle.memory.specs.Content.{word_in, put_word, back_word, status_in, put_status, back_status, count_in, entry_in, back_body, worker_in, put_worker}
use Rattle.events.specs.declared.Answer as A
use Rattle.events.specs.declared.Answer.TheVariants.{Moved, Helping, Waits, Answered, Shows, Refused}
use Rattle.events.specs.Left.{Left, left}
use Rattle.events.specs.Build.{owner_of}

-- what a step at entry i of d looks at: the status, the count and the entry from copy c; the cached word at that entry's address
unfoldable pub seen_in : Copy → Block → ℕ → ℕ → Seen
seen_in c m d i =
    record {
      status = status_in c m d;
      count = count_in c m d;
      entry = entry_in c m d i;
      word = word_in Cached m (entry_in c m d i).address;
    }

-- the one effect of a step of d
abbrev pub performed : Block → ℕ → Effect → Block
performed m d Nothing = m
performed m d (StoreWord a s) = put_word m a s
performed m d (BackWord a) = back_word m a
performed m d (StoreStatus s) = put_status m d s
performed m d BackStatus = back_status m d
performed m d E.TheVariants.BackBody = back_body m d

-- the worker's current job is d
abbrev pub on_job : Worker → ℕ → Bool
on_job Idle d = false
on_job (Building e) d = false
on_job (Working o e p) d = eqb e d
on_job (Reading a) d = false
on_job (ReadClear a v) d = false

-- 7 (section 5.1 of the paper): worker v, another than w, is on d; one of the first n workers is
unfoldable pub other_on : Block → ℕ → ℕ → ℕ → Bool
other_on m w d v = not (eqb v w) && on_job (worker_in m v) d

unfoldable pub others_on : Block → ℕ → ℕ → ℕ → Bool
others_on m w d zero = false
others_on m w d (suc n) = others_on m w d n || other_on m w d n

-- which is looked at only where Free is to be stored
abbrev pub is_store_free : Place → Bool
is_store_free BackBody = false
is_store_free StoreUndecided = false
is_store_free BackUndecided = false
is_store_free (Install i) = false
is_store_free (InstallClear i v) = false
is_store_free (Persist i) = false
is_store_free (PersistClear i) = false
is_store_free (Decide o) = false
is_store_free Settle = false
is_store_free SettleClear = false
is_store_free (Swap i) = false
is_store_free (SwapBack i) = false
is_store_free (SwapClear i) = false
is_store_free StoreFree = true
is_store_free (BackFree o) = false

abbrev pub busy_at : Block → ℕ → ℕ → Place → Bool
busy_at m w d p = is_store_free p && others_on m w d 8

-- its own job's start: install 0, or the read. (A3 14 starts the read again; line 14 of the paper's Algorithm 2 tries the same word again: that it is the first is 01's, "restarts its own job".)
abbrev pub start_of : Own → Worker
start_of (Operation d) = Working (Operation d) d (Install 0)
start_of (Read a) = Reading a

-- what a worker becomes that owns o and was at place p of operation e
abbrev pub worker_after : Own → ℕ → Place → Next → Worker
worker_after o e p (Go q) = Working o e q
worker_after o e p (Help f) = Working o f (Install 0)
worker_after o e p Over = start_of o
worker_after o e p Wait = Working o e p
worker_after o e p (Answer r) = Idle

abbrev pub answer_of : Next → A.Answer
answer_of (Go p) = Moved
answer_of (Help e) = Helping e
answer_of Over = Moved
answer_of Wait = Waits
answer_of (Answer r) = Answered r

-- a step of operation e, at place p, of a worker that owns o
unfoldable pub plan_at : Block → ℕ → Own → ℕ → Place → Plan Next
plan_at m w o e p = plan_of p e (seen_in Cached m e (place_entry p)) (busy_at m w e p) (owner_of o e)

abbrev pub arrived : Block → ℕ → Own → ℕ → Place → Next → Left
arrived m w o e p n = left (put_worker m w (worker_after o e p n)) (answer_of n)

abbrev pub carried_out : Block → ℕ → Own → ℕ → Place → Plan Next → Left
carried_out m w o e p q = arrived (performed m e q.effect) w o e p q.next

unfoldable pub work_step : Block → ℕ → Own → ℕ → Place → Left
work_step m w o e p = carried_out m w o e p (plan_at m w o e p)

-- a step of a read of a; its effects name a word alone, so that the descriptor 0 of `performed` is not looked at
abbrev pub read_after : ℕ → ReadNext → Worker
read_after a (Meet e) = Working (Read a) e (Install 0)
read_after a (Clear v) = ReadClear a v
read_after a (Value v) = Idle

abbrev pub read_answer : ReadNext → A.Answer
read_answer (Meet e) = Helping e
read_answer (Clear v) = Moved
read_answer (Value v) = Shows v

abbrev pub read_out : Block → ℕ → ℕ → Plan ReadNext → Left
read_out m w a q = left (put_worker (performed m 0 q.effect) w (read_after a q.next)) (read_answer q.next)

unfoldable pub read_step : Block → ℕ → ℕ → Left
read_step m w a = read_out m w a (read_plan a (word_in Cached m a))

unfoldable pub read_clear_step : Block → ℕ → ℕ → ℕ → Left
read_clear_step m w a v = read_out m w a (read_clear_plan a v (word_in Cached m a))

-- a step of the worker w, which is x (one that runs nothing has been refused 16 before, by its table)
abbrev pub step_of : Block → ℕ → Worker → Left
step_of m w Idle = left m (Refused 16)
step_of m w (Building d) = left m (Refused 16)
step_of m w (Working o e p) = work_step m w o e p
step_of m w (Reading a) = read_step m w a
step_of m w (ReadClear a v) = read_clear_step m w a v
