-- RECOVERY TAKES "2c+2 STEPS FOR COUNT c, AT MOST 160 IN ALL" (document 01, "The steps of an operation d"), stated of the machine: of the events after a crash and before the next one,
-- whatever write-backs and refused events stand between, at most 160 are steps of recovery that are taken; and recovery is over exactly when all have been taken that the crash left to be done.
use Rattle.std.specs.Prelude.{◌≡◌, true, cond, List, ℕ, zero, suc, ◌+◌, ◌<◌, ◌≤◌, ltb, length, get_or}
use Rattle.steps.specs.declared.RecoveryPlace.TheVariants.{Outside}
use Rattle.memory.specs.declared.Copy.TheVariants.{Persisted}
use Rattle.memory.specs.Block.{Block}
use Rattle.memory.specs.Content.{status_in, count_in, recovery_in}
use Rattle.memory.specs.Fresh.{good_sizes}
use Rattle.events.specs.declared.Event.{Event}
use Rattle.events.specs.declared.Event.TheVariants.{Crash}
use Rattle.events.specs.declared.Answer.{Answer}
use Rattle.events.specs.declared.Answer.TheVariants.{Ok, Opened, Moved, Helping, Waits, Answered, Shows, Recovering, Recovered, Refused}
use Rattle.machine.specs.Apply.{apply_of}
use Rattle.image.specs.StepCount.{Held, steps_from}
use Rattle.ledger.specs.Statement.{memory_at, Happens}

-- 1 for a step of recovery that is taken, else 0: no other event is answered A or Z
abbrev pub step_in : Answer → ℕ
step_in Ok = 0
step_in (Opened d) = 0
step_in Moved = 0
step_in (Helping e) = 0
step_in Waits = 0
step_in (Answered o) = 0
step_in (Shows v) = 0
step_in Recovering = 1
step_in Recovered = 1
step_in (Refused r) = 0

module _ (n k w : ℕ) (es : List Event) where
  -- 1 where event i is there and is answered A or Z, else 0; the sum of these for the j events from event i on
  abbrev pub step_at : ℕ → ℕ
  step_at i = cond (ltb i (length es)) (step_in (apply_of (memory_at n k w es i) (get_or es i Crash)).answer) 0

  unfoldable pub steps_among : ℕ → ℕ → ℕ
  steps_among i zero = 0
  steps_among i (suc j) = steps_among i j + step_at (i + j)

-- what a crash leaves to be done, by persisted statuses and counts: "Free: one step", else "2c+2 steps for count c" (`steps_for`, which the steps of an image are counted by too)
abbrev pub held_in : Block → Held
held_in m = record { status = status_in Persisted m; count = count_in Persisted m }

abbrev pub steps_of : ℕ → Block → ℕ
steps_of k m = steps_from k (held_in m) 0

-- event i is a crash, and none of the j events after it is one: at most 160 of them are steps of recovery that are taken
abbrev pub AtMost160 : Type 0
AtMost160 = (n k w : ℕ) → good_sizes n k w ≡ true → (es : List Event) (i j : ℕ) → Happens n k w es i Crash Ok
    → ((t : ℕ) → i < t → t ≤ i + j → ¬ (Happens n k w es t Crash Ok)) → steps_among n k w es (suc i) j ≤ 160

-- the same; then recovery is outside where, and only where, all those steps have been taken
abbrev pub Exactly : Type 0
Exactly = (n k w : ℕ) → good_sizes n k w ≡ true → (es : List Event) (i j : ℕ) → Happens n k w es i Crash Ok
    → ((t : ℕ) → i < t → t ≤ i + j → ¬ (Happens n k w es t Crash Ok))
    → (recovery_in (memory_at n k w es (suc i + j)) ≡ Outside → steps_among n k w es (suc i) j ≡ steps_of k (memory_at n k w es (suc i)))
    × (steps_among n k w es (suc i) j ≡ steps_of k (memory_at n k w es (suc i)) → recovery_in (memory_at n k w es (suc i + j)) ≡ Outside)
