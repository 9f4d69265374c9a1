-- The machine: `apply_of` for one event, `after_of` for a list of them.
use Rattle.std.specs.Prelude.{List, [], ◌∷◌, ℕ, zero, suc, Result, Err}
use Rattle.std.specs.Prelude as Std
use Rattle.memory.specs.Block.{Block}
use Rattle.memory.specs.Content.{back_word, back_status, back_body, worker_in, recovery_in}
use Rattle.memory.specs.Fresh.{sizes_in}
use Rattle.memory.specs.declared.Copy.TheVariants.{Cached}
use Rattle.memory.specs.Value.{entry_for}
use Rattle.events.specs.declared.Event.{Event}
use Rattle.events.specs.declared.Event.TheVariants.{Open, Add, Remove, Submit, Discard, Read, Step, BackWord, BackStatus, BackBody, Crash, Recover}
use Rattle.events.specs.declared.Answer.{Answer}
use Rattle.events.specs.declared.Answer.TheVariants.{Ok, Refused}
use Rattle.events.specs.Left.{Left, left}
use Rattle.events.specs.declared.Refusal.{Refusal}
use Rattle.events.specs.Number.{number}
use Rattle.events.specs.Refusal.{refusal_of}
use Rattle.events.specs.Build.{lowest_below, opened, build_of, added, removed_at, submitted, discarded, reading}
use Rattle.machine.specs.Step.{step_of}
use Rattle.machine.specs.Recover.{crashed, recover_of}

-- an event that is not refused
abbrev pub acted : Block → Event → Left
acted m (Open w) = opened m w (lowest_below m (sizes_in m).k)
acted m (Add w a x y) = left (added m (build_of (worker_in m w)) (record { address = a; expected = x; desired = y })) Ok
acted m (Remove w a) = left (removed_at m (build_of (worker_in m w)) (entry_for Cached m (build_of (worker_in m w)) a)) Ok
acted m (Submit w) = left (submitted m w (build_of (worker_in m w))) Ok
acted m (Discard w) = left (discarded m w) Ok
acted m (Read w a) = left (reading m w a) Ok
acted m (Step w) = step_of m w (worker_in m w)
acted m (BackWord a) = left (back_word m a) Ok
acted m (BackStatus d) = left (back_status m d) Ok
acted m (BackBody d) = left (back_body m d) Ok
acted m Crash = left (crashed m) Ok
acted m Recover = recover_of m (sizes_in m).k (recovery_in m)

-- a refusal changes nothing
abbrev pub unless_refused : ℕ → Block → Event → Left
unless_refused zero m e = acted m e
unless_refused (suc r) m e = left m (Refused (suc r))

unfoldable pub apply_of : Block → Event → Left
apply_of m e = unless_refused (refusal_of m e) m e

-- the answer of an attempt: its own, or the refusal's number
abbrev pub answer : Result Answer Refusal → Answer
answer (Std.Ok a) = a
answer (Err r) = Refused (number r)

-- after a list of events: the memory, and all the answers
pub record Run : Type 0 where
  pub memory : Block
  pub answers : List Answer

abbrev pub onward : Left → (Block → Run) → Run
onward d f = record { memory = (f d.memory).memory; answers = d.answer ∷ (f d.memory).answers }

abbrev pub after_of : Block → List Event → Run
after_of m [] = record { memory = m; answers = [] }
after_of m (e ∷ es) = onward (apply_of m e) (λ x. after_of x es)
