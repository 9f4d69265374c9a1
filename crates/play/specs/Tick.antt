-- `tick`: the whole output for the whole input (document 01, "Schedule records", "Answer lines of `tick`").
use Rattle.std.specs.Prelude.{ℕ, zero, suc, ◌+◌, ◌-◌, ◌^◌, Bool, true, false, cond, List, [], ◌∷◌, ◌++◌, eqb, length, drop}
use Rattle.memory.specs.Block.{Block}
use Rattle.memory.specs.declared.Sizes.{Sizes}
use Rattle.memory.specs.Fresh.{zeros, fresh_of}
use Rattle.events.specs.declared.Answer.TheVariants.{Ok, Refused}
use Rattle.events.specs.Left.{Left}
use Rattle.machine.specs.Apply.{apply_of}
use Rattle.schedule.specs.declared.Head.{Head}
use Rattle.schedule.specs.declared.Head.TheVariants.{Record, Unknown, Short, End}
use Rattle.schedule.specs.Record.{head_of, body_of, refusal_of}
use Rattle.schedule.specs.Content.{event_of, setup_of}
use Rattle.answers.specs.Line.{line_of, last_line}
use Rattle.play.specs.declared.Stage.{Stage}
use Rattle.play.specs.declared.Stage.TheVariants.{First, At, Over}

-- "its number from 0": the number after i; the count stands still at the greatest, 2^64 - 1
unfoldable pub number_after : ℕ → ℕ
number_after i = cond (eqb i (2 ^ 64 - 1)) i (i + 1)

-- the number of the record that is to be read
abbrev pub number_in : Stage → ℕ
number_in First = 0
number_in (At i) = i
number_in (Over good) = 0

-- there was a good setup
abbrev pub begun_in : Stage → Bool
begun_in First = false
begun_in (At i) = true
begun_in (Over good) = good

-- what a record leaves: the memory, where reading stands, its line
pub record Turn : Type 0 where
  pub memory : Block
  pub stage : Stage
  pub line : List ℕ

abbrev pub turn : Block → Stage → List ℕ → Turn
turn m s l = record { memory = m; stage = s; line = l }

-- "Refusals 1 to 3 end reading"
abbrev pub refused_turn : Block → Stage → ℕ → Turn
refused_turn m s r = turn m (Over (begun_in s)) (line_of (number_in s) (Refused r))

-- 00: the setup; 1 where a number is outside its range
abbrev pub begun_turn : Bool → Block → Turn
begun_turn true m = turn m (At 1) (line_of 0 Ok)
begun_turn false m = refused_turn m First 1

abbrev pub setup_turn : Block → Sizes → Turn
setup_turn m x = begun_turn (fresh_of m x.n x.k x.w).accepted (fresh_of m x.n x.k x.w).memory

-- 01 to 0C: an event
abbrev pub left_turn : ℕ → Left → Turn
left_turn i x = turn x.memory (At (number_after i)) (line_of i x.answer)

abbrev pub event_turn : Block → ℕ → ℕ → List ℕ → Turn
event_turn m i kind body = left_turn i (apply_of m (event_of kind body))

-- a record; the first is the setup
abbrev pub record_turn : Block → Stage → ℕ → List ℕ → Turn
record_turn m First kind body = setup_turn m (setup_of body)
record_turn m (At i) kind body = event_turn m i kind body
record_turn m (Over good) kind body = turn m (Over good) []

-- what playing some input leaves: the memory, where reading stands, the lines, how many bytes were used
pub record Played : Type 0 where
  pub memory : Block
  pub stage : Stage
  pub text : List ℕ
  pub used : ℕ

abbrev pub rests : Block → Stage → Played
rests m s = record { memory = m; stage = s; text = []; used = 0 }

-- after a turn that used so many bytes, the rest is played
abbrev pub goes_on : Turn → ℕ → (Block → Stage → Played) → Played
goes_on t used rest =
    record {
      memory = (rest t.memory t.stage).memory;
      stage = (rest t.memory t.stage).stage;
      text = t.line ++ (rest t.memory t.stage).text;
      used = used + (rest t.memory t.stage).used;
    }

-- by what stands at the front of the input; a record that is cut short is played when more of the input is there, or refused at its end
abbrev pub play_head : Block → Stage → List ℕ → Head → (ℕ → Block → Stage → Played) → Played
play_head m s x (Record kind n) rest = goes_on (record_turn m s kind (body_of x 0 kind)) (suc n) (rest (suc n))
play_head m s x Unknown rest = goes_on (refused_turn m s (refusal_of Unknown)) 0 (λ y t. rests y t)
play_head m s x Short rest = rests m s
play_head m s x End rest = rests m s

-- at most so many records from the front of the input
unfoldable pub play_of : ℕ → Block → Stage → List ℕ → Played
play_of zero m s x = rests m s
play_of (suc t) m First x = play_head m First x (head_of false x 0) (λ n y z. play_of t y z (drop n x))
play_of (suc t) m (At i) x = play_head m (At i) x (head_of true x 0) (λ n y z. play_of t y z (drop n x))
play_of (suc t) m (Over good) x = rests m (Over good)

-- "the last line is absent when there was no good setup"
abbrev pub last_if : Bool → Block → List ℕ
last_if true m = last_line m
last_if false m = []

-- at the end of the input, with these bytes left of which nothing can be played: 2 where it is empty or ends inside a record; the last line if there was a good setup
abbrev pub closing : Stage → Block → List ℕ → List ℕ
closing First m rest = line_of 0 (Refused 2)
closing (At i) m [] = last_line m
closing (At i) m (b ∷ bs) = line_of i (Refused 2) ++ last_line m
closing (Over good) m rest = last_if good m

-- all that is still to be written, with this input to come
abbrev pub out_of : Block → Stage → List ℕ → List ℕ
out_of m s x =
    (play_of (length x) m s x).text
    ++ closing (play_of (length x) m s x).stage (play_of (length x) m s x).memory (drop (play_of (length x) m s x).used x)

-- the entire output for the entire input
abbrev pub tick_of : List ℕ → List ℕ
tick_of x = out_of zeros First x
