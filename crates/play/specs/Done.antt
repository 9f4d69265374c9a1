-- What `play` leaves of what it is lent, and answers.
use Rattle.std.specs.Prelude.{ℕ, ◌+◌, ◌/◌, List, Bool, length}
use Rattle.schedule.specs.Record.{head_of}
use Rattle.memory.specs.Block.{Block}
use Rattle.answers.specs.Put.{Filled, filled, put_of}
use Rattle.play.specs.declared.Stage.{Stage}
use Rattle.play.specs.declared.Progress.{Progress}
use Rattle.play.specs.Tick.{Turn, Played, rests, play_head, play_of}

-- the memory; where reading stands; the bytes used; the output, filled from its start
pub record Done : Type 0 where
  pub memory : Block
  pub stage : Stage
  pub used : ℕ
  pub output : Filled

abbrev pub done : Block → Progress → List ℕ → Done
done m r out = record { memory = m; stage = r.stage; used = r.used; output = filled out r.written }

-- nothing read, nothing written
abbrev pub stayed : Stage → ℕ → ℕ → Progress
stayed s at to = record { stage = s; used = at; written = to }

-- going on at a place of the input and a place of the output
abbrev pub done_from : List ℕ → ℕ → ℕ → Played → Done
done_from out to at p = record { memory = p.memory; stage = p.stage; used = at + p.used; output = put_of out to p.text }

-- one record, before the setup or after it
abbrev pub once_at : Block → Stage → Bool → List ℕ → Played
once_at m s started x = play_head m s x (head_of started x 0) (λ n y z. rests y z)

-- a line is at most 45 bytes long: the output has room for the lines of so many records
abbrev pub turns_for : List ℕ → ℕ
turns_for out = length out / 48

-- what one record leaves: the memory, where reading stands, the output with its line
abbrev pub turned : Progress → List ℕ → Turn → Done
turned p out t = record { memory = t.memory; stage = t.stage; used = p.used; output = put_of out p.written t.line }

unfoldable pub played_into : Block → Stage → List ℕ → List ℕ → Done
played_into m s x out = done_from out 0 0 (play_of (turns_for out) m s x)
