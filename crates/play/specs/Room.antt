-- The output has room: what `play` and `finish` put into it is all of the text.
use Rattle.std.specs.Prelude.{◌≡◌, refl, Bool, true, false, List, [], ◌∷◌, ℕ, zero, suc, ◌+◌, ◌*◌, ◌≤◌, length, take, drop}
use Rattle.std.proofs.Common.{ap, ◌∙◌, length-append}
use native.Mathlib.Omega.{arith}
use Rattle.memory.specs.Block.{Block}
use Rattle.memory.specs.Fresh.{fresh_of}
use Rattle.events.specs.declared.Answer.TheVariants.{Ok, Refused}
use Rattle.machine.specs.Apply.{apply_of}
use Rattle.schedule.specs.declared.Head.{Head}
use Rattle.schedule.specs.declared.Head.TheVariants.{Record, Unknown, Short, End}
use Rattle.schedule.specs.Record.{body_of}
use Rattle.schedule.specs.Content.{event_of, setup_of}
use Rattle.answers.specs.Put.{put_of}
use Rattle.answers.specs.PutLaws.{put_end, put_before}
use Rattle.answers.specs.LineLaws.{line_length, last_length}
use Rattle.play.specs.declared.Stage.{Stage}
use Rattle.play.specs.declared.Stage.TheVariants.{First, At, Over}
use Rattle.play.specs.Tick.{number_in, begun_turn, record_turn, play_of, closing}
use Rattle.play.specs.declared.Progress.{Progress}
use Rattle.play.specs.Done.{Done, done, turns_for, played_into}
use Rattle.play.specs.Split.{head_for, zero_rests, short_rests, end_rests, record_goes, unknown_ends, play_used}

-- a record gives at most one line
begun_line : (b : Bool) (m : Block) → length (begun_turn b m).line ≤ 45
begun_line true m = line_length 0 Ok
begun_line false m = line_length 0 (Refused 1)

pub turn_line : (m : Block) (s : Stage) (kind : ℕ) (body : List ℕ) → length (record_turn m s kind body).line ≤ 45
turn_line m First kind body = let x = setup_of body in begun_line (fresh_of m x.n x.k x.w).accepted (fresh_of m x.n x.k x.w).memory
turn_line m (At i) kind body = line_length i (apply_of m (event_of kind body)).answer
turn_line m (Over good) kind body = omega arith

pub text_length : (t : ℕ) (m : Block) (s : Stage) (x : List ℕ) → length (play_of t m s x).text ≤ 45 * t
text_length zero m s x = rw (zero_rests m s x) (omega arith)
text_length (suc t) m s x = go (head_for s x) refl (λ y z n. text_length t y z (drop n x))
  where
    go : (h : Head) → head_for s x ≡ h → ((y : Block) (z : Stage) (n : ℕ) → length (play_of t y z (drop n x)).text ≤ 45 * t)
        → length (play_of (suc t) m s x).text ≤ 45 * suc t
    go (Record kind n) e ih =
        let r = record_turn m s kind (body_of x 0 kind) in
        let a = turn_line m s kind (body_of x 0 kind) in
        let b = ih r.memory r.stage (suc n) in
        rw (record_goes t m s x kind n e) (simp length-append (omega arith))
    go Unknown e ih = let a = line_length (number_in s) (Refused 3) in rw (unknown_ends t m s x e) (simp length-append (omega arith))
    go Short e ih = rw (short_rests (suc t) m s x e) (omega arith)
    go End e ih = rw (end_rests (suc t) m s x e) (omega arith)

-- what `play` put into the output, from its start to the place it answers, is the text, all of it
module _ (m : Block) (s : Stage) (x out : List ℕ) where
  room : 0 + length (play_of (turns_for out) m s x).text ≤ length out
  room = let a = text_length (turns_for out) m s x in omega arith

  pub written_end : (played_into m s x out).output.end ≡ length (play_of (turns_for out) m s x).text
  unfolding played_into
  written_end = put_end (play_of (turns_for out) m s x).text out 0 room ∙ omega arith

  pub written_text : take (played_into m s x out).output.end (played_into m s x out).output.bytes ≡ (play_of (turns_for out) m s x).text
  unfolding played_into
  written_text = put_before (play_of (turns_for out) m s x).text out 0 room

  pub used_fits : (played_into m s x out).used ≤ length x
  unfolding played_into
  used_fits = let a = play_used (turns_for out) m s x in omega arith

  pub written_fits : (played_into m s x out).output.end ≤ length out
  written_fits = let a = written_end in let b = room in omega arith

-- so far and no further: the answer of `play` stays inside what it is lent
pub progress_fits : (m y : Block) (s : Stage) (x out z : List ℕ) (r : Progress) → done y r z ≡ played_into m s x out
    → (r.used ≤ length x) × (r.written ≤ length out)
progress_fits m y s x out z r e =
    let u : r.used ≡ (played_into m s x out).used = ap (λ (d : Done). d.used) e in
    let w : r.written ≡ (played_into m s x out).output.end = ap (λ (d : Done). d.output.end) e in
    (rw u (used_fits m s x out), rw w (written_fits m s x out))

-- and `finish` needs no more than 1391 bytes
pub closing_length : (s : Stage) (m : Block) (rest : List ℕ) → length (closing s m rest) ≤ 1391
closing_length First m rest = let a = line_length 0 (Refused 2) in omega arith
closing_length (At i) m [] = let a = last_length m in omega arith
closing_length (At i) m (b ∷ rest) = let a = last_length m in let c = line_length i (Refused 2) in simp length-append (omega arith)
closing_length (Over true) m rest = let a = last_length m in omega arith
closing_length (Over false) m rest = omega arith

-- all of it is put where the output has room
pub closing_text : (s : Stage) (m : Block) (rest out : List ℕ) → 1391 ≤ length out
    → take (put_of out 0 (closing s m rest)).end (put_of out 0 (closing s m rest)).bytes ≡ closing s m rest
closing_text s m rest out h = let a = closing_length s m rest in put_before (closing s m rest) out 0 (omega arith)
