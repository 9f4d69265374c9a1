-- What `tick` writes, record by record: the setup's line, then a line for each event of the schedule, then the refusal that ended reading, if one did, and the last line of the memory after the events.
use Rattle.std.specs.Prelude.{◌≡◌, refl, Bool, true, false, cond, ℕ, zero, suc, ◌+◌, ◌-◌, ◌^◌, ◌≤◌, ◌<◌, eqb, length, drop}
use Rattle.std.proofs.Common.{sym, ◌∙◌, ap, arith, length-drop, eqb-true}
use mathlib.Core.List.{List, [], ◌∷◌, ◌++◌, flatten, append-nil}
use Rattle.std.proofs.lemmas.Bool.{eqb-false}
use Rattle.memory.specs.Block.{Block}
use Rattle.memory.specs.Fresh.{zeros, fresh_block, fresh_of}
use Rattle.events.specs.declared.Event.{Event}
use Rattle.events.specs.declared.Answer.TheVariants.{Ok, Refused}
use Rattle.machine.specs.Apply.{apply_of, after_of}
use Rattle.schedule.specs.declared.Head.{Head}
use Rattle.schedule.specs.declared.Head.TheVariants.{Record, Unknown, Short, End}
use Rattle.schedule.specs.Record.{head_of, body_of}
use Rattle.schedule.specs.Content.{event_of}
use Rattle.schedule.specs.Laws.{short_says, end_says}
use Rattle.answers.specs.Line.{line_of, last_line}
use Rattle.play.specs.declared.Stage.{Stage}
use Rattle.play.specs.declared.Stage.TheVariants.{First, At, Over}
use Rattle.play.specs.Tick.{number_after, number_in, begun_in, Turn, turn, refused_turn, setup_turn, record_turn, Played, play_of, last_if, closing, out_of, tick_of}
use Rattle.play.specs.Split.{and_then, turn_played, head_for, then_rests, zero_rests, over_rests, record_goes, unknown_ends, short_rests, end_rests, none_left, front}
use Rattle.play.specs.Pieces.{out_on}
use Rattle.ledger.specs.OverBytes.{GoodSetup, Schedule, ends, read_by, read_of, schedule_of, number_of, answer_lines, refusal_line}

-- what is written from a play on
abbrev pub onward : List ℕ → Played → List ℕ
onward x p = p.text ++ out_of p.memory p.stage (drop p.used x)

abbrev closed : List ℕ → Played → List ℕ
closed x p = p.text ++ closing p.stage p.memory (drop p.used x)

-- by what stands at the front: a record, a kind that is none, a record that is cut short, nothing
module _ (m : Block) (s : Stage) (x : List ℕ) where
  out_once : out_of m s x ≡ onward x (play_of 1 m s x)
  out_once =
      let p = play_of 1 m s x in
      ap (out_of m s) (sym (append-nil x)) ∙ out_on 1 m s x [] ∙ ap (λ (y : List ℕ). p.text ++ out_of p.memory p.stage y) (append-nil (drop p.used x))

  pub out_record : (kind n : ℕ) → head_for s x ≡ Record kind n → out_of m s x ≡ onward x (turn_played (record_turn m s kind (body_of x 0 kind)) (suc n))
  out_record kind n e =
      let t = record_turn m s kind (body_of x 0 kind) in
      out_once ∙ ap (onward x) (record_goes 0 m s x kind n e ∙ ap (and_then (turn_played t (suc n))) (zero_rests t.memory t.stage (drop (suc n) x)) ∙ then_rests (turn_played t (suc n)))

  pub out_over : (good : Bool) → out_of m (Over good) x ≡ last_if good m
  out_over good = ap (closed x) (over_rests (length x) m good x)

  pub out_short : head_for s x ≡ Short → out_of m s x ≡ closing s m x
  out_short e = ap (closed x) (short_rests (length x) m s x e)

  pub out_end : head_for s x ≡ End → out_of m s x ≡ closing s m x
  out_end e = ap (closed x) (end_rests (length x) m s x e)

pub out_unknown : (m : Block) (s : Stage) (x : List ℕ) → head_for s x ≡ Unknown → out_of m s x ≡ line_of (number_in s) (Refused 3) ++ last_if (begun_in s) m
out_unknown m s x e =
    let t = refused_turn m s 3 in
    out_once m s x ∙ ap (onward x) (unknown_ends 0 m s x e ∙ then_rests (turn_played t 0)) ∙ ap (λ (y : List ℕ). t.line ++ y) (out_over m s x (begun_in s))

-- where reading ends after the setup
closing_short : (i : ℕ) (m : Block) (x : List ℕ) → 0 < length x → closing (At i) m x ≡ line_of i (Refused 2) ++ last_line m
closing_short i m [] l = absurd (omega arith)
closing_short i m (b ∷ x) l = refl

closing_end : (i : ℕ) (m : Block) (x : List ℕ) → length x ≤ 0 → closing (At i) m x ≡ last_line m
closing_end i m [] l = refl
closing_end i m (b ∷ x) l = absurd (omega arith)

-- the number of the record after record j
number-after : (j : ℕ) → number_after (number_of j) ≡ number_of (suc j)
unfolding number_after
number-after j = go (eqb (number_of j) (2 ^ 64 - 1)) refl
  where
    go : (t : Bool) → eqb (number_of j) (2 ^ 64 - 1) ≡ t → cond t (number_of j) (number_of j + 1) ≡ number_of (suc j)
    go true e = let z : number_of j ≡ 2 ^ 64 - 1 = eqb-true _ _ e in omega arith
    go false e = let z : number_of j ≡ 2 ^ 64 - 1 → ⊥ = eqb-false _ _ e in omega arith

-- the lines of what is read, from record j and a memory on
abbrev pub lines_from : ℕ → Block → Schedule → List (List ℕ)
lines_from j m s = answer_lines j (after_of m s.events).answers ++ refusal_line (j + length s.events) s.refusal ++ last_line (after_of m s.events).memory ∷ []

abbrev after : Event → Schedule → Schedule
after e s = record { events = e ∷ s.events; refusal = s.refusal }

lines_after : (j : ℕ) (m : Block) (e : Event) (s : Schedule) → lines_from j m (after e s) ≡ line_of (number_of j) (apply_of m e).answer ∷ lines_from (suc j) (apply_of m e).memory s
unfolding answer_lines
lines_after j m e s = let z : j + suc (length s.events) ≡ suc j + length s.events = omega arith in rw z

flatten_after : (j : ℕ) (m : Block) (e : Event) (s : Schedule) → flatten (lines_from j m (after e s)) ≡ line_of (number_of j) (apply_of m e).answer ++ flatten (lines_from (suc j) (apply_of m e).memory s)
unfolding flatten
flatten_after j m e s = ap flatten (lines_after j m e s)

lines_none : (j : ℕ) (m : Block) → flatten (lines_from j m (ends End)) ≡ last_line m
unfolding answer_lines flatten
lines_none j m = append-nil (last_line m)

lines_refused : (j : ℕ) (m : Block) (r : ℕ) → flatten (lines_from j m (record { events = []; refusal = suc r })) ≡ line_of (number_of j) (Refused (suc r)) ++ last_line m
unfolding answer_lines flatten
lines_refused j m r = let z : j + 0 ≡ j = omega arith in rw (z, append-nil (last_line m))

read_suc : (t : ℕ) (x : List ℕ) → read_of (suc t) x ≡ read_by x (head_of true x 0) (λ n. read_of t (drop n x))
unfolding read_of
read_suc t x = refl

read_zero : (x : List ℕ) → read_of zero x ≡ ends End
unfolding read_of
read_zero x = refl

-- AFTER THE SETUP, with as many records as there are bytes at most
out_lines : (t : ℕ) (m : Block) (j : ℕ) (x : List ℕ) → length x ≤ t → out_of m (At (number_of j)) x ≡ flatten (lines_from j m (read_of t x))
out_lines zero m j x l =
    out_end m (At (number_of j)) x (none_left (At (number_of j)) x l) ∙ closing_end (number_of j) m x l ∙ sym (lines_none j m) ∙ ap (λ (s : Schedule). flatten (lines_from j m s)) (sym (read_zero x))
out_lines (suc t) m j x l = go (head_of true x 0) refl (λ y n. out_lines t y (suc j) (drop n x)) ∙ ap (λ (s : Schedule). flatten (lines_from j m s)) (sym (read_suc t x))
  where
    go : (h : Head) → head_of true x 0 ≡ h
        → ((y : Block) (n : ℕ) → length (drop n x) ≤ t → out_of y (At (number_of (suc j))) (drop n x) ≡ flatten (lines_from (suc j) y (read_of t (drop n x))))
        → out_of m (At (number_of j)) x ≡ flatten (lines_from j m (read_by x (head_of true x 0) (λ n. read_of t (drop n x))))
    go (Record kind n) e ih =
        let a = apply_of m (event_of kind (body_of x 0 kind)) in
        let f = front (At (number_of j)) x kind n e in
        rw e (out_record m (At (number_of j)) x kind n e
        ∙ ap (λ (i : ℕ). line_of (number_of j) a.answer ++ out_of a.memory (At i) (drop (suc n) x)) (number-after j)
        ∙ ap (λ (y : List ℕ). line_of (number_of j) a.answer ++ y) (ih a.memory (suc n) (simp length-drop (omega arith)))
        ∙ sym (flatten_after j m (event_of kind (body_of x 0 kind)) (read_of t (drop (suc n) x))))
    go Unknown e ih = rw e (out_unknown m (At (number_of j)) x e ∙ sym (lines_refused j m 2))
    go Short e ih = rw e (out_short m (At (number_of j)) x e ∙ closing_short (number_of j) m x (short_says true x 0 e).0 ∙ sym (lines_refused j m 1))
    go End e ih = rw e (out_end m (At (number_of j)) x e ∙ closing_end (number_of j) m x (end_says true x 0 e) ∙ sym (lines_none j m))

-- THE SETUP
setup-turn : (x : List ℕ) (n k w : ℕ) → GoodSetup x n k w → record_turn zeros First 0x00 (body_of x 0 0x00) ≡ turn (fresh_block n k w) (At 1) (line_of 0 Ok)
unfolding fresh_of
setup-turn x n k w g = ap (setup_turn zeros) g.sizes ∙ rw g.ranges refl

pub out_written : (x : List ℕ) (n k w : ℕ) → GoodSetup x n k w → tick_of x ≡ flatten (line_of 0 Ok ∷ lines_from 1 (fresh_block n k w) (schedule_of x))
unfolding flatten
out_written x n k w g =
    out_record zeros First x 0x00 3 g.first
    ∙ ap (λ (t : Turn). onward x (turn_played t 4)) (setup-turn x n k w g)
    ∙ ap (λ (y : List ℕ). line_of 0 Ok ++ y) (out_lines (length x) (fresh_block n k w) 1 (drop 4 x) (simp length-drop (omega arith)))
