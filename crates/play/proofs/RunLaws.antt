-- One record after the other, and the end: one law for each answer.
use mathlib.Core.Path.{◌≡◌, refl, sym, ap, ◌∙◌}
use mathlib.Core.Bool.{Bool, true, false}
use mathlib.Core.List.{List, [], ◌∷◌, append-nil}
use Rattle.std.proofs.Common.{◌⊎◌, inl, inr}
use Prim.Native.Nat.{ℕ, suc, ◌+◌, ◌-◌, ◌<◌, ◌≤◌}
use native.Mathlib.Omega.{arith}
use lib.ListN.{length, drop}
use lib.Seq.{drop-drop}
use Rattle.memory.specs.Block.{Block}
use Rattle.events.specs.declared.Answer.TheVariants.{Refused}
use Rattle.schedule.specs.declared.Head.{Head}
use Rattle.schedule.specs.declared.Head.TheVariants.{Record, Unknown, Short, End}
use Rattle.schedule.specs.Record.{head_of, body_of}
use Rattle.schedule.specs.Laws.{record_says}
use Rattle.schedule.specs.Pieces.{head_drop, body_drop}
use Rattle.answers.specs.Put.{Filled, filled, put_of}
use Rattle.answers.specs.PutLaws.{put_append}
use Rattle.answers.specs.Line.{line_of, last_line}
use Rattle.play.specs.declared.Stage.{Stage}
use Rattle.play.specs.declared.Stage.TheVariants.{First, At, Over}
use Rattle.play.specs.declared.Progress.{Progress}
use Rattle.play.specs.Reading.{over_in}
use Rattle.play.specs.Tick.{begun_in, refused_turn, record_turn, play_of, closing}
use Rattle.play.specs.Done.{Done, done, stayed, done_from, turns_for, turned, once_at, played_into}
use Rattle.play.specs.Split.{played_on, play_split, play_stuck}

pub fits : (started : Bool) (input : List ℕ) (at : ℕ) (h : Head) (kind n : ℕ) → h ≡ head_of started input at → h ≡ Record kind n → at + 1 + n ≤ length input
fits started input at h kind n e f = (record_says started input at kind n (sym e ∙ f)).fits

-- what stands at a place of the input
module _ (m : Block) (s : Stage) (started : Bool) (input : List ℕ) (at : ℕ) (out : List ℕ) (to : ℕ) (h : Head) (o : over_in s ≡ false) (g : started ≡ begun_in s)
    (e : h ≡ head_of started input at) where
  front : head_of started (drop at input) 0 ≡ h
  front = sym (head_drop input at started) ∙ sym e

  once : once_at m s started (drop at input) ≡ play_of 1 m s (drop at input)
  unfolding play_of
  once = rw g (go s o)
    where
      go : (z : Stage) → over_in z ≡ false → once_at m z (begun_in z) (drop at input) ≡ play_of 1 m z (drop at input)
      go First q = refl
      go (At i) q = refl
      go (Over good) q = absurd (cc)

  by : (r : Done) → r ≡ done_from out to at (once_at m s started (drop at input)) → r ≡ done_from out to at (play_of 1 m s (drop at input))
  by r k = k ∙ ap (λ p. done_from out to at p) once

  pub turn_record : (kind n : ℕ) (body : List ℕ) (y : Block) (q : Progress) (x : List ℕ) → h ≡ Record kind n → body ≡ body_of input at kind
      → done y q x ≡ turned (stayed s at to) out (record_turn m s kind body)
      → done y (record { stage = q.stage; used = q.used + (1 + n); written = q.written }) x ≡ done_from out to at (play_of 1 m s (drop at input))
  turn_record kind n body y q x f b k =
      let t = record_turn m s kind body in
      let u : q.used ≡ at = ap (λ (d : Done). d.used) k in
      let z : at + (suc n + 0) ≡ q.used + (1 + n) = omega arith in
      by _ (rw (front, f, ← body_drop input at kind, ← b, append-nil t.line, z) (ap (λ (d : Done). record { memory = d.memory; stage = d.stage; used = q.used + (1 + n); output = d.output }) k))

  pub turn_unknown : (r : Done) → h ≡ Unknown → r ≡ turned (stayed s at to) out (refused_turn m s 3) → r ≡ done_from out to at (play_of 1 m s (drop at input))
  turn_unknown r f k =
      let t = refused_turn m s 3 in
      let z : at + (0 + 0) ≡ at = omega arith in
      by r (k ∙ rw (front, f, append-nil t.line, z))

  pub turn_rests : (h ≡ Short) ⊎ (h ≡ End) → done m (stayed s at to) out ≡ done_from out to at (play_of 1 m s (drop at input))
  unfolding put_of
  turn_rests (inl f) = let z : at + 0 ≡ at = omega arith in by _ (rw (front, f, z))
  turn_rests (inr f) = let z : at + 0 ≡ at = omega arith in by _ (rw (front, f, z))

pub turn_over : (m : Block) (s : Stage) (x out : List ℕ) (at to : ℕ) → over_in s ≡ true → done m (stayed s at to) out ≡ done_from out to at (play_of 1 m s x)
unfolding play_of put_of
turn_over m (Over good) x out at to e = let z : at + 0 ≡ at = omega arith in rw z
turn_over m First x out at to e = absurd (cc)
turn_over m (At i) x out at to e = absurd (cc)

-- the end of the input, inside a record
pub close_cut : (i to : ℕ) (m : Block) (rest out x : List ℕ) (s : Stage) (r : Filled) → s ≡ At i → (length rest ≡ 0 → ⊥)
    → filled x to ≡ put_of out 0 (line_of i (Refused 2))
    → r ≡ put_of x to (last_line m)
    → r ≡ put_of out 0 (closing s m rest)
close_cut i to m [] out x s r g e f h = absurd (e refl)
close_cut i to m (b ∷ rest) out x s r g e f h = h ∙ sym (put_append out 0 (line_of i (Refused 2)) (last_line m) ∙ rw (← f)) ∙ rw g

-- one turn more: what is left to do from there on is what was left to do
module _ (input : List ℕ) (m y : Block) (s : Stage) (at to : ℕ) (out x : List ℕ) (r : Progress) (d : Done) (turns i : ℕ) (l : i < turns)
    (g : done_from out to at (play_of (turns - i) m s (drop at input)) ≡ d) (e : done y r x ≡ done_from out to at (play_of 1 m s (drop at input))) where
  pub goes-on : done_from x r.written r.used (play_of (turns - (i + 1)) y r.stage (drop r.used input)) ≡ d
  goes-on =
      let t = turns - (i + 1) in
      let p = play_of 1 m s (drop at input) in
      let q = play_of t p.memory p.stage (drop (at + p.used) input) in
      let z : turns - i ≡ 1 + t = omega arith in
      let em : y ≡ p.memory = ap (λ (c : Done). c.memory) e in
      let es : r.stage ≡ p.stage = ap (λ (c : Done). c.stage) e in
      let eu : r.used ≡ at + p.used = ap (λ (c : Done). c.used) e in
      let ex : x ≡ (put_of out to p.text).bytes = ap (λ (c : Done). c.output.bytes) e in
      let ew : r.written ≡ (put_of out to p.text).end = ap (λ (c : Done). c.output.end) e in
      let k : done_from out to at (played_on t (drop at input) p) ≡ d = rw (z, play_split 1 t m s (drop at input)) at g in
      let a : at + p.used + q.used ≡ at + (p.used + q.used) = omega arith in
      rw (em, es, eu, ex, ew) (rw (drop-drop p.used at input, put_append out to p.text q.text, ← a) at k)

  pub goes_no_further : r.used ≡ at → done y r x ≡ d
  goes_no_further u =
      let t = turns - (i + 1) in
      let p = play_of 1 m s (drop at input) in
      let z : turns - i ≡ suc t = omega arith in
      let eu : r.used ≡ at + p.used = ap (λ (c : Done). c.used) e in
      let n : p.used ≡ 0 = omega arith in
      e ∙ (rw (z, play_stuck t m s (drop at input) n) at g)

pub goes_out : (input : List ℕ) (m : Block) (s : Stage) (at to : ℕ) (out : List ℕ) (d : Done) (turns i : ℕ) → turns ≤ i
    → done_from out to at (play_of (turns - i) m s (drop at input)) ≡ d → done m (record { stage = s; used = at; written = to }) out ≡ d
unfolding play_of put_of
goes_out input m s at to out d turns i l g =
    let z : turns - i ≡ 0 = omega arith in
    let y : at + 0 ≡ at = omega arith in
    rw (z, y) at g

pub goes_in : (m : Block) (s : Stage) (input out : List ℕ) (turns : ℕ) → turns ≡ turns_for out
    → done_from out 0 0 (play_of (turns - 0) m s (drop 0 input)) ≡ played_into m s input out
unfolding played_into
goes_in m s input out turns e = let z : turns - 0 ≡ turns = omega arith in rw (z, e) refl
