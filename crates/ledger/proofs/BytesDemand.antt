-- DEMAND 3 OVER BYTES: for every byte string with a good setup, all that `BytesHold` says.
use Rattle.std.specs.Prelude.{◌≡◌, refl, ◌≢◌, ℕ, suc, ◌+◌, ◌-◌, ◌<◌, length, get_or}
use Rattle.std.proofs.Common.{sym, ◌∙◌, subst, arith}
use Rattle.std.proofs.Math.Path.{ap}
use mathlib.Core.List.{List, [], ◌∷◌, ◌++◌, flatten}
use Rattle.word.specs.declared.Outcome.{Outcome}
use Rattle.word.specs.declared.Outcome.TheVariants.{Succeeded, Failed}
use Rattle.memory.specs.Fresh.{fresh_block}
use Rattle.events.specs.declared.Event.{Event}
use Rattle.events.specs.declared.Event.TheVariants.{Step, Crash}
use Rattle.events.specs.declared.Answer.{Answer}
use Rattle.events.specs.declared.Answer.TheVariants.{Ok, Answered, Shows}
use Rattle.machine.specs.Apply.{apply_of, after_of}
use Rattle.answers.specs.Line.{line_of, last_line}
use Rattle.play.specs.Tick.{tick_of}
use Rattle.ledger.specs.Statement.{memory_at, Happens, Holds}
use Rattle.ledger.specs.OverBytes.{GoodSetup, schedule_of, events_of, lines_of, letter_in, line_at, number_of, answer_lines, refusal_line, ledger_line, ledger_after, written, AnswersOperation, AnswersRead, SuccessAt, FailureAt, ReadAt, OverBytes}
use Rattle.ledger.specs.Ranges.{Ranges, ranges}
use Rattle.ledger.proofs.Demand.{demand_three}
use Rattle.ledger.proofs.Course.{final}
use Rattle.ledger.proofs.Behind.{steps_only, behind_outcome, behind_value}
use Rattle.ledger.specs.Lines.{lines_apart, letter_of, letter_is, letter_outcome, letter_shows}
use Rattle.ledger.specs.Places.{answers_count, answer_at, all_lines, line-at, last_at, spoken}
use Rattle.ledger.proofs.LastLine.{last_ledger}
use Rattle.ledger.specs.Out.{out_written}

module _ (x : List ℕ) (n k w : ℕ) (g : GoodSetup x n k w) where
  abbrev es : List Event
  es = events_of x

  abbrev rs : List Answer
  rs = (after_of (fresh_block n k w) es).answers

  abbrev lines : List (List ℕ)
  lines = lines_of (tick_of x)

  sizes : Ranges n k w
  sizes = ranges n k w g.ranges

  holds : Holds n k w es
  holds = demand_three n k w g.ranges es

  -- all the lines
  output : tick_of x ≡ flatten (written x n k w)
  output =
      let z : 1 + length es ≡ suc (length es) = omega arith in
      out_written x n k w g
      ∙ ap (λ (i : ℕ). flatten (line_of 0 Ok ∷ answer_lines 1 rs ++ refusal_line i (schedule_of x).refusal ++ last_line (after_of (fresh_block n k w) es).memory ∷ [])) z
      ∙ ap (λ (l : List ℕ). flatten (line_of 0 Ok ∷ answer_lines 1 rs ++ refusal_line (suc (length es)) (schedule_of x).refusal ++ l ∷ [])) (last_ledger n k w sizes.words es holds)

  are : lines ≡ written x n k w
  are = ap lines_of output ∙ lines_apart (written x n k w) (all_lines rs (suc (length es)) (schedule_of x).refusal n (ledger_after x n k w))

  -- the line of event i
  answered : (i : ℕ) (e : Event) (r : Answer) → Happens n k w es i e r → get_or rs i Ok ≡ r
  unfolding memory_at
  answered i e r h = answer_at (fresh_block n k w) es i h.there ∙ ap (λ (f : Event). (apply_of (memory_at n k w es i) f).answer) h.event ∙ h.answer

  line : (i : ℕ) (e : Event) (r : Answer) → Happens n k w es i e r → line_at x (suc i) ≡ line_of (number_of (suc i)) r
  line i e r h =
      let l : i < length rs = rw (answers_count (fresh_block n k w) es) h.there in
      ap (λ (ls : List (List ℕ)). get_or ls (suc i) []) are
      ∙ line-at rs (suc (length es)) (schedule_of x).refusal n (ledger_after x n k w) i l
      ∙ ap (line_of (number_of (suc i))) (answered i e r h)

  last : line_at x (length lines - 1) ≡ ledger_line n (ledger_after x n k w)
  last = ap (λ (ls : List (List ℕ)). get_or ls (length ls - 1) []) are ∙ last_at rs (suc (length es)) (schedule_of x).refusal n (ledger_after x n k w)

  same_happens : (i : ℕ) (e f : Event) (r t : Answer) → e ≡ f → r ≡ t → Happens n k w es i e r → Happens n k w es i f t
  same_happens i e f r t p q h = subst (λ (z : Answer). Happens n k w es i f z) q (subst (λ (z : Event). Happens n k w es i z r) p h)

  -- a line with the letter S, F or V is an event's
  record Spoken (b j : ℕ) : Type 0 where
    i : ℕ
    e : Event
    r : Answer
    place : j ≡ suc i
    happens : Happens n k w es i e r
    letter : letter_of r ≡ b

  speaks : (b j : ℕ) → 57 < b → b ≢ 79 → b ≢ 82 → letter_in (line_at x j) ≡ b → Spoken b j
  speaks b j p q r e =
      let z = spoken rs (suc (length es)) (schedule_of x).refusal n (ledger_after x n k w) b j p q r (ap (λ (ls : List (List ℕ)). letter_in (get_or ls j [])) (sym are) ∙ e) in
      go z.0 z.1 z.2
    where
      go : (i : ℕ) → j ≡ suc i → i < length rs → Spoken b j
      go i s l =
          let f : Event = get_or es i Crash in
          let u : length rs ≡ length es = answers_count (fresh_block n k w) es in
          let h : Happens n k w es i f (apply_of (memory_at n k w es i) f).answer = record { there = omega arith; event = refl; answer = refl } in
          record {
            i = i;
            e = f;
            r = (apply_of (memory_at n k w es i) f).answer;
            place = s;
            happens = h;
            letter = sym (letter_is (number_of (suc i)) _) ∙ ap letter_in (sym (line i _ _ h)) ∙ ap (λ (y : ℕ). letter_in (line_at x y)) (sym s) ∙ e;
          }

  -- S and F: the operation
  answers_operation : (o : Outcome) (j : ℕ) → Spoken (letter_of (Answered o)) j → AnswersOperation x n k w j o
  answers_operation o j q =
      let a : q.r ≡ Answered o = letter_outcome q.r o q.letter in
      let v = steps_only n k w sizes.words sizes.descriptors sizes.workers sizes.some es q.i q.e q.r q.happens (ap final a) in
      let h : Happens n k w es q.i (Step v.0) (Answered o) = same_happens q.i q.e (Step v.0) q.r (Answered o) v.1 a q.happens in
      let b = behind_outcome n k w sizes.words sizes.descriptors sizes.workers sizes.some es q.i v.0 o h in
      record { i = q.i; v = v.0; s = b.0; d = b.1; place = q.place; answer = h; operation = b.2 }

  -- V: the read
  answers_read : (j : ℕ) → Spoken 86 j → AnswersRead x n k w j
  answers_read j q =
      let a = letter_shows q.r q.letter in
      let v = steps_only n k w sizes.words sizes.descriptors sizes.workers sizes.some es q.i q.e q.r q.happens (ap final a.1) in
      let h : Happens n k w es q.i (Step v.0) (Shows a.0) = same_happens q.i q.e (Step v.0) q.r (Shows a.0) v.1 a.1 q.happens in
      let b = behind_value n k w sizes.words sizes.descriptors sizes.workers sizes.some es q.i v.0 a.0 h in
      record { i = q.i; v = v.0; s = b.0; a = b.1; y = a.0; place = q.place; answer = h; begun = b.2; runs = b.3 }

  success : (j : ℕ) → letter_in (line_at x j) ≡ 83 → SuccessAt x n k w j
  success j e =
      let q = answers_operation Succeeded j (speaks 83 j (omega arith) (λ z. omega arith) (λ z. omega arith) e) in
      let z = holds.success q.s q.v q.d q.i q.operation q.answer in
      (q, z.0, z.1, z.2, z.3, z.4)

  failure : (j : ℕ) → letter_in (line_at x j) ≡ 70 → FailureAt x n k w j
  failure j e =
      let q = answers_operation Failed j (speaks 70 j (omega arith) (λ z. omega arith) (λ z. omega arith) e) in
      let z = holds.differed q.s q.v q.d q.i q.operation q.answer in
      (q, holds.failure q.s q.v q.d q.i q.operation q.answer, z.0, z.1, z.2, z.3, z.4, z.5)

  read : (j : ℕ) → letter_in (line_at x j) ≡ 86 → ReadAt x n k w j
  read j e =
      let q = answers_read j (speaks 86 j (omega arith) (λ z. omega arith) (λ z. omega arith) e) in
      let z = holds.read q.s q.v q.a q.i q.y q.begun q.runs q.answer in
      let l : line_at x (suc q.i) ≡ line_of (number_of (suc q.i)) (Shows q.y) = line q.i (Step q.v) (Shows q.y) q.answer in (
        q,
        z.0,
        z.1,
        z.2,
        z.3,
        ap (line_at x) q.place ∙ l ∙ ap (λ (i : ℕ). line_of (number_of i) (Shows q.y)) (sym q.place) ∙ ap (λ (y : ℕ). line_of (number_of j) (Shows y)) (sym z.3),
      )

-- for every byte string with a good setup
pub demand_three_over_bytes : OverBytes
demand_three_over_bytes x n k w g = record {
  output = output x n k w g;
  lines = are x n k w g;
  line = line x n k w g;
  last = last x n k w g;
  holds = holds x n k w g;
  success = success x n k w g;
  failure = failure x n k w g;
  read = read x n k w g;
}
