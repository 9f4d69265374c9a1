-- Where each line stands: the answer to event i on line i + 1, the last line at the end; and no other line than an event's has the letter S, F or V.
use Rattle.std.specs.Prelude.{◌≡◌, refl, ◌≢◌, List, [], ◌∷◌, ◌++◌, ℕ, zero, suc, ◌+◌, ◌-◌, ◌^◌, ◌<◌, length, get_or, take}
use Rattle.std.proofs.Common.{sym, ◌∙◌, ap, append_assoc, arith, length-append, get_or-append-add}
use Rattle.std.proofs.Math.Decide.{dec_lt}
use Rattle.std.proofs.Math.ListN.{get_or-append}
use Rattle.std.proofs.lemmas.List.{get_or_at}
use Rattle.memory.specs.Block.{Block}
use Rattle.events.specs.declared.Event.{Event}
use Rattle.events.specs.declared.Event.TheVariants.{Crash}
use Rattle.events.specs.declared.Answer.{Answer}
use Rattle.events.specs.declared.Answer.TheVariants.{Ok, Refused}
use Rattle.machine.specs.Apply.{apply_of, after_of}
use Rattle.answers.specs.Line.{line_of}
use Rattle.ledger.specs.OverBytes.{letter_in, number_of, answer_lines, refusal_line, ledger_line}
use Rattle.ledger.specs.Lines.{AllLines, all_append, record_line, last-line, letter_is, last_letter}

-- the number on a line is its place, up to 2^64 - 1
pub number_is : (j : ℕ) → j < 2 ^ 64 → number_of j ≡ j
number_is j l = omega arith

-- the answers to a list of events
pub answers_count : (m : Block) (es : List Event) → length (after_of m es).answers ≡ length es
answers_count m [] = refl
answers_count m (e ∷ es) = ap suc (answers_count (apply_of m e).memory es)

pub answer_at : (m : Block) (es : List Event) (i : ℕ) → i < length es → get_or (after_of m es).answers i Ok ≡ (apply_of (after_of m (take i es)).memory (get_or es i Crash)).answer
answer_at m [] i l = absurd (omega arith)
answer_at m (e ∷ es) zero l = refl
answer_at m (e ∷ es) (suc i) l = answer_at (apply_of m e).memory es i (omega arith)

-- their lines
lines_count : (j : ℕ) (rs : List Answer) → length (answer_lines j rs) ≡ length rs
unfolding answer_lines
lines_count j [] = refl
lines_count j (r ∷ rs) = ap suc (lines_count (suc j) rs)

lines_at : (j : ℕ) (rs : List Answer) (i : ℕ) → i < length rs → get_or (answer_lines j rs) i [] ≡ line_of (number_of (j + i)) (get_or rs i Ok)
unfolding answer_lines
lines_at j [] i l = absurd (omega arith)
lines_at j (r ∷ rs) zero l = let z : j + 0 ≡ j = omega arith in rw z
lines_at j (r ∷ rs) (suc i) l = let z : j + suc i ≡ suc j + i = omega arith in rw z (lines_at (suc j) rs i (omega arith))

lines_are : (j : ℕ) (rs : List Answer) → AllLines (answer_lines j rs)
unfolding answer_lines
lines_are j [] = tt
lines_are j (r ∷ rs) = (record_line (number_of j) r, lines_are (suc j) rs)

refusal_are : (j r : ℕ) → AllLines (refusal_line j r)
refusal_are j zero = tt
refusal_are j (suc r) = (record_line (number_of j) (Refused (suc r)), tt)

-- what follows them has none of the letters
quiet : (b j r n : ℕ) (L : ℕ → ℕ) (i : ℕ) → 57 < b → b ≢ 82 → letter_in (get_or (refusal_line j r ++ ledger_line n L ∷ []) i []) ≢ b
unfolding letter_in
quiet b j zero n L zero h p e = let z = last_letter n L in omega arith
quiet b j zero n L (suc i) h p e = omega arith
quiet b j (suc r) n L zero h p e = p (sym e ∙ letter_is (number_of j) (Refused (suc r)))
quiet b j (suc r) n L (suc zero) h p e = let z = last_letter n L in omega arith
quiet b j (suc r) n L (suc (suc i)) h p e = omega arith

-- all the lines
module _ (rs : List Answer) (c r n : ℕ) (L : ℕ → ℕ) where
  abbrev all : List (List ℕ)
  all = line_of 0 Ok ∷ answer_lines 1 rs ++ refusal_line c r ++ ledger_line n L ∷ []

  pub all_lines : AllLines all
  all_lines = (record_line 0 Ok, all_append (answer_lines 1 rs ++ refusal_line c r) (ledger_line n L ∷ []) (all_append (answer_lines 1 rs) (refusal_line c r) (lines_are 1 rs) (refusal_are c r)) (last-line n L, tt))

  pub line-at : (i : ℕ) → i < length rs → get_or all (suc i) [] ≡ line_of (number_of (suc i)) (get_or rs i Ok)
  line-at i l =
      let z : 1 + i ≡ suc i = omega arith in
      let k : i < length (answer_lines 1 rs) = rw (lines_count 1 rs) l in
      ap (λ (ls : List (List ℕ)). get_or ls i []) (append_assoc (answer_lines 1 rs) (refusal_line c r) (ledger_line n L ∷ []))
      ∙ get_or-append (answer_lines 1 rs) (refusal_line c r ++ ledger_line n L ∷ []) [] i k
      ∙ rw z at (lines_at 1 rs i l)

  pub last_at : get_or all (length all - 1) [] ≡ ledger_line n L
  last_at =
      let p = line_of 0 Ok ∷ answer_lines 1 rs ++ refusal_line c r in
      let z : length (p ++ ledger_line n L ∷ []) ≡ length p + 1 = length-append p (ledger_line n L ∷ []) in
      get_or_at p (ledger_line n L) [] [] (length all - 1) (omega arith)

  -- a line with the letter S, F or V
  pub spoken : (b j : ℕ) → 57 < b → b ≢ 79 → b ≢ 82 → letter_in (get_or all j []) ≡ b → (i : ℕ) × (j ≡ suc i) × (i < length rs)
  spoken b zero h o p e = absurd (o (sym e ∙ letter_is 0 Ok))
  spoken b (suc i) h o p e = elim (dec_lt i (length rs)) [
    | yes l ↦ (i, refl, l)
    | no l ↦ (let y : length (answer_lines 1 rs) ≡ length rs = lines_count 1 rs in
        let z : length (answer_lines 1 rs) + (i - length rs) ≡ i = omega arith in
        absurd (quiet b c r n L (i - length rs) h p
        (ap letter_in (sym (get_or-append-add (answer_lines 1 rs) (refusal_line c r ++ ledger_line n L ∷ []) (i - length rs) [])
        ∙ ap (λ (k : ℕ). get_or (answer_lines 1 rs ++ (refusal_line c r ++ ledger_line n L ∷ [])) k []) z
        ∙ ap (λ (ls : List (List ℕ)). get_or ls i []) (sym (append_assoc (answer_lines 1 rs) (refusal_line c r) (ledger_line n L ∷ [])))) ∙ e)))
  ]
