-- The crate `play`: what its promises rule out.
use Rattle.std.specs.Prelude.{◌≡◌, refl, ◌≢◌, Bool, true, false, List, [], ◌∷◌, ◌++◌, ℕ, zero, suc, ◌≤◌, length}
use Rattle.std.proofs.Common.{arith, length-append}
use Rattle.memory.specs.Block.{Block}
use Rattle.events.specs.declared.Answer.TheVariants.{Refused}
use Rattle.schedule.specs.declared.Head.TheVariants.{Record, Unknown, Short}
use Rattle.answers.specs.Decimal.{digits_of, decimal_of}
use Rattle.answers.specs.Put.{Filled, filled, put_of}
use Rattle.answers.specs.Line.{line_of, last_line}
use Rattle.answers.specs.LineLaws.{line_length, last_length}
use Rattle.play.specs.declared.Stage.{Stage}
use Rattle.play.specs.declared.Stage.TheVariants.{First, At, Over}
use Rattle.play.specs.declared.Progress.{Progress}
use Rattle.play.specs.Reading.{over_in}
use Rattle.play.specs.Tick.{Played, begun_in, play_of, closing}
use Rattle.play.specs.Done.{Done, done, done_from, turns_for, played_into}
use Rattle.play.specs.Split.{head_for, record_goes, unknown_ends, short_rests}
use Rattle.excludes.specs.Differ.{differ, by}
use Rattle.excludes.specs.Answers.{apart, put_some, line_some}

-- an output with room for a line, and what stands at the front of the input
module _ (m y : Block) (s : Stage) (x out z : List ℕ) (r : Progress) where
  -- the number of turns is not 0
  turns : 48 ≤ length out → (P : Played → Type 0) → ((t : ℕ) → P (play_of (suc t) m s x)) → P (play_of (turns_for out) m s x)
  turns h P f = go (turns_for out) refl
    where
      go : (t : ℕ) → turns_for out ≡ t → P (play_of t m s x)
      go zero e = absurd (omega arith)
      go (suc t) e = f t

  pub play_not_nothing : (kind n : ℕ) → 48 ≤ length out → head_for s x ≡ Record kind n → r.used ≡ 0 → done y r z ≢ played_into m s x out
  unfolding played_into
  play_not_nothing kind n h e u =
      turns h (λ p. done y r z ≢ done_from out 0 0 p)
      (λ t. rw (record_goes t m s x kind n e) (by (λ (d : Done). d.used) (λ q. omega arith)))

  -- "refusals 1 to 3 end reading"
  pub play_not_on_after_a_refusal : 48 ≤ length out → head_for s x ≡ Unknown → r.stage ≢ Over (begun_in s) → done y r z ≢ played_into m s x out
  unfolding played_into
  play_not_on_after_a_refusal h e n =
      turns h (λ p. done y r z ≢ done_from out 0 0 p)
      (λ t. rw (unknown_ends t m s x e) (by (λ (d : Done). d.stage) n))

  -- a record that is cut waits for the rest of the input
  pub play_not_a_cut_record : head_for s x ≡ Short → r.used ≢ 0 → done y r z ≢ played_into m s x out
  unfolding played_into
  play_not_a_cut_record e n = rw (short_rests (turns_for out) m s x e) (by (λ (d : Done). d.used) n)

-- "the last line is absent when there was no good setup"
pub finish_not_a_last_line_without_a_setup : (m : Block) (rest out x : List ℕ) (r : ℕ) → r ≢ 0 → filled x r ≢ put_of out 0 (closing (Over false) m rest)
unfolding put_of
finish_not_a_last_line_without_a_setup m rest out x r n = by (λ (f : Filled). f.end) n

-- "empty input gives `0 R 2`; a record cut short gives its number and `R 2`"
pub finish_not_silent_at_empty_input : (m : Block) (out : List ℕ) → 6 ≤ length out → filled out 0 ≢ put_of out 0 (closing First m [])
unfolding line_of decimal_of digits_of
finish_not_silent_at_empty_input m out h = put_some out (closing First m []) 0 (omega arith) (omega arith)

pub finish_not_silent_at_a_cut_record : (m : Block) (i b : ℕ) (bs out : List ℕ) → 1391 ≤ length out → put_of out 0 (last_line m) ≢ put_of out 0 (closing (At i) m (b ∷ bs))
finish_not_silent_at_a_cut_record m i b bs out h =
    let k = length-append (line_of i (Refused 2)) (last_line m) in
    apart out 0 (last_line m) (line_of i (Refused 2) ++ last_line m) (omega (arith, last_length m)) (omega (arith, k, line_length i (Refused 2), last_length m))
    (by (λ (t : List ℕ). length t) (λ e. omega (arith, k, line_some i (Refused 2))))

-- of yes and no
abbrev bit : Bool → ℕ
bit true = 1
bit false = 0

pub has_begun_not_before_the_setup : true ≢ begun_in First
has_begun_not_before_the_setup = differ bit refl

-- the bad setup's refusal ends reading, and there was no good one
pub has_begun_not_by_a_bad_setup : true ≢ begun_in (Over false)
has_begun_not_by_a_bad_setup = differ bit refl

pub has_begun_not_missed_after_the_setup : (i : ℕ) → false ≢ begun_in (At i)
has_begun_not_missed_after_the_setup i = differ bit refl

pub is_over_not_before_the_setup : true ≢ over_in First
is_over_not_before_the_setup = differ bit refl

pub is_over_not_while_records_are_read : (i : ℕ) → true ≢ over_in (At i)
is_over_not_while_records_are_read i = differ bit refl

pub is_over_not_missed_after_a_refusal : (good : Bool) → false ≢ over_in (Over good)
is_over_not_missed_after_a_refusal good = differ bit refl
