-- The crate `answers`: what its promises rule out.
use Rattle.std.specs.Prelude.{◌≡◌, refl, ◌≢◌, false, List, [], ◌∷◌, ◌++◌, ℕ, ◌+◌, ◌<◌, ◌≤◌, length, get_or, take, drop}
use Rattle.std.proofs.Common.{ap, ◌∙◌, arith, length-append, drop_at, length-take-le, get_or-append-add}
use Rattle.std.proofs.Math.ListN.{get_or-append}
use Rattle.word.specs.declared.Sort.TheVariants.{Plain}
use Rattle.word.specs.declared.Outcome.TheVariants.{Succeeded, Failed}
use Rattle.word.specs.Word.{sort_of}
use Rattle.memory.specs.Block.{Block, slot, store}
use Rattle.memory.specs.Block as B
use Rattle.memory.specs.Content.{put_word}
use Rattle.memory.specs.Fresh.{fresh_block}
use Rattle.memory.specs.Value.{value_of}
use Rattle.events.specs.declared.Answer.{Answer}
use Rattle.events.specs.declared.Answer.TheVariants.{Answered, Moved, Waits}
use Rattle.answers.specs.Decimal.{digits_of, decimal_of}
use Rattle.answers.specs.DecimalLaws.{decimal_some}
use Rattle.answers.specs.Put.{Filled, filled, put_of}
use Rattle.answers.specs.PutLaws.{put_length, put_end, put_before, put_full}
use Rattle.answers.specs.Line.{spaced, said, line_of, values_below, words_shown, last_line}
use Rattle.answers.specs.LineLaws.{line_length, last_length}
use Rattle.excludes.specs.Differ.{differ, by, seen}

-- two texts for which there is room leave different buffers
pub apart : (out : List ℕ) (at : ℕ) (x y : List ℕ) → at + length x ≤ length out → at + length y ≤ length out → x ≢ y → put_of out at x ≢ put_of out at y
apart out at x y h l n =
    seen (λ (f : Filled). drop at (take f.end f.bytes))
    (ap (λ (s : List ℕ). drop at s) (put_before x out at h) ∙ drop_at (take at out) x at (length-take-le at out (omega arith)))
    (ap (λ (s : List ℕ). drop at s) (put_before y out at l) ∙ drop_at (take at out) y at (length-take-le at out (omega arith)))
    n

-- a text of at least a byte, where there is room for it, moves the place on
pub put_some : (out text : List ℕ) (at : ℕ) → 0 < length text → at + length text ≤ length out → filled out at ≢ put_of out at text
put_some out text at h l = seen (λ (f : Filled). f.end) refl (put_end text out at l) (λ e. omega arith)

pub put_byte_not_nothing : (out : List ℕ) (at b : ℕ) → at < length out → filled out at ≢ put_of out at (b ∷ [])
put_byte_not_nothing out at b h = put_some out (b ∷ []) at (omega arith) (omega arith)

-- where there is no room, nothing is put and the place stays
pub put_byte_not_past_the_end : (out x : List ℕ) (at b : ℕ) → length out ≤ at → filled x (at + 1) ≢ put_of out at (b ∷ [])
put_byte_not_past_the_end out x at b h = rw (put_full out at (b ∷ []) h) (by (λ (f : Filled). f.end) (λ e. omega arith))

pub put_text_not_nothing : (out text : List ℕ) (at : ℕ) → 0 < length text → at + length text ≤ length out → filled out at ≢ put_of out at text
put_text_not_nothing out text at h l = put_some out text at h l

pub put_text_not_a_longer_buffer : (out x text : List ℕ) (at r : ℕ) → length x ≢ length out → filled x r ≢ put_of out at text
put_text_not_a_longer_buffer out x text at r n = seen (λ (f : Filled). length f.bytes) refl (put_length out at text) n

pub put_text_not_cut_where_there_is_room : (out x text : List ℕ) (at r : ℕ) → at + length text ≤ length out → r ≢ at + length text → filled x r ≢ put_of out at text
put_text_not_cut_where_there_is_room out x text at r h n = seen (λ (f : Filled). f.end) refl (put_end text out at h) n

-- 0 has a digit too; the digits of 12 are 1 and 2, in this order
pub put_decimal_not_nothing : (out : List ℕ) (at n : ℕ) → at + length (decimal_of n) ≤ length out → filled out at ≢ put_of out at (decimal_of n)
put_decimal_not_nothing out at n h = put_some out (decimal_of n) at (decimal_some n) h

pub put_decimal_not_the_ones_first : (out : List ℕ) (at : ℕ) → at + 2 ≤ length out → put_of out at (50 ∷ 49 ∷ []) ≢ put_of out at (decimal_of 12)
unfolding decimal_of digits_of
put_decimal_not_the_ones_first out at h = apart out at (50 ∷ 49 ∷ []) (decimal_of 12) h h (differ (λ (s : List ℕ). get_or s 0 0) refl)

-- two answers with another first letter give other lines
letter : (i : ℕ) (a : Answer) → 1 < length (said a) → get_or (line_of i a) (length (decimal_of i) + 1) 0 ≡ get_or (said a) 1 0
unfolding line_of
letter i a h =
    get_or-append (decimal_of i ++ said a) (10 ∷ []) 0 (length (decimal_of i) + 1) (omega (arith, length-append (decimal_of i) (said a)))
    ∙ get_or-append-add (decimal_of i) (said a) 1 0

lines_apart : (out : List ℕ) (at i : ℕ) (a b : Answer) → at + 45 ≤ length out → 1 < length (said a) → 1 < length (said b) → get_or (said a) 1 0 ≢ get_or (said b) 1 0
    → put_of out at (line_of i a) ≢ put_of out at (line_of i b)
lines_apart out at i a b h k l n =
    apart out at (line_of i a) (line_of i b) (omega (arith, line_length i a)) (omega (arith, line_length i b))
    (seen (λ (s : List ℕ). get_or s (length (decimal_of i) + 1) 0) (letter i a k) (letter i b l) n)

pub line_some : (i : ℕ) (a : Answer) → 0 < length (line_of i a)
unfolding line_of
line_some i a = omega (arith, length-append (decimal_of i ++ said a) (10 ∷ []))

pub put_line_not_nothing : (out : List ℕ) (at i : ℕ) (a : Answer) → at + 45 ≤ length out → filled out at ≢ put_of out at (line_of i a)
put_line_not_nothing out at i a h = put_some out (line_of i a) at (line_some i a) (omega (arith, line_length i a))

pub put_line_not_failed_always : (out : List ℕ) (at i : ℕ) → at + 45 ≤ length out → put_of out at (line_of i (Answered Failed)) ≢ put_of out at (line_of i (Answered Succeeded))
put_line_not_failed_always out at i h = lines_apart out at i (Answered Failed) (Answered Succeeded) h (omega arith) (omega arith) (λ e. omega arith)

pub put_line_not_moved_where_it_waits : (out : List ℕ) (at i : ℕ) → at + 45 ≤ length out → put_of out at (line_of i Moved) ≢ put_of out at (line_of i Waits)
put_line_not_moved_where_it_waits out at i h = lines_apart out at i Moved Waits h (omega arith) (omega arith) (λ e. omega arith)

-- the values are those of the persisted copies: "= 5" is wrong while 5 is cached alone
pub put_last_not_the_cached : (out : List ℕ) (at : ℕ) → at + 4 ≤ length out
    → put_of out at (61 ∷ 32 ∷ 53 ∷ 10 ∷ []) ≢ put_of out at (last_line (put_word (fresh_block 1 1 1) 0 (Plain 5 false)))
unfolding last_line values_below value_of sort_of slot B.at store decimal_of digits_of
put_last_not_the_cached out at h = apart out at (61 ∷ 32 ∷ 53 ∷ 10 ∷ []) (61 ∷ 32 ∷ 48 ∷ 10 ∷ []) h h (differ (λ (s : List ℕ). get_or s 2 0) refl)

pub put_last_not_nothing : (out : List ℕ) (at : ℕ) (m : Block) → at + 1346 ≤ length out → filled out at ≢ put_of out at (last_line m)
unfolding last_line
put_last_not_nothing out at m h = put_some out (last_line m) at (omega (arith, length-append (61 ∷ spaced (values_below m (words_shown m))) (10 ∷ []))) (omega (arith, last_length m))
