-- The crate `word`: what its promises rule out.
use Rattle.std.specs.Prelude.{◌≡◌, ◌≢◌, Bool, true, false, ℕ, ◌+◌, ◌^◌, ◌<◌, ◌≤◌}
use Rattle.std.proofs.Common.{◌∙◌, arith}
use Rattle.word.specs.declared.Sort.TheVariants.{Plain, Pointer}
use Rattle.word.specs.declared.Outcome.{Outcome}
use Rattle.word.specs.declared.Outcome.TheVariants.{Succeeded, Failed}
use Rattle.word.specs.declared.Status.TheVariants.{Undecided, Decided, Bad}
use Rattle.word.specs.Word.{sort_of, plain_word, pointer_word, word_number, word_cleared}
use Rattle.word.specs.Status.{status_of, outcome_number, status_number, status_cleared}
use Rattle.word.specs.Laws.{word_made}
use Rattle.excludes.specs.Differ.{clash}

-- the dirty bit is no part of the value
pub sort_of_not_the_mark_in_the_value : (v : ℕ) (x : Bool) → v < 2 ^ 61 → Plain (2 ^ 63 + v) x ≢ sort_of (plain_word v true)
sort_of_not_the_mark_in_the_value v x h e =
    let z : Plain (2 ^ 63 + v) x ≡ Plain v true = e ∙ word_made (Plain v true) h in
    let y : 2 ^ 63 + v ≡ v = cc in
    omega arith

-- a pointer is no plain word
pub sort_of_not_plain_at_a_pointer : (v d : ℕ) (x dirty : Bool) → d < 2 ^ 61 → Plain v x ≢ sort_of (pointer_word d dirty)
sort_of_not_plain_at_a_pointer v d x dirty h e = let z : Plain v x ≡ Pointer d dirty = e ∙ word_made (Pointer d dirty) h in clash (cc)

-- the mark is set
pub plain_word_not_without_the_mark : (v : ℕ) → plain_word v false ≢ plain_word v true
plain_word_not_without_the_mark v e = omega arith

-- a value above bit 60 does not reach the bits of the form
pub plain_word_not_past_bit_60 : (v : ℕ) → 2 ^ 61 ≤ v → v ≢ plain_word v false
plain_word_not_past_bit_60 v h e = omega arith

pub pointer_word_not_without_the_mark : (d : ℕ) → pointer_word d false ≢ pointer_word d true
pointer_word_not_without_the_mark d e = omega arith

pub pointer_word_not_a_plain_word : (d : ℕ) (dirty : Bool) → plain_word d dirty ≢ pointer_word d dirty
pointer_word_not_a_plain_word d true e = omega arith
pointer_word_not_a_plain_word d false e = omega arith

-- the number of a dirty word is not the value alone, that of a pointer not the descriptor's
pub word_number_not_the_value_alone : (v : ℕ) → v < 2 ^ 61 → v ≢ word_number (Plain v true)
word_number_not_the_value_alone v h e = omega arith

pub word_number_not_the_descriptor_alone : (d : ℕ) (dirty : Bool) → d < 2 ^ 61 → d ≢ word_number (Pointer d dirty)
word_number_not_the_descriptor_alone d true h e = omega arith
word_number_not_the_descriptor_alone d false h e = omega arith

pub word_cleared_not_as_it_was : (v : ℕ) → Plain v true ≢ word_cleared (Plain v true)
word_cleared_not_as_it_was v e = clash (cc)

-- clearing takes the dirty bit off, and not the pointer's
pub word_cleared_not_plain : (v d : ℕ) (x dirty : Bool) → Plain v x ≢ word_cleared (Pointer d dirty)
word_cleared_not_plain v d x dirty e = clash (cc)

-- a status tested for equality with 2: "the dirty bit is usually still set"
pub status_of_not_bad_where_dirty : Bad (2 ^ 63 + 2) ≢ status_of (2 ^ 63 + 2)
unfolding status_of
status_of_not_bad_where_dirty e = let z : Bad (2 ^ 63 + 2) ≡ Decided Succeeded true = e in clash (cc)

-- "bit 63 dirty is allowed on 2 and 3 only"
pub status_of_not_a_dirty_undecided : Undecided ≢ status_of (2 ^ 63 + 1)
unfolding status_of
status_of_not_a_dirty_undecided e = let z : Undecided ≡ Bad (2 ^ 63 + 1) = e in clash (cc)

pub status_number_not_without_the_mark : (o : Outcome) → outcome_number o ≢ status_number (Decided o true)
status_number_not_without_the_mark Succeeded e = omega arith
status_number_not_without_the_mark Failed e = omega arith

pub status_number_not_undecided_as_0 : 0 ≢ status_number Undecided
status_number_not_undecided_as_0 e = omega arith

pub status_cleared_not_as_it_was : (o : Outcome) → Decided o true ≢ status_cleared (Decided o true)
status_cleared_not_as_it_was o e = clash (cc)

pub status_cleared_not_another_outcome : (x dirty : Bool) → Decided Failed x ≢ status_cleared (Decided Succeeded dirty)
status_cleared_not_another_outcome x dirty e = clash (cc)
