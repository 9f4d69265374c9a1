-- Sorting and making are each other's inverse, and clearing the dirty bit changes nothing else.
use Rattle.std.specs.Prelude.{◌≡◌, refl, Bool, true, false, ℕ, ◌+◌, ◌%◌, ◌^◌, ◌<◌}
use Rattle.std.proofs.Common.{sym, ap, ◌∙◌, arith}
use Rattle.word.specs.declared.Sort.{Sort}
use Rattle.word.specs.declared.Sort.TheVariants.{Plain, Pointer, Neither}
use Rattle.word.specs.Word.{bit, marked, sort_of, word_number, word_cleared}
use Rattle.word.specs.Bits.{sorted_by, by_bits}

-- what sorting a number can answer: a value or a descriptor's number is below 2 ^ 61
abbrev pub Formed : Sort → Type 0
Formed (Plain v dirty) = v < 2 ^ 61
Formed (Pointer d dirty) = d < 2 ^ 61
Formed (Neither w) = bit 61 w ≡ true

pub sort_formed : (w : ℕ) → w < 2 ^ 64 → Formed (sort_of w)
sort_formed w h = by_bits w h Formed (λ e. e) (λ n c l e f. l) (λ n c l e f. l)

-- the sort of what was made is what was made
pub word_made : (s : Sort) → Formed s → sort_of (word_number s) ≡ s
unfolding sort_of
word_made (Plain v true) h = let e : v % 2 ^ 61 ≡ v = omega arith in rw e (sorted_by (2 ^ 63 + v) 4 v h (omega arith))
word_made (Plain v false) h = let e : v % 2 ^ 61 ≡ v = omega arith in rw e (sorted_by v 0 v h (omega arith))
word_made (Pointer d true) h = let e : d % 2 ^ 61 ≡ d = omega arith in rw e (sorted_by (2 ^ 63 + (2 ^ 62 + d)) 6 d h (omega arith))
word_made (Pointer d false) h = let e : d % 2 ^ 61 ≡ d = omega arith in rw e (sorted_by (2 ^ 62 + d) 2 d h (omega arith))
word_made (Neither w) h = simp h

-- making from a sort gives the number back
pub word_back : (w : ℕ) → w < 2 ^ 64 → word_number (sort_of w) ≡ w
word_back w h =
    by_bits w h (λ s. word_number s ≡ w)
    (λ e. refl)
    (λ n c l e f. let g : n % 2 ^ 61 ≡ n = omega arith in rw g (sym f))
    (λ n c l e f. let g : n % 2 ^ 61 ≡ n = omega arith in rw g (sym f))

-- two words of the same sort are equal
pub same_sort : (w x : ℕ) → w < 2 ^ 64 → x < 2 ^ 64 → sort_of w ≡ sort_of x → w ≡ x
same_sort w x h l e = sym (word_back w h) ∙ ap word_number e ∙ word_back x l

-- clearing takes bit 63 off a plain word and a pointer and changes no other bit; a number that is neither stays
below_mark : (w n : ℕ) (c : Bool) → n < 2 ^ 63 → w ≡ marked c n → n ≡ w % 2 ^ 63
below_mark w n true l e = omega arith
below_mark w n false l e = omega arith

pub word-cleared : (w : ℕ) → w < 2 ^ 64 → bit 61 w ≡ false → word_number (word_cleared (sort_of w)) ≡ w % 2 ^ 63
word-cleared w h k =
    by_bits w h (λ s. word_number (word_cleared s) ≡ w % 2 ^ 63)
    (λ e. let z : ◌≡◌ {A = ℕ} 0 1 = cc in omega arith)
    (λ n c l e f. let g : n % 2 ^ 61 ≡ n = omega arith in rw g (below_mark w (2 ^ 62 + n) c (omega arith) f))
    (λ n c l e f. let g : n % 2 ^ 61 ≡ n = omega arith in rw g (below_mark w n c (omega arith) f))

pub neither_cleared : (w : ℕ) → bit 61 w ≡ true → word_cleared (sort_of w) ≡ Neither w
unfolding sort_of
neither_cleared w e = simp e
