-- A word of memory: bit 63 dirty, bit 62 pointer, bit 61 reserved; a plain value, or a descriptor's number, in bits 0 to 60
-- (document 01, "What the memory holds").
use Rattle.std.specs.Prelude.{ℕ, ◌+◌, ◌/◌, ◌%◌, ◌^◌, Bool, true, false, cond, not, eqb}
use Rattle.word.specs.declared.Sort.{Sort}
use Rattle.word.specs.declared.Sort.TheVariants.{Plain, Pointer, Neither}

-- bit k of a number
abbrev pub bit : ℕ → ℕ → Bool
bit k w = not (eqb (w / 2 ^ k % 2) 0)

-- the number n with bit 63 set, or as it is
abbrev pub marked : Bool → ℕ → ℕ
marked true n = 2 ^ 63 + n
marked false n = n

-- what a number below 2 ^ 64 is as a word: neither plain nor pointer exactly where the reserved bit is set
unfoldable pub sort_of : ℕ → Sort
sort_of w =
    cond (bit 61 w) (Neither w)
    (cond (bit 62 w) (Pointer (w % 2 ^ 61) (bit 63 w))
    (Plain (w % 2 ^ 61) (bit 63 w)))

-- the number of a plain word, of a pointer; what does not fit in bits 0 to 60 stays out
abbrev pub plain_word : ℕ → Bool → ℕ
plain_word v dirty = marked dirty (v % 2 ^ 61)

abbrev pub pointer_word : ℕ → Bool → ℕ
pointer_word d dirty = marked dirty (2 ^ 62 + d % 2 ^ 61)

-- document 01's number for each word
abbrev pub word_number : Sort → ℕ
word_number (Plain v dirty) = plain_word v dirty
word_number (Pointer d dirty) = pointer_word d dirty
word_number (Neither w) = w

-- the word with its dirty bit cleared; a number that is no word has no dirty bit
abbrev pub word_cleared : Sort → Sort
word_cleared (Plain v dirty) = Plain v false
word_cleared (Pointer d dirty) = Pointer d false
word_cleared (Neither w) = Neither w
