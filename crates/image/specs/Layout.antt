-- Where each number of an image stands: "n words, then k descriptors of 112 bytes (status, count, four entries of three numbers), each number 8 bytes
-- little-endian" (document 01, "Images for the C runtime").
use Rattle.std.specs.Prelude.{ℕ, ◌+◌, ◌*◌, ◌≤◌, ◌≡◌, List, length, take, drop}
use Rattle.word.specs.declared.Sort.{Sort}
use Rattle.word.specs.declared.Status.{Status}
use Rattle.word.specs.Word.{sort_of, word_number}
use Rattle.word.specs.Status.{status_of, status_number}
use Rattle.steps.specs.declared.Entry.{Entry}
use Rattle.little.specs.Number.{number_at, with_number}

-- the word at an address
abbrev pub word_place : ℕ → ℕ
word_place a = 8 * a

abbrev pub word_of : List ℕ → ℕ → Sort
word_of x a = sort_of (number_at x (word_place a))

abbrev pub with_word : List ℕ → ℕ → Sort → List ℕ
with_word x a s = with_number x (word_place a) (word_number s)

-- the 112 bytes of descriptor d, after n words
abbrev pub descriptor_place : ℕ → ℕ → ℕ
descriptor_place n d = 8 * n + 112 * d

abbrev pub part_of : List ℕ → ℕ → ℕ → List ℕ
part_of x n d = take 112 (drop (descriptor_place n d) x)

-- in these bytes: the status, the count, entry i
abbrev pub status_in : List ℕ → Status
status_in p = status_of (number_at p 0)

abbrev pub count_in : List ℕ → ℕ
count_in p = number_at p 8

abbrev pub entry_in : List ℕ → ℕ → Entry
entry_in p i = record { address = number_at p (16 + 24 * i); expected = number_at p (24 + 24 * i); desired = number_at p (32 + 24 * i) }

-- the image with another status of d
abbrev pub with_status : List ℕ → ℕ → ℕ → Status → List ℕ
with_status x n d s = with_number x (descriptor_place n d) (status_number s)

-- an image that has passed 1 (but for 0) and 20
pub record Sized (n k : ℕ) (x : List ℕ) : Type 0 where
  pub words : n ≤ 64
  pub descriptors : k ≤ 16
  pub bytes : length x ≡ 8 * n + 112 * k
