-- "Answer lines of `tick`": each record gives a line; the last line has each word's value. 32 is a space, 61 the sign =, 10 the newline.
use Rattle.std.specs.Prelude.{List, [], ◌∷◌, ◌++◌, ℕ, zero, suc, min}
use Rattle.memory.specs.Block.{Block}
use Rattle.memory.specs.Fresh.{sizes_in}
use Rattle.memory.specs.Value.{value_of}
use Rattle.events.specs.declared.Answer.{Answer}
use Rattle.events.specs.Event.{letters_of, figure_of}
use Rattle.answers.specs.Decimal.{decimal_of}

-- numbers in decimal, a space before each
abbrev pub spaced : List ℕ → List ℕ
spaced [] = []
spaced (x ∷ xs) = (32 ∷ decimal_of x) ++ spaced xs

-- a space and what an answer says: its letters and, where it has a number or a value, a space and that
abbrev pub said : Answer → List ℕ
said a = (32 ∷ letters_of a) ++ spaced (figure_of a)

-- the record's number, a space, the answer
unfoldable pub line_of : ℕ → Answer → List ℕ
line_of i a = decimal_of i ++ said a ++ 10 ∷ []

-- the values of the words at the addresses below n
unfoldable pub values_below : Block → ℕ → List ℕ
values_below m zero = []
values_below m (suc a) = values_below m a ++ value_of m a ∷ []

-- each of the n words; a block has room for 64, so one with a greater n, which no setup makes, shows 64
abbrev pub words_shown : Block → ℕ
words_shown m = min (sizes_in m).n 64

-- = and each word's value, separated by spaces
unfoldable pub last_line : Block → List ℕ
last_line m = (61 ∷ spaced (values_below m (words_shown m))) ++ 10 ∷ []
