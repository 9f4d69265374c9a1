-- Lines as bytes, told without the definitions that the rows are to test (document 01, "Answer lines of `tick`").
use Rattle.std.specs.Prelude.{cond, List, [] as []ᴸ, ◌∷◌ as ◌∷ᴸ◌, ◌++◌, ℕ, suc, ◌+◌, ◌/◌, ◌%◌, ltb}
use Prim.Native.Char.{code}
use Prim.Native.String.{String, [], ◌∷◌}

-- a text's bytes: here every character is ASCII
abbrev pub bytes : String → List ℕ
bytes [] = []ᴸ
bytes (c ∷ s) = code c ∷ᴸ bytes s

-- one under the other, each with its newline
abbrev pub lines : List String → List ℕ
lines []ᴸ = []ᴸ
lines (s ∷ᴸ ss) = bytes s ++ 10 ∷ᴸ lines ss

-- a number below 100 in decimal
abbrev pub decimal : ℕ → List ℕ
decimal i = cond (ltb i 10) ((48 + i) ∷ᴸ []ᴸ) ((48 + i / 10) ∷ᴸ (48 + i % 10) ∷ᴸ []ᴸ)

-- answers, each after its number and a space, from number i on; then the last line
abbrev pub numbered : ℕ → List String → String → List ℕ
numbered i []ᴸ last = lines (last ∷ᴸ []ᴸ)
numbered i (s ∷ᴸ ss) last = decimal i ++ 32 ∷ᴸ bytes s ++ 10 ∷ᴸ numbered (suc i) ss last
