-- The records of a schedule as bytes (document 01, "Schedule records"): one byte of kind, then the body.
use Rattle.std.specs.Prelude.{List, [], ◌∷◌, ◌++◌, ℕ, zero, suc}
use Rattle.little.specs.Number.{bytes_of}

-- so often
abbrev pub times : {A : Type 0} → ℕ → List A → List A
times zero x = []
times (suc i) x = x ++ times i x

abbrev pub setup : ℕ → ℕ → ℕ → List ℕ
setup n k w = 0x00 ∷ n ∷ k ∷ w ∷ []

-- w opens a descriptor
abbrev pub open_by : ℕ → List ℕ
open_by w = 0x01 ∷ w ∷ []

-- w adds the word at a, from x to y; expected and desired have eight bytes
abbrev pub add : ℕ → ℕ → ℕ → ℕ → List ℕ
add w a x y = (0x02 ∷ w ∷ a ∷ []) ++ bytes_of 8 x ++ bytes_of 8 y

abbrev pub submit : ℕ → List ℕ
submit w = 0x04 ∷ w ∷ []

-- w begins a read of a
abbrev pub read : ℕ → ℕ → List ℕ
read w a = 0x06 ∷ w ∷ a ∷ []

-- i steps of w
abbrev pub steps : ℕ → ℕ → List ℕ
steps w i = times i (0x07 ∷ w ∷ [])

abbrev pub back-word : ℕ → List ℕ
back-word a = 0x08 ∷ a ∷ []

abbrev pub back-status : ℕ → List ℕ
back-status d = 0x09 ∷ d ∷ []

abbrev pub crash : List ℕ
crash = 0x0B ∷ []

-- i recovery steps
abbrev pub recover : ℕ → List ℕ
recover i = times i (0x0C ∷ [])
