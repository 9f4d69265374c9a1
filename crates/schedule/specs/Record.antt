-- What stands at a place of a schedule: one byte of kind, then a body whose length the kind fixes (document 01, "Schedule records").
use Rattle.std.specs.Prelude.{ℕ, ◌+◌, Bool, true, false, cond, not, ◌&&◌, List, [], ◌∷◌, eqb, leb, ltb, length, get_or, take, drop}
use Rattle.events.specs.Refusal.{Check, check}
use Rattle.schedule.specs.declared.Head.{Head}
use Rattle.schedule.specs.declared.Head.TheVariants.{Record, Unknown, Short, End}

-- the body's length for each kind, 00 to 0C in the table's order: each number is one byte, but expected and desired of 02 are eight
abbrev pub lengths : List ℕ
lengths = 3 ∷ 1 ∷ 18 ∷ 2 ∷ 1 ∷ 1 ∷ 2 ∷ 1 ∷ 1 ∷ 1 ∷ 1 ∷ 0 ∷ 0 ∷ []

-- 0 for a kind that there is not
unfoldable pub length_of : ℕ → ℕ
length_of kind = get_or lengths kind 0

-- 00 is "setup, first and only there"; once it has been read (started), 01 to 0C are known
unfoldable pub known : Bool → ℕ → Bool
known false kind = eqb kind 0x00
known true kind = leb 0x01 kind && leb kind 0x0C

-- the place after a record of a kind
abbrev pub after : ℕ → ℕ → ℕ
after at kind = at + 1 + length_of kind

-- "Order: 3, 2": the kind has to be right; then the body, of n bytes, has to be whole
unfoldable pub verdict_of : Bool → Bool → ℕ → ℕ → Head
verdict_of right whole kind n = cond right (cond whole (Record kind n) Short) Unknown

-- what stands at a place; at the end of the input, nothing
unfoldable pub head_of : Bool → List ℕ → ℕ → Head
head_of started s at =
    cond (leb (length s) at) End
    (verdict_of (known started (get_or s at 0)) (leb (after at (get_or s at 0)) (length s)) (get_or s at 0) (length_of (get_or s at 0)))

-- the body of a record of a kind; nothing where it is not all there
unfoldable pub body_of : List ℕ → ℕ → ℕ → List ℕ
body_of s at kind = cond (leb (after at kind) (length s)) (take (length_of kind) (drop (at + 1) s)) []

-- the refusal's number; 0 where there is none. ("Input empty", the other half of 2, is told only when all of the input is there.)
abbrev pub refusal_of : Head → ℕ
refusal_of (Record kind n) = 0
refusal_of Unknown = 3
refusal_of Short = 2
refusal_of End = 0

-- "unknown kind; first kind not 00; 00 later"
abbrev pub unknown_kind : Bool → List ℕ → ℕ → Check
unknown_kind started s at = check 3 (ltb at (length s) && not (known started (get_or s at 0)))

-- "ends inside a record"
abbrev pub ends_inside : List ℕ → ℕ → Check
ends_inside s at = check 2 (ltb at (length s) && not (leb (after at (get_or s at 0)) (length s)))

-- "Order: 3, 2"
abbrev pub head_checks : Bool → List ℕ → ℕ → List Check
head_checks started s at = unknown_kind started s at ∷ ends_inside s at ∷ []
