-- A number in decimal, as bytes of ASCII, the most significant digit first.
use Rattle.std.specs.Prelude.{cond, List, [], ◌∷◌, ◌++◌, ℕ, zero, suc, ◌+◌, ◌/◌, ◌%◌, ltb}

-- the digit of the ones, and those of the tens and more before it where there are any; f is the most digits that are put down
unfoldable pub digits_of : ℕ → ℕ → List ℕ
digits_of zero n = []
digits_of (suc f) n = cond (ltb n 10) ((48 + n) ∷ []) (digits_of f (n / 10) ++ (48 + n % 10) ∷ [])

-- every number here is below 2^64, which is below 10^20: 20 digits are enough (`decimal_back` in DecimalLaws)
unfoldable pub decimal_of : ℕ → List ℕ
decimal_of n = digits_of 20 n

-- the last k digits of a number, zeros among them
unfoldable pub places_of : ℕ → ℕ → List ℕ
places_of zero n = []
places_of (suc k) n = places_of k (n / 10) ++ (48 + n % 10) ∷ []
