-- Bytes and numbers, of any length: each is had back from the other.
use Rattle.std.specs.Prelude.{◌≡◌, refl, List, [], ◌∷◌, ◌++◌, ℕ, zero, suc, ◌+◌, ◌*◌, ◌/◌, ◌%◌, ◌<◌, ◌^◌, length, get_or, take, drop}
use Rattle.std.proofs.Common.{ap, pow-suc, arith, get_or-drop}
use Rattle.little.specs.Number.{number_of, bytes_of}

-- every element is a byte; past the end stands 0
abbrev pub Bytes : List ℕ → Type 0
Bytes s = (i : ℕ) → get_or s i 0 < 256

pub bytes_take : (n : ℕ) (s : List ℕ) → Bytes s → Bytes (take n s)
bytes_take zero s h i = omega arith
bytes_take (suc n) [] h i = omega arith
bytes_take (suc n) (b ∷ s) h zero = h 0
bytes_take (suc n) (b ∷ s) h (suc i) = bytes_take n s (λ j. h (suc j)) i

pub bytes_drop : (n : ℕ) (s : List ℕ) → Bytes s → Bytes (drop n s)
bytes_drop n s h i = rw (get_or-drop n s i 0) (h (n + i))

pub bytes_append : (x y : List ℕ) → Bytes x → Bytes y → Bytes (x ++ y)
bytes_append [] y h l i = l i
bytes_append (b ∷ x) y h l zero = h 0
bytes_append (b ∷ x) y h l (suc i) = bytes_append x y (λ j. h (suc j)) l i

pub bytes_many : (k v : ℕ) → length (bytes_of k v) ≡ k
bytes_many zero v = refl
bytes_many (suc k) v = ap suc (bytes_many k (v / 256))

pub bytes_are : (k v : ℕ) → Bytes (bytes_of k v)
bytes_are zero v i = omega arith
bytes_are (suc k) v zero = omega arith
bytes_are (suc k) v (suc i) = bytes_are k (v / 256) i

pub number_below : (s : List ℕ) → Bytes s → number_of s < 256 ^ length s
number_below [] h = omega arith
number_below (b ∷ s) h =
    let a : b < 256 = h 0 in
    let l = number_below s (λ i. h (suc i)) in
    rw (pow-suc 256 (length s)) (omega arith)

pub number_bytes : (k v : ℕ) → v < 256 ^ k → number_of (bytes_of k v) ≡ v
number_bytes zero v h = omega arith
number_bytes (suc k) v h =
    let l : v < 256 ^ k * 256 = rw (pow-suc 256 k) at h in
    let e = number_bytes k (v / 256) (omega arith) in
    rw e (omega arith)

pub bytes_number : (s : List ℕ) → Bytes s → bytes_of (length s) (number_of s) ≡ s
bytes_number [] h = refl
bytes_number (b ∷ s) h =
    let a : b < 256 = h 0 in
    let d : (b + 256 * number_of s) / 256 ≡ number_of s = omega arith in
    let m : (b + 256 * number_of s) % 256 ≡ b = omega arith in
    rw (d, m, bytes_number s (λ i. h (suc i)))
