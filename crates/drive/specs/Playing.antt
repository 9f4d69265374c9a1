-- What the loops over an input come to, whoever plays: the calls of `play_on`, one after the other, of which each is given what the ones before it have left; and
-- the rounds of reading.
use Rattle.std.specs.Prelude.{◌≡◌, ◌<◌, true, false, ◌+◌, ◌-◌, ◌^◌, ◌⊎◌, ◌++◌, [], Bool, List, ℕ, length, drop}

-- plays s x t n: a call on s with the input x may leave t, and say that n bytes were used
module _ {S : Type 0} (plays : S → List ℕ → S → ℕ → Type 0) where
  -- some calls, of which each used something: n bytes of x in all
  pub data Calls (s : S) (x : List ℕ) : S → ℕ → Type 0 where
    none : Calls s x s 0
    more : {t u : S} {n m : ℕ} → Calls s x t n → plays t (drop n x) u m → 0 < m → Calls s x u (n + m)

  -- until the input is used up, or a call uses nothing of what is left
  pub data PlaysAll (s : S) (x : List ℕ) : S → ℕ → Type 0 where
    used_up : {t : S} → Calls s x t (length x) → PlaysAll s x t (length x)
    stopped : {t u : S} {n : ℕ} → Calls s x t n → plays t (drop n x) u 0 → PlaysAll s x u n

  -- flushes s t: s may become t where its text goes out; over s: reading is over
  module _ (flushes : S → S → Type 0) (over : S → Bool) where
    -- a piece of any length comes behind what is kept; all of it is played, the text goes out, and what was not used is left
    pub record Round (s : S) (kept piece : List ℕ) (t : S) (left : List ℕ) : Type 0 where
      pub played : S
      pub used : ℕ
      pub plays_all : PlaysAll s (kept ++ piece) played used
      pub goes_out : flushes played t
      pub rest : left ≡ drop used (kept ++ piece)

    -- so many rounds, from nothing kept; in each something came, and reading went on
    pub data Rounds (s : S) : ℕ → S → List ℕ → Type 0 where
      none : Rounds s 0 s []
      more : {t u : S} {i : ℕ} {kept piece left : List ℕ} → Rounds s i t kept → Round t kept piece u left → 0 < length piece → over u ≡ false → Rounds s (i + 1) u left

    -- until a round in which nothing comes, or which leaves reading over; 2^64 - 1 rounds are the most
    pub data Drives (s : S) : S → List ℕ → Type 0 where
      ended : {t u : S} {i : ℕ} {kept piece left : List ℕ} → Rounds s i t kept → Round t kept piece u left → (piece ≡ []) ⊎ (over u ≡ true) → Drives s u left
      spent : {u : S} {left : List ℕ} → Rounds s (2 ^ 64 - 1) u left → Drives s u left
