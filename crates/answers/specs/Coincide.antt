-- For every public function: two final contents of the buffer, and two places after, that keep its promise coincide.
use Rattle.std.specs.Prelude.{◌≡◌, List, [], ◌∷◌, ℕ}
use Rattle.std.proofs.Common.{ap}
use Rattle.word.specs.Coincide.{coincide}
use Rattle.memory.specs.Block.{Block}
use Rattle.events.specs.declared.Answer.{Answer}
use Rattle.answers.specs.Decimal.{decimal_of}
use Rattle.answers.specs.Put.{Filled, filled, put_of}
use Rattle.answers.specs.Line.{line_of, last_line}

-- a content and a place
pub both : {x y : List ℕ} {r s : ℕ} {z : Filled} → filled x r ≡ z → filled y s ≡ z → (x ≡ y) × (r ≡ s)
both e f = (ap (λ d. d.bytes) (coincide e f), ap (λ d. d.end) (coincide e f))

pub put_byte : (out : List ℕ) (at b : ℕ) (x y : List ℕ) (r s : ℕ) → filled x r ≡ put_of out at (b ∷ []) → filled y s ≡ put_of out at (b ∷ [])
    → (x ≡ y) × (r ≡ s)
put_byte out at b x y r s = both

pub put_text : (out : List ℕ) (at : ℕ) (text x y : List ℕ) (r s : ℕ) → filled x r ≡ put_of out at text → filled y s ≡ put_of out at text
    → (x ≡ y) × (r ≡ s)
put_text out at text x y r s = both

pub put_decimal : (out : List ℕ) (at n : ℕ) (x y : List ℕ) (r s : ℕ) → filled x r ≡ put_of out at (decimal_of n)
    → filled y s ≡ put_of out at (decimal_of n)
    → (x ≡ y) × (r ≡ s)
put_decimal out at n x y r s = both

pub put_line : (out : List ℕ) (at i : ℕ) (a : Answer) (x y : List ℕ) (r s : ℕ) → filled x r ≡ put_of out at (line_of i a)
    → filled y s ≡ put_of out at (line_of i a)
    → (x ≡ y) × (r ≡ s)
put_line out at i a x y r s = both

pub put_last : (out : List ℕ) (at : ℕ) (m : Block) (x y : List ℕ) (r s : ℕ) → filled x r ≡ put_of out at (last_line m)
    → filled y s ≡ put_of out at (last_line m)
    → (x ≡ y) × (r ≡ s)
put_last out at m x y r s = both
