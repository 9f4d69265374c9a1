-- For every public function: two results that keep its promise coincide. Each follows from one law.
use Rattle.std.specs.Prelude.{◌≡◌, Bool, ℕ}
use Rattle.std.proofs.Common.{sym, ◌∙◌}
use Rattle.word.specs.declared.Sort.{Sort}
use Rattle.word.specs.declared.Status.{Status}
use Rattle.word.specs.Word.{sort_of, plain_word, pointer_word, word_number, word_cleared}
use Rattle.word.specs.Status.{status_of, status_number, status_cleared}

-- what equals one thing is equal
pub coincide : {A : Type 0} {a b c : A} → a ≡ c → b ≡ c → a ≡ b
coincide e f = e ∙ sym f

pub sort-of : (w : ℕ) (r s : Sort) → r ≡ sort_of w → s ≡ sort_of w → r ≡ s
sort-of w r s = coincide

pub plain-word : (v : ℕ) (dirty : Bool) (r s : ℕ) → r ≡ plain_word v dirty → s ≡ plain_word v dirty → r ≡ s
plain-word v dirty r s = coincide

pub pointer-word : (d : ℕ) (dirty : Bool) (r s : ℕ) → r ≡ pointer_word d dirty → s ≡ pointer_word d dirty → r ≡ s
pointer-word d dirty r s = coincide

pub word-number : (x : Sort) (r s : ℕ) → r ≡ word_number x → s ≡ word_number x → r ≡ s
word-number x r s = coincide

pub word-cleared : (x : Sort) (r s : Sort) → r ≡ word_cleared x → s ≡ word_cleared x → r ≡ s
word-cleared x r s = coincide

pub status-of : (x : ℕ) (r s : Status) → r ≡ status_of x → s ≡ status_of x → r ≡ s
status-of x r s = coincide

pub status-number : (x : Status) (r s : ℕ) → r ≡ status_number x → s ≡ status_number x → r ≡ s
status-number x r s = coincide

pub status-cleared : (x : Status) (r s : Status) → r ≡ status_cleared x → s ≡ status_cleared x → r ≡ s
status-cleared x r s = coincide
