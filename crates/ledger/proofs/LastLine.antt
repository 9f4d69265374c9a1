-- The last line after a list of events is the ledger's: at every moment each word's value is the ledger's (`always` of `Holds`), and the memory has n words.
use Rattle.std.specs.Prelude.{◌≡◌, refl, ℕ, zero, suc, min, ◌≤◌, ◌<◌, length}
use Rattle.std.proofs.Common.{sym, ◌∙◌, arith}
use Rattle.std.proofs.Math.Path.{ap}
use mathlib.Core.List.{List, [], ◌∷◌, ◌++◌}
use Rattle.std.proofs.Math.Seq.{take-length}
use Rattle.memory.specs.declared.Sizes.{Sizes}
use Rattle.memory.specs.Block.{Block}
use Rattle.memory.specs.Fresh.{fresh_block}
use Rattle.memory.specs.Value.{value_of}
use Rattle.events.specs.declared.Event.{Event}
use Rattle.machine.specs.Apply.{after_of}
use Rattle.answers.specs.Line.{spaced, values_below, words_shown, last_line}
use Rattle.ledger.specs.Statement.{memory_at, ledger, Holds}
use Rattle.ledger.specs.OverBytes.{ledger_values, ledger_line}
use Rattle.ledger.proofs.History.{memory_sizes}

same_values : (m : Block) (L : ℕ → ℕ) (n : ℕ) → ((a : ℕ) → a < n → value_of m a ≡ L a) → values_below m n ≡ ledger_values n L
unfolding values_below ledger_values
same_values m L zero h = refl
same_values m L (suc n) h = rw (same_values m L n (λ a l. h a (omega arith)), h n (omega arith))

same_line : (m : Block) (L : ℕ → ℕ) (n : ℕ) → words_shown m ≡ n → ((a : ℕ) → a < n → value_of m a ≡ L a) → last_line m ≡ ledger_line n L
unfolding last_line ledger_line
same_line m L n e h = ap (λ (a : ℕ). (61 ∷ spaced (values_below m a)) ++ 10 ∷ []) e ∙ ap (λ (xs : List ℕ). (61 ∷ spaced xs) ++ 10 ∷ []) (same_values m L n h)

module _ (n k w : ℕ) (nn : n ≤ 64) (es : List Event) where
  memory_end : memory_at n k w es (length es) ≡ (after_of (fresh_block n k w) es).memory
  unfolding memory_at
  memory_end = ap (λ (fs : List Event). (after_of (fresh_block n k w) fs).memory) (take-length es)

  pub last_ledger : Holds n k w es → last_line (after_of (fresh_block n k w) es).memory ≡ ledger_line n (ledger n k w es (length es))
  last_ledger h =
      let m = memory_at n k w es (length es) in
      let z : min n 64 ≡ n = omega arith in
      ap last_line (sym memory_end)
      ∙ same_line m (ledger n k w es (length es)) n (ap (λ (s : Sizes). min s.n 64) (memory_sizes n k w es (length es)) ∙ z) (λ a l. h.always (length es) a l)
