-- Clauses of the statement on the ledger's values, in its own words.
use Rattle.std.specs.Prelude.{◌≡◌, refl, Bool, false, List}
use Rattle.std.proofs.Math.Path.{ap}
use Prim.Native.Nat.{ℕ, zero, suc, ◌≤◌, ◌<◌}
use Rattle.std.proofs.Common.{arith}
use Rattle.memory.specs.Block.{Block}
use Rattle.memory.specs.Value.{value_of}
use Rattle.events.specs.declared.Event.{Event}
use Rattle.events.specs.declared.Event.TheVariants.{Recover}
use Rattle.events.specs.declared.Answer.TheVariants.{Recovered}
use Rattle.ledger.specs.Statement.{entered_below, memory_at, Happens, enters, ledger}
use Rattle.ledger.proofs.Moments as T

none_entered : (k : ℕ) (new : ℕ → Bool) (m : Block) (L : ℕ → ℕ) → ((d : ℕ) → d < k → new d ≡ false) → entered_below k new m L ≡ L
unfolding entered_below
none_entered zero new m L h = refl
none_entered (suc k) new m L h = rw (h k (omega arith)) (none_entered k new m L (λ d l. h d (omega arith)))

module _ (n k w : ℕ) (es : List Event) where
  -- the ledger changes only at an instant
  pub still : (i : ℕ) → ((d : ℕ) → d < k → enters n k w es i d ≡ false) → (a : ℕ) → ledger n k w es (suc i) a ≡ ledger n k w es i a
  unfolding ledger
  still i h a = ap (λ (f : ℕ → ℕ). f a) (none_entered k (enters n k w es i) (memory_at n k w es i) (ledger n k w es i) h)

  module _ (nn : n ≤ 64) (kk : k ≤ 16) (ww : w ≤ 8) (kp : 0 < k) where
    -- whenever recovery completes (Z), and at every moment, every word's value is the ledger's
    pub recovered : (i a : ℕ) → Happens n k w es i Recover Recovered → a < n → value_of (memory_at n k w es (suc i)) a ≡ ledger n k w es (suc i) a
    recovered i a h l = T.always n k w es nn kk ww kp (suc i) a

    pub always : (i a : ℕ) → a < n → value_of (memory_at n k w es i) a ≡ ledger n k w es i a
    always i a l = T.always n k w es nn kk ww kp i a
