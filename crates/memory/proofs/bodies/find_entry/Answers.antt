use Rattle.std.proofs.Common.{◌≡◌, ◌<◌, ℕ, zero, suc, Bool, true, false, cond, Some, None, arith, rules}
use Rattle.memory.specs.Value.{has_at, entry_for}
use Rattle.memory.proofs.bodies.find_entry.Goals as goal

found : (p : ℕ → Bool) (i : ℕ) → i < 4 → ((k : ℕ) → k < i → p k ≡ false) → p i ≡ true
    → Some i ≡ cond (p 0) (Some 0) (cond (p 1) (Some 1) (cond (p 2) (Some 2) (cond (p 3) (Some 3) None)))
found p zero h b e = simp e
found p (suc zero) h b e = simp (b 0 (omega arith), e)
found p (suc (suc zero)) h b e = simp (b 0 (omega arith), b 1 (omega arith), e)
found p (suc (suc (suc zero))) h b e = simp (b 0 (omega arith), b 1 (omega arith), b 2 (omega arith), e)
found p (suc (suc (suc (suc i)))) h b e = absurd (omega arith)

pub returns-then-has_at : goal.returns-then-has_at
unfolding entry_for
returns-then-has_at c =
    found (λ k. has_at c.args.c c.args.m.now c.args.d c.args.a k) c.loop-i.i c.loop-i-test.true c.loop-i.invariant (search (rules))

pub returns : goal.returns
unfolding entry_for
returns c =
    let b : (k : ℕ) → k < 4 → has_at c.args.c c.args.m.now c.args.d c.args.a k ≡ false = λ k h. c.loop-i.invariant k (omega arith) in
    simp (b 0 (omega arith), b 1 (omega arith), b 2 (omega arith), b 3 (omega arith))
