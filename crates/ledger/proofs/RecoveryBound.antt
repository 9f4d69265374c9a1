-- The statements of `RecoverySteps`: recovery takes at most 160 steps, and exactly those that the crash left to be done. Each step that is taken is one of those that are left (`StepsLeft`).
use Rattle.std.specs.Prelude.{◌≡◌, refl, List, length, get_or}
use Rattle.std.proofs.Common.{ap, ◌∙◌, lt-ltb, le-ltb}
use Prim.Native.Nat.{ℕ, zero, suc, ◌+◌, ◌<◌, ◌≤◌}
use native.Mathlib.Omega.{arith}
use Rattle.std.proofs.Math.Decide.{dec_lt}
use Rattle.steps.specs.declared.RecoveryPlace.TheVariants.{At}
use Rattle.memory.specs.declared.Copy.TheVariants.{Persisted}
use Rattle.memory.specs.Block.{Block}
use Rattle.memory.specs.Content.{recovery_in}
use Rattle.memory.specs.Fields.{Whole}
use Rattle.events.specs.declared.Event.{Event}
use Rattle.events.specs.declared.Event.TheVariants.{Crash}
use Rattle.events.specs.declared.Answer.TheVariants.{Ok}
use Rattle.events.specs.Refusal.{first_of, refusal_of}
use Rattle.machine.specs.Apply.{apply_of}
use Rattle.image.specs.Machine.{crash_begins}
use Rattle.image.specs.StepCount.{steps_at, steps_left, first_left, outside_left, from_same}
use Rattle.ledger.specs.Statement.{memory_at, Happens}
use Rattle.ledger.specs.View.{cells_of}
use Rattle.ledger.specs.Seen.{body_length}
use Rattle.ledger.proofs.History.{memory_next, memory_past, memory_whole, event_turns}
use Rattle.ledger.proofs.Instant.{inv}
use Rattle.ledger.specs.Ranges.{ranges}
use Rattle.ledger.specs.Small.{Small, small_fits}
use Rattle.ledger.proofs.SmallKept.{always_small}
use Rattle.ledger.specs.RecoverySteps.{step_at, steps_among, held_in, steps_of, AtMost160, Exactly}
use Rattle.ledger.proofs.StepsLeft.{held_by, none_left, left_most, turn_left}

-- a crash is never refused
crash_ok : (m : Block) → (apply_of m Crash).answer ≡ Ok
unfolding apply_of refusal_of first_of
crash_ok m = refl

crash_place : (m : Block) → Whole m → Small m → recovery_in (apply_of m Crash).memory ≡ At 0 0
unfolding apply_of refusal_of first_of
crash_place m h s = (crash_begins m h (small_fits Persisted m s)).place

same_held : (m : Block) (e : ℕ) → steps_at (held_by (cells_of m)) e ≡ steps_at (held_in m) e
same_held m e = rw (body_length Persisted m e)

module _ (n k w : ℕ) (nn : n ≤ 64) (kk : k ≤ 16) (ww : w ≤ 8) (kp : 0 < k) (es : List Event) where
  abbrev m : ℕ → Block
  m i = memory_at n k w es i

  -- the steps left at moment i
  abbrev left_at : ℕ → ℕ
  left_at i = steps_left k (held_by (cells_of (m i))) (recovery_in (m i))

  -- event i is no crash
  next_left : (i : ℕ) → ¬ (Happens n k w es i Crash Ok) → left_at i ≡ step_at n k w es i + left_at (suc i)
  next_left i q = elim (dec_lt i (length es)) [
    | yes l ↦
        (let I = inv n k w nn kk ww kp es i in
        rw (lt-ltb i (length es) l, memory_next n k w es i l)
        (turn_left n k I (get_or es i Crash) _ _ (event_turns n k w nn kk ww kp es i I (get_or es i Crash))
        (λ e. q (record { there = l; event = e; answer = crash_ok (m i) }))))
    | no l ↦ rw (le-ltb i (length es) (omega arith), memory_past n k w es i (omega arith)) (omega arith)
  ]

  all_left : (i j : ℕ) → ((t : ℕ) → i ≤ t → t < i + j → ¬ (Happens n k w es t Crash Ok)) → left_at i ≡ steps_among n k w es i j + left_at (i + j)
  unfolding steps_among
  all_left i zero q = let z : i + 0 ≡ i = omega arith in rw z (omega arith)
  all_left i (suc j) q =
      let z : i + suc j ≡ suc (i + j) = omega arith in
      let a = all_left i j (λ t l r. q t l (omega arith)) in
      let b = next_left (i + j) (q (i + j) (omega arith) (omega arith)) in
      rw z (omega arith)

  -- a crash begins recovery at descriptor 0
  crash_left : (i : ℕ) → Happens n k w es i Crash Ok → (left_at (suc i) ≤ 160) × (left_at (suc i) ≡ steps_of k (m (suc i)))
  crash_left i h = (
    rw place (left_most n k (cells_of (m (suc i))) (inv n k w nn kk ww kp es (suc i)).fits kp kk),
    ap (steps_left k (held_by (cells_of (m (suc i))))) place ∙ first_left k (held_by (cells_of (m (suc i)))) kp ∙ from_same k (held_in (m (suc i))) (held_by (cells_of (m (suc i)))) 0 (λ e _ _. same_held (m (suc i)) e),
  )
    where
      place : recovery_in (m (suc i)) ≡ At 0 0
      place = ap recovery_in (memory_next n k w es i h.there ∙ ap (λ (e : Event). (apply_of (m i) e).memory) h.event) ∙ crash_place (m i) (memory_whole n k w es i) (always_small n k w nn kk ww kp es i)

pub at_most_160 : AtMost160
at_most_160 n k w e es i j h q =
    let r = ranges n k w e in
    let c = (crash_left n k w r.words r.descriptors r.workers r.some es i h).0 in
    let d = all_left n k w r.words r.descriptors r.workers r.some es (suc i) j (λ t l m. q t (omega arith) (omega arith)) in
    omega arith

pub exactly : Exactly
exactly n k w e es i j h q =
    let r = ranges n k w e in
    let c = (crash_left n k w r.words r.descriptors r.workers r.some es i h).1 in
    let d = all_left n k w r.words r.descriptors r.workers r.some es (suc i) j (λ t l m. q t (omega arith) (omega arith)) in
    let I = inv n k w r.words r.descriptors r.workers r.some es (suc i + j) in (
      λ o. let z = outside_left k (held_by (cells_of (memory_at n k w es (suc i + j)))) (recovery_in (memory_at n k w es (suc i + j))) o in omega arith,
      λ s. none_left n k I (recovery_in (memory_at n k w es (suc i + j))) I.place (omega arith),
    )
