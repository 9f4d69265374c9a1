-- Each event keeps every number of a word, a status and a body below 2^64; so they are at every moment of a history.
use Rattle.std.specs.Prelude.{◌≡◌, false, List, leb, length, get_or}
use Rattle.std.proofs.Math.Path.{refl}
use Rattle.std.proofs.Common.{ap, subst, arith, leb-false, None, Option, Some, ℕ}
use Prim.Native.Nat.{ℕ, zero, suc, ◌/◌, ◌<◌, ◌≤◌, ◌^◌}
use Rattle.std.proofs.Math.Decide.{dec_lt}
use Rattle.steps.specs.declared.Own.TheVariants.{Operation}
use Rattle.steps.specs.declared.Place
use Rattle.steps.specs.declared.Worker.{Worker}
use Rattle.steps.specs.declared.Worker.TheVariants.{Idle, Building, Working, Reading, ReadClear}
use Rattle.steps.specs.declared.RecoveryPlace.{RecoveryPlace}
use Rattle.steps.specs.declared.RecoveryPlace.TheVariants.{Outside, At}
use Rattle.steps.specs.declared.Effect as F
use Rattle.codes.specs.Place.{place_entry}
use Rattle.memory.specs.declared.Copy.TheVariants.{Cached, Persisted}
use Rattle.memory.specs.declared.Sizes.{Sizes}
use Rattle.memory.specs.Block.{Block}
use Rattle.memory.specs.Content.{word_in, worker_in, recovery_in, clear_body}
use Rattle.memory.specs.Fresh.{sizes_in}
use Rattle.memory.specs.Fields.{Whole}
use Rattle.memory.specs.Value.{entry_for}
use Rattle.events.specs.declared.Event.{Event}
use Rattle.events.specs.declared.Event.TheVariants.{Open, Add, Remove, Submit, Discard, Read, Step, BackWord, BackStatus, BackBody, Crash, Recover}
use Rattle.events.specs.Refusal.{checks_of, refusal_of}
use Rattle.events.specs.First.{NoneHolds, none_holds}
use Rattle.events.specs.Build.{owner_of, lowest_below, opened, build_of}
use Rattle.machine.specs.Step.{seen_in, busy_at, worker_after, plan_at, work_step, read_after, read_step, read_clear_step, step_of}
use Rattle.machine.specs.Recover.{place_after, recovery_plan_at, recovery_step_at, recover_of}
use Rattle.machine.specs.Refused.{all_numbered}
use Rattle.machine.specs.Apply.{acted, unless_refused, apply_of}
use Rattle.ledger.specs.Rules.{read_plan, read_clear_plan}
use Rattle.ledger.specs.Statement.{memory_at}
use Rattle.ledger.specs.View.{cells_of, view}
use Rattle.ledger.specs.Seen.{block_sees}
use Rattle.ledger.specs.Fits.{CellsFit}
use Rattle.ledger.proofs.PlanFits.{plan_fits, read_fits, read_clear_fits, recovery_fits}
use Rattle.ledger.specs.Ranges.{below_n, below_k}
use Rattle.ledger.proofs.Follow.{WorkerFits, or_no}
use Rattle.ledger.specs.Invariant.{Recovery}
use Rattle.ledger.proofs.History.{memory_next, memory_past, memory_whole, memory_sizes, worker_fits}
use Rattle.ledger.proofs.Instant.{inv}
use Rattle.ledger.proofs.Moments.{in_ledger, Differed, sent}
use Rattle.ledger.specs.Small.{Small, fresh_small, worker_small, place_small, performed_small, crash_small, cleared_small, added_small, removed_small}

module _ (n k w : ℕ) (nn : n ≤ 64) (kk : k ≤ 16) (m : Block) (h : Whole m) (sizes : sizes_in m ≡ record { n = n; k = k; w = w }) (fit : CellsFit n k (cells_of m))
    (workers : (v : ℕ) → WorkerFits n k (cells_of m) (worker_in m v)) (place : (d t : ℕ) → recovery_in m ≡ At d t → d < k) (s : Small m) where
  below_16 : (d : ℕ) → leb (sizes_in m).k d ≡ false → d < 16
  below_16 d e = let z = below_k n k w m sizes d e in omega arith

  opened_small : (v : ℕ) (f : Option ℕ) → Small (opened m v f).memory
  opened_small v (Some d) = worker_small (clear_body m d) (cleared_small 13 m d s h) v (Building d)
  opened_small v None = s

  step_small : (v : ℕ) (x : Worker) → WorkerFits n k (cells_of m) x → Small (step_of m v x).memory
  unfolding work_step plan_at read_step read_clear_step
  step_small v Idle f = s
  step_small v (Building d) f = s
  step_small v (Working o d p) f = worker_small _
      (performed_small m s h n k d (omega (arith, f.0)) (plan_at m v o d p).effect (plan_fits n k (cells_of m) fit d f.0 p (seen_in Cached m d (place_entry p)) (block_sees Cached m d (place_entry p)) f.1 (busy_at m v d p) (owner_of o d)).0)
      v (worker_after o d p (plan_at m v o d p).next)
  step_small v (Reading a) f = worker_small _ (performed_small m s h n k 0 (omega arith) (read_plan a (word_in Cached m a)).effect (read_fits n k a f (word_in Cached m a) (fit.word Cached a)).0) v (read_after a (read_plan a (word_in Cached m a)).next)
  step_small v (ReadClear a y) f = worker_small _ (performed_small m s h n k 0 (omega arith) (read_clear_plan a y (word_in Cached m a)).effect (read_clear_fits n k a f y (word_in Cached m a) (fit.word Cached a)).0) v (read_after a (read_clear_plan a y (word_in Cached m a)).next)

  recover_small : (p : RecoveryPlace) → recovery_in m ≡ p → Small (recover_of m k p).memory
  unfolding recovery_step_at recovery_plan_at
  recover_small Outside e = s
  recover_small (At d t) e = place_small _
      (performed_small m s h n k d (let l = place d t e in omega arith) (recovery_plan_at m d t).effect (recovery_fits n k (cells_of m) fit d (t / 2) Persisted (seen_in Persisted m d (t / 2)) (block_sees Persisted m d (t / 2)) t refl))
      (place_after k d (recovery_plan_at m d t).next)

  acted_small : (e : Event) → NoneHolds (checks_of m e) → Small (acted m e).memory
  acted_small (Open v) c = opened_small v (lowest_below m (sizes_in m).k)
  acted_small (Add v a x y) c = let z = or_no _ _ c.1.1.1.1.0 in let i = leb-false (2 ^ 61) x z.0 in let j = leb-false (2 ^ 61) y z.1 in
      added_small m s h (build_of (worker_in m v)) _ (record { address = (let l = below_n n k w m sizes a c.1.1.1.0 in omega arith); expected = omega arith; desired = omega arith })
  acted_small (Remove v a) c = removed_small m s h (build_of (worker_in m v)) (entry_for Cached m (build_of (worker_in m v)) a)
  acted_small (Submit v) c = let d = build_of (worker_in m v) in worker_small m s v (Working (Operation d) d Place.TheVariants.BackBody)
  acted_small (Discard v) c = worker_small m s v Idle
  acted_small (Read v a) c = worker_small m s v (Reading a)
  acted_small (Step v) c = step_small v (worker_in m v) (workers v)
  acted_small (BackWord a) c = performed_small m s h n k 0 (omega arith) (F.TheVariants.BackWord a) (below_n n k w m sizes a c.0)
  acted_small (BackStatus d) c = performed_small m s h n k d (below_16 d c.0) F.TheVariants.BackStatus tt
  acted_small (BackBody d) c = performed_small m s h n k d (below_16 d c.0) F.TheVariants.BackBody tt
  acted_small Crash c = crash_small m s h
  acted_small Recover c = let y : (sizes_in m).k ≡ k = ap (λ (x : Sizes). x.k) sizes in rw y (recover_small (recovery_in m) refl)

  apply_small : (e : Event) → Small (apply_of m e).memory
  unfolding apply_of refusal_of
  apply_small e = go (refusal_of m e) refl
    where
      go : (r : ℕ) → refusal_of m e ≡ r → Small (unless_refused r m e).memory
      go zero q = acted_small e (none_holds (checks_of m e) (all_numbered m e) q)
      go (suc r) q = s

module _ (n k w : ℕ) (nn : n ≤ 64) (kk : k ≤ 16) (ww : w ≤ 8) (kp : 0 < k) (es : List Event) where
  next_small : (i : ℕ) → Small (memory_at n k w es i) → i < length es → Small (memory_at n k w es (suc i))
  next_small i s l =
      let m = memory_at n k w es i in
      let I = inv n k w nn kk ww kp es i in
      rw (memory_next n k w es i l)
      (apply_small n k w nn kk m (memory_whole n k w es i) (memory_sizes n k w es i) I.fits
      (λ v. worker_fits n k (cells_of m) (in_ledger n k w es i) (Differed n k w es i) (sent n k w es i) (worker_in m v) (I.know v))
      (λ d t e. (subst (Recovery k (view m)) e I.place).below) s (get_or es i Crash))

  -- at every moment
  pub always_small : (i : ℕ) → Small (memory_at n k w es i)
  unfolding memory_at
  always_small zero = fresh_small n k w
  always_small (suc i) = elim (dec_lt i (length es)) [
    | yes l ↦ next_small i (always_small i) l
    | no l ↦ rw (memory_past n k w es i (omega arith)) (always_small i)
  ]
