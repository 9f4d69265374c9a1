-- The moments of a history: each comes from the one before by its event; the block stays whole and its sizes stay; and where the invariant holds, the event is a turn.
use Rattle.std.specs.Prelude.{◌≡◌, refl, Bool, true, false, List, [], ◌∷◌, ℕ, zero, suc, ◌≤◌, ◌<◌, take, length, get_or}
use Rattle.std.proofs.Common.{sym, ◌∙◌, subst, arith}
use Rattle.steps.specs.declared.Place.{Place}
use Rattle.steps.specs.declared.Place.TheVariants.{BackBody, StoreUndecided, BackUndecided, Install, InstallClear, Persist, PersistClear, Decide, Settle, SettleClear, Swap, SwapBack, SwapClear, StoreFree, BackFree}
use Rattle.steps.specs.declared.Worker.{Worker}
use Rattle.steps.specs.declared.Worker.TheVariants.{Idle, Building, Working, Reading, ReadClear}
use Rattle.memory.specs.declared.Copy.TheVariants.{Cached}
use Rattle.memory.specs.Block.{Block}
use Rattle.memory.specs.Block.Field.{size}
use Rattle.memory.specs.Content.{worker_in, recovery_in}
use Rattle.memory.specs.Fresh.{sizes_in, fresh_block}
use Rattle.memory.specs.Fields.{Whole}
use Rattle.memory.specs.Laws.{same_sizes}
use Rattle.memory.specs.FreshLaws.{fresh_whole, fresh_sizes}
use Rattle.events.specs.declared.Event.{Event}
use Rattle.events.specs.declared.Event.TheVariants.{Open, Add, Remove, Submit, Discard, Read, Step, BackWord, BackStatus, Crash, Recover}
use Rattle.events.specs.declared.Event as H
use Rattle.events.specs.Build.{owner_of, lowest_below}
use Rattle.machine.specs.Kept.{Spared, spared_kept}
use Rattle.machine.specs.Whole.{apply_whole}
use Rattle.machine.specs.Apply.{apply_of, after_of}
use Rattle.ledger.specs.Statement.{memory_at}
use Rattle.ledger.specs.Update.{clash}
use Rattle.ledger.specs.Cells.{Body, Cells}
use Rattle.ledger.specs.View.{cells_of, view}
use Rattle.ledger.proofs.PlanFits.{Placed}
use Rattle.ledger.proofs.Follow.{Follows, WorkerFits}
use Rattle.ledger.proofs.FollowApply.{apply_follows}
use Rattle.ledger.proofs.Spares.{Apart, step_spares, open_spares, recovery_spares}
use Rattle.ledger.specs.Workers.{OnJob, OwnerKnows, WorkKnows, WorkerKnows}
use Rattle.ledger.specs.Invariant.{Recovery, Invariant}
use Rattle.ledger.proofs.StepTurn.{placed}

-- no event touches the sizes
size_apart : (j : ℕ) → Apart (size j)
size_apart j = record { words = λ c a e. clash (cc); statuses = λ c d e. clash (cc); bodies = λ c d i e. clash (cc) }

size_spared : (m : Block) (e : Event) (j : ℕ) → Spared m e (size j)
size_spared m (Open w) j = open_spares (size j) (size_apart j) w (lowest_below m (sizes_in m).k) (λ i e. clash (cc))
size_spared m (Add w a x y) j = λ i e. clash (cc)
size_spared m (Remove w a) j = λ i e. clash (cc)
size_spared m (Submit w) j = λ i e. clash (cc)
size_spared m (Discard w) j = λ i e. clash (cc)
size_spared m (Read w a) j = λ i e. clash (cc)
size_spared m (Step w) j = step_spares (size j) (size_apart j) m w (worker_in m w) (λ i e. clash (cc))
size_spared m (BackWord a) j = λ e. clash (cc)
size_spared m (BackStatus d) j = λ e. clash (cc)
size_spared m (H.TheVariants.BackBody d) j = λ i e. clash (cc)
size_spared m Crash j = record { words = λ a e. clash (cc); statuses = λ d e. clash (cc); bodies = λ d i e. clash (cc); workers = λ w i e. clash (cc); place = λ i e. clash (cc) }
size_spared m Recover j = recovery_spares (size j) (size_apart j) m (recovery_in m) (λ i e. clash (cc))

pub apply_sizes : (m : Block) (e : Event) → sizes_in (apply_of m e).memory ≡ sizes_in m
apply_sizes m e = same_sizes m (apply_of m e).memory (λ j. spared_kept (size j) m e (size_spared m e j))

-- one more event
after_next : (m : Block) (es : List Event) (i : ℕ) → i < length es → (after_of m (take (suc i) es)).memory ≡ (apply_of (after_of m (take i es)).memory (get_or es i Crash)).memory
after_next m [] i l = absurd (omega arith)
after_next m (e ∷ es) zero l = refl
after_next m (e ∷ es) (suc i) l = after_next (apply_of m e).memory es i (omega arith)

after_past : (m : Block) (es : List Event) (i : ℕ) → length es ≤ i → (after_of m (take (suc i) es)).memory ≡ (after_of m (take i es)).memory
after_past m [] zero l = refl
after_past m [] (suc i) l = refl
after_past m (e ∷ es) zero l = absurd (omega arith)
after_past m (e ∷ es) (suc i) l = after_past (apply_of m e).memory es i (omega arith)

after_both : (m : Block) (es : List Event) (i : ℕ) → Whole m → Whole (after_of m (take i es)).memory × (sizes_in (after_of m (take i es)).memory ≡ sizes_in m)
after_both m es zero h = (h, refl)
after_both m [] (suc i) h = (h, refl)
after_both m (e ∷ es) (suc i) h = let z = after_both (apply_of m e).memory es i (apply_whole m e h) in (z.0, z.1 ∙ apply_sizes m e)

module _ (n k w : ℕ) (es : List Event) where
  pub memory_next : (i : ℕ) → i < length es → memory_at n k w es (suc i) ≡ (apply_of (memory_at n k w es i) (get_or es i Crash)).memory
  unfolding memory_at
  memory_next i l = after_next (fresh_block n k w) es i l

  pub memory_past : (i : ℕ) → length es ≤ i → memory_at n k w es (suc i) ≡ memory_at n k w es i
  unfolding memory_at
  memory_past i l = after_past (fresh_block n k w) es i l

  pub memory_whole : (i : ℕ) → Whole (memory_at n k w es i)
  unfolding memory_at
  memory_whole i = (after_both (fresh_block n k w) es i (fresh_whole n k w)).0

  pub memory_sizes : (i : ℕ) → sizes_in (memory_at n k w es i) ≡ record { n = n; k = k; w = w }
  unfolding memory_at
  memory_sizes i = (after_both (fresh_block n k w) es i (fresh_whole n k w)).1 ∙ fresh_sizes n k w

-- what a worker knows puts its numbers in range
module _ (n k : ℕ) (M : Cells) (In : ℕ → Bool) (Differed : ℕ → Type 0) (Sent : ℕ → Body) where
  job_placed : (d : ℕ) (p : Place) → OnJob n k M In Differed Sent d p → Placed p (length (M.body Cached d))
  job_placed d p h = subst (λ (b : Body). Placed p (length b)) (sym (h.0.body Cached)) (placed M (Sent d) d (Differed d) p h.1)

  owner_placed : (d : ℕ) (p : Place) → OwnerKnows n k M In Differed Sent d p → Placed p (length (M.body Cached d))
  owner_placed d BackBody h = tt
  owner_placed d StoreUndecided h = tt
  owner_placed d BackUndecided h = tt
  owner_placed d (Install i) h = job_placed d (Install i) h
  owner_placed d (InstallClear i v) h = job_placed d (InstallClear i v) h
  owner_placed d (Persist i) h = job_placed d (Persist i) h
  owner_placed d (PersistClear i) h = job_placed d (PersistClear i) h
  owner_placed d (Decide o) h = tt
  owner_placed d Settle h = tt
  owner_placed d SettleClear h = tt
  owner_placed d (Swap i) h = job_placed d (Swap i) h
  owner_placed d (SwapBack i) h = job_placed d (SwapBack i) h
  owner_placed d (SwapClear i) h = job_placed d (SwapClear i) h
  owner_placed d StoreFree h = tt
  owner_placed d (BackFree o) h = tt

  pub worker_fits : (x : Worker) → WorkerKnows n k M In Differed Sent x → WorkerFits n k M x
  worker_fits Idle h = tt
  worker_fits (Building d) h = h.2
  worker_fits (Working o d p) h = (h.1, go (owner_of o d) h.2)
    where
      go : (t : Bool) → WorkKnows n k M In Differed Sent t o d p → Placed p (length (M.body Cached d))
      go true z = owner_placed d p z
      go false z = job_placed d p z.1
  worker_fits (Reading a) h = h
  worker_fits (ReadClear a v) h = h

-- where the invariant holds at a moment, its event is a turn
module _ (n k w : ℕ) (nn : n ≤ 64) (kk : k ≤ 16) (ww : w ≤ 8) (kp : 0 < k) (es : List Event) (i : ℕ) {L : ℕ → ℕ} {In : ℕ → Bool} {Differed : ℕ → Type 0} {Sent : ℕ → Body}
    (I : Invariant n k (view (memory_at n k w es i)) L In Differed Sent) where
  pub event_turns : (e : Event) → Follows n k (memory_at n k w es i) e (apply_of (memory_at n k w es i) e)
  event_turns = apply_follows n k w nn kk ww kp (memory_at n k w es i) (memory_whole n k w es i) (memory_sizes n k w es i) I.fits
      (λ v. worker_fits n k (cells_of (memory_at n k w es i)) In Differed Sent (worker_in (memory_at n k w es i) v) (I.know v))
      (λ d t e. (subst (Recovery k (view (memory_at n k w es i))) e I.place).below)
