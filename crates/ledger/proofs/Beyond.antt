-- A worker that is not below w never owns anything: it is idle in fresh memory, refusal 4 stops every record of it, and no other record touches its row. So that "owned by nobody" and the waiting of
-- step 7, which look at all eight rows of a block, look at the workers of document 01 alone.
use Rattle.std.specs.Prelude.{◌≡◌, ◌≢◌, List, ℕ, zero, suc, ◌≤◌, length, get_or}
use Rattle.std.proofs.Common.{sym, ◌∙◌, subst, arith}
use Rattle.std.proofs.Math.Path.{ap}
use Rattle.std.proofs.Math.Decide.{ℕ_discrete, dec_lt}
use borrow.Author.Tests.{le-leb}
use Rattle.steps.specs.declared.Worker.TheVariants.{Idle}
use Rattle.memory.specs.declared.Sizes.{Sizes}
use Rattle.memory.specs.Block.{Block}
use Rattle.memory.specs.Block.Field.{worker}
use Rattle.memory.specs.Content.{worker_in, recovery_in}
use Rattle.memory.specs.Fresh.{sizes_in}
use Rattle.memory.specs.Fields.{Whole}
use Rattle.memory.specs.Laws.{same_worker}
use Rattle.memory.specs.FreshLaws.{fresh_worker}
use Rattle.events.specs.declared.Event.{Event}
use Rattle.events.specs.declared.Event.TheVariants.{Open, Add, Remove, Submit, Discard, Read, Step, BackWord, BackStatus, Crash, Recover}
use Rattle.events.specs.declared.Event as H
use Rattle.events.specs.Build.{lowest_below}
use Rattle.events.specs.Refusal.{first_of, refusal_of}
use Rattle.machine.specs.Kept.{NotWorker, Spared, spared_kept}
use Rattle.machine.specs.Apply.{apply_of}
use Rattle.ledger.specs.Statement.{memory_at}
use Rattle.ledger.specs.Update.{clash}
use Rattle.ledger.specs.Cells.{State}
use Rattle.ledger.specs.ViewCrash.{view_crash}
use Rattle.ledger.proofs.Spares.{Apart, step_spares, open_spares, recovery_spares}
use Rattle.ledger.proofs.History.{memory_next, memory_past, memory_whole, memory_sizes}

-- an event of another worker does not touch the row of v
row_apart : (v j : ℕ) → Apart (worker v j)
row_apart v j = record { words = λ c a e. clash (cc); statuses = λ c d e. clash (cc); bodies = λ c d i e. clash (cc) }

row_spared : (u v : ℕ) → u ≢ v → (j : ℕ) → NotWorker u (worker v j)
row_spared u v other j i e = other (cc)

module _ (m : Block) (h : Whole m) (v : ℕ) (l : (sizes_in m).w ≤ v) (idle : worker_in m v ≡ Idle) where
  abbrev Stays : Event → Type 0
  Stays e = worker_in (apply_of m e).memory v ≡ Idle

  spared : (e : Event) → ((j : ℕ) → Spared m e (worker v j)) → Stays e
  spared e k = same_worker m (apply_of m e).memory v (λ j. spared_kept (worker v j) m e (k j)) ∙ idle

  -- refusal 4
  unchanged : (e : Event) → (apply_of m e).memory ≡ m → Stays e
  unchanged e k = ap (λ (x : Block). worker_in x v) k ∙ idle

  none : (e : Event) → refusal_of m e ≡ 4 → Stays e
  unfolding apply_of
  none e k = unchanged e (rw k)

  crash_idles : Stays Crash
  unfolding apply_of refusal_of first_of
  crash_idles = ap (λ (s : State). s.worker v) (view_crash m h)

  idle_kept : (e : Event) → Stays e
  unfolding refusal_of first_of
  idle_kept (Open u) = elim (ℕ_discrete u v) [
    | yes z ↦ none (Open u) (rw (z, le-leb (sizes_in m).w v l))
    | no z ↦ spared (Open u) (λ j. open_spares (worker v j) (row_apart v j) u (lowest_below m (sizes_in m).k) (row_spared u v z j))
  ]
  idle_kept (Add u a x y) = spared (Add u a x y) (λ j i e. clash (cc))
  idle_kept (Remove u a) = spared (Remove u a) (λ j i e. clash (cc))
  idle_kept (Submit u) = elim (ℕ_discrete u v) [
    | yes z ↦ none (Submit u) (rw (z, le-leb (sizes_in m).w v l))
    | no z ↦ spared (Submit u) (row_spared u v z)
  ]
  idle_kept (Discard u) = elim (ℕ_discrete u v) [
    | yes z ↦ none (Discard u) (rw (z, le-leb (sizes_in m).w v l))
    | no z ↦ spared (Discard u) (row_spared u v z)
  ]
  idle_kept (Read u a) = elim (ℕ_discrete u v) [
    | yes z ↦ none (Read u a) (rw (z, le-leb (sizes_in m).w v l))
    | no z ↦ spared (Read u a) (row_spared u v z)
  ]
  idle_kept (Step u) = elim (ℕ_discrete u v) [
    | yes z ↦ none (Step u) (rw (z, le-leb (sizes_in m).w v l))
    | no z ↦ spared (Step u) (λ j. step_spares (worker v j) (row_apart v j) m u (worker_in m u) (row_spared u v z j))
  ]
  idle_kept (BackWord a) = spared (BackWord a) (λ j e. clash (cc))
  idle_kept (BackStatus d) = spared (BackStatus d) (λ j e. clash (cc))
  idle_kept (H.TheVariants.BackBody d) = spared (H.TheVariants.BackBody d) (λ j i e. clash (cc))
  idle_kept Crash = crash_idles
  idle_kept Recover = spared Recover (λ j. recovery_spares (worker v j) (row_apart v j) m (recovery_in m) (λ i e. clash (cc)))

module _ (n k w : ℕ) (es : List Event) where
  idle_first : (v : ℕ) → worker_in (memory_at n k w es 0) v ≡ Idle
  unfolding memory_at
  idle_first v = fresh_worker n k w v

  -- at every moment
  pub idle_beyond : (i v : ℕ) → w ≤ v → worker_in (memory_at n k w es i) v ≡ Idle
  idle_beyond zero v l = idle_first v
  idle_beyond (suc i) v l = elim (dec_lt i (length es)) [
    | yes z ↦
        ap (λ (x : Block). worker_in x v) (memory_next n k w es i z)
        ∙ idle_kept (memory_at n k w es i) (memory_whole n k w es i) v (subst (λ (s : Sizes). s.w ≤ v) (sym (memory_sizes n k w es i)) l) (idle_beyond i v l) (get_or es i Crash)
    | no z ↦ ap (λ (x : Block). worker_in x v) (memory_past n k w es i (omega arith)) ∙ idle_beyond i v l
  ]
