-- WHEN RECOVERY COMPLETES (Z), at whatever step of whatever history: recovery is over, every worker is idle, and in both copies every status is Free and every word is plain,
-- with the ledger's value.
use Rattle.std.specs.Prelude.{◌≡◌, refl, ◌≢◌, Bool, true, List, ℕ, suc}
use Rattle.std.proofs.Common.{sym, ap, ◌∙◌, subst}
use Rattle.word.specs.declared.Sort.{Sort}
use Rattle.word.specs.declared.Sort.TheVariants.{Plain, Pointer, Neither}
use Rattle.word.specs.declared.Status.{Status}
use Rattle.word.specs.declared.Status.TheVariants.{Free, Undecided, Decided, Bad}
use Rattle.steps.specs.declared.Worker.{Worker}
use Rattle.steps.specs.declared.Worker.TheVariants.{Idle}
use Rattle.steps.specs.declared.RecoveryPlace.{RecoveryPlace}
use Rattle.steps.specs.declared.RecoveryPlace.TheVariants.{Outside, At}
use Rattle.memory.specs.declared.Copy.{Copy}
use Rattle.memory.specs.declared.Copy.TheVariants.{Persisted}
use Rattle.memory.specs.Block.{Block}
use Rattle.memory.specs.Content.{word_in, status_in, worker_in, recovery_in}
use Rattle.memory.specs.Fresh.{good_sizes}
use Rattle.events.specs.declared.Event.{Event}
use Rattle.events.specs.declared.Event.TheVariants.{Recover}
use Rattle.events.specs.declared.Answer as A
use Rattle.events.specs.declared.Answer.TheVariants.{Recovered}
use Rattle.machine.specs.Recover.{recovery_answer, place_after}
use Rattle.ledger.specs.Statement.{memory_at, Happens, ledger}
use Rattle.ledger.specs.Update.{clash}
use Rattle.ledger.specs.Cells.{Cell, cell_of, State, Body}
use Rattle.ledger.specs.View.{cells_of, view}
use Rattle.ledger.specs.Meaning.{means}
use Rattle.ledger.proofs.Machine.{Turn, refused, opens, adds, removes, submits, discards, begins, works, reads, clears, backs_word, backs_status, backs_body, crashes, recovers}
use Rattle.ledger.specs.Rules.{recovery_plan}
use Rattle.ledger.specs.Fits as F
use Rattle.ledger.specs.Workers.{Owns}
use Rattle.ledger.specs.Invariant.{Invariant, Recovery}
use Rattle.ledger.specs.Ranges.{Ranges, ranges}
use Rattle.ledger.proofs.Moments.{in_ledger, Differed, sent}
use Rattle.ledger.proofs.Instant.{inv}
use Rattle.ledger.proofs.Operations.{turn_at, answers}

out_only : (p : RecoveryPlace) → recovery_answer p ≡ Recovered → p ≡ Outside
out_only Outside e = refl
out_only (At d t) e = clash (cc)

is_free : (s : Status) → (s ≢ Free → ⊥) → s ≡ Free
is_free Free h = refl
is_free Undecided h = absurd (h (λ e. clash (cc)))
is_free (Decided o x) h = absurd (h (λ e. clash (cc)))
is_free (Bad x) h = absurd (h (λ e. clash (cc)))

-- the turn that answers Z
module _ (n k : ℕ) {s : State} {L : ℕ → ℕ} {In : ℕ → Bool} {D : ℕ → Type 0} {Sent : ℕ → Body} (I : Invariant n k s L In D Sent) where
  turn_over : (e : Event) (t : State) (r : A.Answer) → Turn n k s e t r → e ≡ Recover → r ≡ Recovered → (t.recovery ≡ Outside) × ((v : ℕ) → t.worker v ≡ Idle)
  turn_over e t r (refused f x) p q = clash (cc)
  turn_over e t r (opens u c a l y b o) p q = clash (cc)
  turn_over e t r (adds u c j x b a g y l) p q = clash (cc)
  turn_over e t r (removes u c x j b a y) p q = clash (cc)
  turn_over e t r (submits u c a o) p q = clash (cc)
  turn_over e t r (discards u c a) p q = clash (cc)
  turn_over e t r (begins u x a o) p q = clash (cc)
  turn_over e t r (works u o c j x busy a y alone) p q = clash (cc)
  turn_over e t r (reads u x y a o) p q = clash (cc)
  turn_over e t r (clears u x y j a o) p q = clash (cc)
  turn_over e t r (backs_word a o) p q = clash (cc)
  turn_over e t r (backs_status c o) p q = clash (cc)
  turn_over e t r (backs_body c o) p q = clash (cc)
  turn_over e t r crashes p q = clash (cc)
  turn_over e t r (recovers c j x o y) p q = (out_only (place_after k c (recovery_plan c j x).next) q, λ v. (subst (Recovery k s) o I.place).quiet v)

module _ (n k w : ℕ) (sizes : good_sizes n k w ≡ true) (es : List Event) (i : ℕ) (h : Happens n k w es i Recover Recovered) where
  abbrev m : Block
  m = memory_at n k w es (suc i)

  abbrev r : Ranges n k w
  r = ranges n k w sizes

  then : Invariant n k (view m) (ledger n k w es (suc i)) (in_ledger n k w es (suc i)) (Differed n k w es (suc i)) (sent n k w es (suc i))
  then = inv n k w r.words r.descriptors r.workers r.some es (suc i)

  over : (recovery_in m ≡ Outside) × ((v : ℕ) → worker_in m v ≡ Idle)
  over =
      turn_over n k (inv n k w r.words r.descriptors r.workers r.some es i) _ _ _ (turn_at n k w r.words r.descriptors r.workers r.some es i h.there) h.event
      (answers n k w r.words r.descriptors r.workers r.some es i Recover Recovered h)

  pub outside : recovery_in m ≡ Outside
  outside = over.0

  pub all_idle : (v : ℕ) → worker_in m v ≡ Idle
  all_idle = over.1

  pub all_free : (c : Copy) (d : ℕ) → status_in c m d ≡ Free
  all_free c d = is_free (status_in c m d) (λ l.
      let t = subst (Recovery k (view m)) outside then.place c d l in
      let o : Owns Idle d = subst (λ (x : Worker). Owns x d) (all_idle t.0) t.1 in clash (cc))

  pub all_plain : (c : Copy) (a : ℕ) → (dirty : Bool) × (word_in c m a ≡ Plain (ledger n k w es (suc i) a) dirty)
  all_plain c a = go (word_in c m a) refl
    where
      go : (x : Sort) → word_in c m a ≡ x → (dirty : Bool) × (word_in c m a ≡ Plain (ledger n k w es (suc i) a) dirty)
      go (Plain v dirty) e =
          let q : v ≡ ledger n k w es (suc i) a = sym (ap (λ (x : Sort). means (cells_of m) a (cell_of x)) e) ∙ then.agrees.value c a in
          (dirty, e ∙ ap (λ (x : ℕ). Plain x dirty) q)
      go (Pointer d dirty) e = absurd ((then.agrees.live c a d (ap cell_of e)).0 (all_free Persisted d))
      go (Neither y) e = absurd (subst (λ (x : Cell). F.CellFits n k x) (ap cell_of e) (then.fits.word c a))
