-- More of an operation's instant. One that answered F never has one, whatever comes after. One that still runs, as when a crash cuts it off, and whose descriptor is live in
-- persisted memory, has had its instant exactly if the status there is Succeeded.
use Rattle.std.specs.Prelude.{◌≡◌, refl, ◌≢◌, Bool, true, false, List, ℕ, ◌<◌, ◌≤◌}
use Rattle.std.proofs.Common.{◌∙◌, subst, arith}
use Rattle.std.proofs.Math.Decide.{dec_lt}
use Rattle.word.specs.declared.Status.{Status}
use Rattle.word.specs.declared.Status.TheVariants.{Free}
use Rattle.word.specs.declared.Outcome.TheVariants.{Failed}
use Rattle.memory.specs.declared.Copy.TheVariants.{Persisted}
use Rattle.memory.specs.Content.{status_in}
use Rattle.memory.specs.Fresh.{good_sizes}
use Rattle.memory.specs.Value.{succeeded}
use Rattle.events.specs.declared.Event.{Event}
use Rattle.events.specs.declared.Event.TheVariants.{Step}
use Rattle.events.specs.declared.Answer.TheVariants.{Answered}
use Rattle.ledger.specs.Statement.{memory_at, Happens, enters, answered, Operation, Holds}
use Rattle.ledger.specs.Update.{clash}
use Rattle.ledger.specs.Ranges.{ranges}
use Rattle.ledger.proofs.Moments.{in_ledger}
use Rattle.ledger.proofs.Instant.{inv}
use Rattle.ledger.proofs.Operations.{running}
use Rattle.ledger.proofs.Once.{flag_set, flag_since}

-- of a history that keeps the clauses: none while it runs up to its answer (`failure`), and at its answer it ends
pub never : (n k w : ℕ) (es : List Event) → Holds n k w es → (s v d i : ℕ) → Operation n k w es s v d i → Happens n k w es i (Step v) (Answered Failed)
    → (t : ℕ) → Operation n k w es s v d t → enters n k w es t d ≡ false
never n k w es H s v d i o h t p = elim (dec_lt i t) [
  | yes l ↦ absurd (p.runs.going i o.runs.later l (answered Failed h))
  | no l ↦ (let a = p.runs.later in H.failure s v d i o h t (omega arith) (omega arith))
]

module _ (n k w : ℕ) (sizes : good_sizes n k w ≡ true) (es : List Event) (s v d i : ℕ) (o : Operation n k w es s v d i) where
  -- Succeeded there: it has had its instant since its submission
  pub reached : succeeded (status_in Persisted (memory_at n k w es i) d) ≡ true → (t : ℕ) × (s < t) × (t < i) × (enters n k w es t d ≡ true)
  reached p =
      let r = ranges n k w sizes in
      let l : status_in Persisted (memory_at n k w es i) d ≢ Free = (λ e. let y : succeeded Free ≡ true = subst (λ (x : Status). succeeded x ≡ true) e p in clash (cc)) in
      let f = flag_since n k w r.words r.descriptors r.workers r.some es i d ((inv n k w r.words r.descriptors r.workers r.some es i).agrees.entered d l ∙ p) in
      let q = (running n k w r.words r.descriptors r.workers r.some es s v d i o).1 in
      (f.0, subst (λ (x : ℕ). x < f.0) q f.1, f.2, f.3)

  -- live there and not Succeeded: it has had none
  pub not_reached : status_in Persisted (memory_at n k w es i) d ≢ Free → succeeded (status_in Persisted (memory_at n k w es i) d) ≡ false → (t : ℕ) → s ≤ t → t < i → enters n k w es t d ≡ false
  not_reached l p t a b = go (enters n k w es t d) refl
    where
      out : in_ledger n k w es i d ≡ false
      out = let r = ranges n k w sizes in (inv n k w r.words r.descriptors r.workers r.some es i).agrees.entered d l ∙ p

      go : (x : Bool) → enters n k w es t d ≡ x → enters n k w es t d ≡ false
      go true e =
          let r = ranges n k w sizes in
          let q = (running n k w r.words r.descriptors r.workers r.some es s v d i o).1 in
          let f = flag_set n k w r.words r.descriptors r.workers r.some es i t d e (omega arith) b in
          let z = out in clash (cc)
      go false e = e
