-- Every instant belongs to an operation that runs then, with the body that was submitted; and an operation has one instant at most.
use Rattle.std.specs.Prelude.{◌≡◌, ◌≢◌, Bool, List}
use Rattle.std.proofs.Math.Path.{refl}
use Rattle.std.proofs.Common.{sym, ◌∙◌, ap, subst, ⊎_elim, eqb-true}
use Rattle.std.proofs.Math.Bool.{true, false, cond}
use Prim.Native.Nat.{ℕ, zero, suc, ◌≤◌, ◌<◌}
use native.Mathlib.Omega.{arith}
use Rattle.std.proofs.Math.Decide.{dec_lt, ℕ_discrete}
use Rattle.word.specs.declared.Status.{Status}
use Rattle.word.specs.declared.Status.TheVariants.{Free}
use Rattle.steps.specs.declared.Worker.{Worker}
use Rattle.steps.specs.declared.Worker.TheVariants.{Idle, Building, Working, Reading, ReadClear}
use Rattle.steps.specs.declared.RecoveryPlace.{RecoveryPlace}
use Rattle.steps.specs.declared.RecoveryPlace.TheVariants.{Outside, At}
use Rattle.memory.specs.declared.Copy.TheVariants.{Cached, Persisted}
use Rattle.memory.specs.Block.{Block}
use Rattle.memory.specs.Content.{worker_in}
use Rattle.memory.specs.Value.{succeeded}
use Rattle.events.specs.declared.Event.{Event}
use Rattle.ledger.specs.Statement.{memory_at, enters, Operation, AsSubmitted}
use Rattle.ledger.specs.Update.{clash}
use Rattle.ledger.specs.Cells.{Body, Cells, State}
use Rattle.ledger.specs.View.{cells_of, view}
use Rattle.ledger.specs.StatusRules.{fires}
use Rattle.ledger.specs.Fire.{fires_same}
use Rattle.ledger.specs.Workers.{Owns, WorkerKnows}
use Rattle.ledger.specs.Invariant.{AtEntries, AtEnd, Recovering, Recovery}
use Rattle.ledger.proofs.Moments.{begun, since, since_old, since_new, in_ledger, Differed, sent}
use Rattle.ledger.proofs.Instant.{inv, fired, all, live}
use Rattle.ledger.proofs.Course.{Runs}
use Rattle.ledger.proofs.Operations.{begun_none, running, runner}

-- where the two copies are alike, or the cached one is Free, nothing fires
alike_none : (c p : Status) → c ≡ p → fires c p ≡ true → ⊥
alike_none c p e f = let z = fires_same p in let y : fires p p ≡ true = subst (λ (x : Status). fires x p ≡ true) e f in clash (cc)

pub free_none : (c p : Status) → c ≡ Free → fires c p ≡ true → ⊥
free_none c p e f = let y : fires Free p ≡ true = subst (λ (x : Status). fires x p ≡ true) e f in clash (cc)

-- so nothing fires in recovery
recovery_none : (k : ℕ) (s : State) (e t d : ℕ) → Recovering k s e t → fires (s.cells.status Cached d) (s.cells.status Persisted d) ≡ true → ⊥
recovery_none k s e t d R f = elim (ℕ_discrete d e) [
  | yes p ↦ ⊎_elim (λ (z : AtEntries s.cells e t). alike_none (c d) (q d) (ap c p ∙ z.alike ∙ ap q (sym p)) f) (λ (z : AtEnd s.cells e t). free_none (c d) (q d) (ap c p ∙ z.cached) f) R.here
  | no p ↦ elim (dec_lt d e) [ yes l ↦ free_none (c d) (q d) (R.behind Cached d l) f | no l ↦ alike_none (c d) (q d) (R.ahead d (omega arith)) f ]
]
  where
    c : ℕ → Status
    c = s.cells.status Cached

    q : ℕ → Status
    q = s.cells.status Persisted

-- an owner of what is live runs it
owner_runs : (n k : ℕ) (M : Cells) (In : ℕ → Bool) (D : ℕ → Type 0) (Sent : ℕ → Body) (x : Worker) (d : ℕ) → WorkerKnows n k M In D Sent x → M.status Persisted d ≢ Free → Owns x d → Runs x d
owner_runs n k M In D Sent Idle d h l o = o
owner_runs n k M In D Sent (Building e) d h l o = absurd (l (ap (M.status Persisted) (sym (eqb-true e d o)) ∙ h.1))
owner_runs n k M In D Sent (Working y e p) d h l o = o
owner_runs n k M In D Sent (Reading a) d h l o = o
owner_runs n k M In D Sent (ReadClear a v) d h l o = o

module _ (n k w : ℕ) (nn : n ≤ 64) (kk : k ≤ 16) (ww : w ≤ 8) (kp : 0 < k) (es : List Event) where
  abbrev m : ℕ → Block
  m i = memory_at n k w es i

  -- its owner
  owner : (i d : ℕ) → enters n k w es i d ≡ true → (v : ℕ) × Runs (worker_in (m i) v) d
  owner i d e = go (view (m i)).recovery (inv n k w nn kk ww kp es i).place
    where
      go : (p : RecoveryPlace) → Recovery k (view (m i)) p → (v : ℕ) × Runs (worker_in (m i) v) d
      go Outside t = let l = live n k w nn kk ww kp es i d e in let z = t Persisted d l in
          (z.0, owner_runs n k (cells_of (m i)) (in_ledger n k w es i) (Differed n k w es i) (sent n k w es i) (worker_in (m i) z.0) d ((inv n k w nn kk ww kp es i).know z.0) l z.1)
      go (At c t) R = absurd (recovery_none k (view (m i)) c t d R (fired n k w nn kk ww kp es i d e))

  -- its body is the one of the latest submission
  body_sent : (i d : ℕ) → enters n k w es i d ≡ true → AsSubmitted n k w es (since n k w es i d) i d
  body_sent i d e = ((inv n k w nn kk ww kp es i).bodies Persisted d (live n k w nn kk ww kp es i d e)).1

  pub owned : (i d : ℕ) → enters n k w es i d ≡ true → (s : ℕ) × (v : ℕ) × Operation n k w es s v d i × AsSubmitted n k w es s i d
  owned i d e = let z = owner i d e in (since n k w es i d, z.0, runner n k w nn kk ww kp es i z.0 d z.1, body_sent i d e)

  pub as_submitted : (s v i d : ℕ) → enters n k w es i d ≡ true → Operation n k w es s v d i → AsSubmitted n k w es s i d
  as_submitted s v i d e o = subst (λ (x : ℕ). AsSubmitted n k w es x i d) (running n k w nn kk ww kp es s v d i o).1 (body_sent i d e)

  -- at its instant an operation is not in the ledger, and nothing is submitted
  out_then : (i d : ℕ) → enters n k w es i d ≡ true → in_ledger n k w es i d ≡ false
  out_then i d e = (inv n k w nn kk ww kp es i).agrees.entered d (live n k w nn kk ww kp es i d e) ∙ ap succeeded (all n k w nn kk ww kp es i d e).1

  old_then : (i d : ℕ) → enters n k w es i d ≡ true → begun n k w es i d ≡ false
  old_then i d e = let z = owner i d e in begun_none n k w nn kk ww kp es i z.0 d z.1

  enters_true : (i d : ℕ) → begun n k w es i d ≡ false → enters n k w es i d ≡ true → in_ledger n k w es (suc i) d ≡ true
  unfolding in_ledger
  enters_true i d b e = rw (b, e)

  stays_true : (i d : ℕ) → begun n k w es i d ≡ false → in_ledger n k w es i d ≡ true → in_ledger n k w es (suc i) d ≡ true
  unfolding in_ledger
  stays_true i d b e = rw (b, e) (go (enters n k w es i d))
    where
      go : (t : Bool) → cond t true true ≡ true
      go true = refl
      go false = refl

  -- AN INSTANT SINCE THE SUBMISSION is known to the flag
  pub flag_set : (i t d : ℕ) → enters n k w es t d ≡ true → since n k w es i d ≤ t → t < i → in_ledger n k w es i d ≡ true
  flag_set zero t d e l b = absurd (omega arith)
  flag_set (suc i) t d e l b = elim (ℕ_discrete t i) [
    | yes p ↦ (let z : enters n k w es i d ≡ true = subst (λ (x : ℕ). enters n k w es x d ≡ true) p e in enters_true i d (old_then i d z) z)
    | no p ↦ go p (begun n k w es i d) refl (λ x. flag_set i t d e x (omega arith))
  ]
    where
      go : t ≢ i → (x : Bool) → begun n k w es i d ≡ x → (since n k w es i d ≤ t → in_ledger n k w es i d ≡ true) → in_ledger n k w es (suc i) d ≡ true
      go p true q f = let z = since_new n k w es i d q in absurd (omega arith)
      go p false q f = let z = since_old n k w es i d q in stays_true i d q (f (omega arith))

  -- and the other way round
  pub flag_since : (i d : ℕ) → in_ledger n k w es i d ≡ true → (t : ℕ) × (since n k w es i d < t) × (t < i) × (enters n k w es t d ≡ true)
  unfolding in_ledger
  flag_since zero d h = clash (cc)
  flag_since (suc i) d h = go (begun n k w es i d) (enters n k w es i d) refl refl (flag_since i d) h
    where
      go : (x y : Bool) → begun n k w es i d ≡ x → enters n k w es i d ≡ y
          → (in_ledger n k w es i d ≡ true → (t : ℕ) × (since n k w es i d < t) × (t < i) × (enters n k w es t d ≡ true))
          → cond x false (cond y true (in_ledger n k w es i d)) ≡ true → (t : ℕ) × (since n k w es (suc i) d < t) × (t < suc i) × (enters n k w es t d ≡ true)
      go true y p q f h = clash (cc)
      go false true p q f h = let z = owner i d q in let l = (runner n k w nn kk ww kp es i z.0 d z.1).runs.later in rw (since_old n k w es i d p) (i, l, omega arith, q)
      go false false p q f h = let z = f h in rw (since_old n k w es i d p) (z.0, z.1, (let l = z.2 in omega arith), z.3)

  -- IT HAS NO OTHER
  no_later : (i j d s v : ℕ) → enters n k w es i d ≡ true → enters n k w es j d ≡ true → Operation n k w es s v d i → Operation n k w es s v d j → i < j → ⊥
  no_later i j d s v e f o p l =
      let x = (running n k w nn kk ww kp es s v d j p).1 in
      let y = o.runs.later in
      let a = flag_set j i d e (omega arith) l in
      let b = out_then j d f in clash (cc)

  pub once : (i j d s v : ℕ) → enters n k w es i d ≡ true → enters n k w es j d ≡ true → Operation n k w es s v d i → Operation n k w es s v d j → i ≡ j
  once i j d s v e f o p = elim (dec_lt i j) [
    | yes l ↦ absurd (no_later i j d s v e f o p l)
    | no l ↦ elim (dec_lt j i) [ yes g ↦ absurd (no_later j i d s v f e p o g) | no g ↦ omega arith ]
  ]
