-- The operations of a history: one that runs is a worker's, its submission is the latest of its descriptor; and the other way round.
use Rattle.std.specs.Prelude.{◌≡◌, refl, ◌⊎◌, Bool, true, false, List, ltb, get_or}
use Rattle.std.proofs.Common.{sym, ◌∙◌, inl, inr, arith}
use Rattle.std.proofs.Math.Path.{ap, subst}
use Rattle.std.proofs.Math.Logic.{⊎_elim}
use Prim.Native.Nat.{ℕ, zero, suc, ◌≤◌, ◌<◌}
use Rattle.std.proofs.Math.Decide.{dec_lt, ℕ_discrete}
use Rattle.std.proofs.Math.Dec.{eqb}
use Rattle.std.proofs.Math.ListN.{length}
use borrow.Author.Tests.{eq-eqb, lt-ltb, ltb-true, eqb-true}
use Rattle.steps.specs.declared.Worker.{Worker}
use Rattle.steps.specs.declared.Worker.TheVariants.{Idle, Building, Working, Reading, ReadClear}
use Rattle.memory.specs.Block.{Block}
use Rattle.memory.specs.Content.{worker_in}
use Rattle.events.specs.declared.Event.{Event}
use Rattle.events.specs.declared.Event.TheVariants.{Open, Add, Remove, Submit, Discard, Read, Step, BackWord, BackStatus, BackBody, Crash, Recover}
use Rattle.events.specs.declared.Answer.{Answer}
use Rattle.events.specs.declared.Answer.TheVariants.{Ok, Opened, Moved, Helping, Waits, Answered, Shows, Recovering, Recovered, Refused}
use Rattle.events.specs.Build.{build_of}
use Rattle.events.specs.First.{both}
use Rattle.machine.specs.Apply.{apply_of}
use Rattle.ledger.specs.Statement.{memory_at, Happens, Ends, crash, answered, shown, Operation, enters}
use Rattle.ledger.specs.Update.{clash}
use Rattle.ledger.specs.Cells.{State}
use Rattle.ledger.specs.View.{view}
use Rattle.ledger.specs.ViewCrash.{view_fresh}
use Rattle.ledger.specs.Workers.{Owns}
use Rattle.ledger.proofs.Machine.{Turn}
use Rattle.ledger.proofs.History.{memory_next, memory_past, event_turns}
use Rattle.ledger.proofs.Moments.{is_ok, begins, begun, since, since_old, since_new}
use Rattle.ledger.proofs.Instant.{inv}
use Rattle.ledger.proofs.Course.{Runs, EndsBy, by_crash, by_answer, by_value, turn_keeps, turn_came, turn_ends, turn_submits}

pub owns_runs : (x : Worker) (d : ℕ) → Runs x d → Owns x d
owns_runs Idle d h = clash (cc)
owns_runs (Building e) d h = clash (cc)
owns_runs (Working o e p) d h = h
owns_runs (Reading a) d h = clash (cc)
owns_runs (ReadClear a v) d h = clash (cc)

is-ok : (r : Answer) → is_ok r ≡ true → r ≡ Ok
is-ok Ok e = refl
is-ok (Opened d) e = clash (cc)
is-ok Moved e = clash (cc)
is-ok (Helping d) e = clash (cc)
is-ok Waits e = clash (cc)
is-ok (Answered o) e = clash (cc)
is-ok (Shows v) e = clash (cc)
is-ok Recovering e = clash (cc)
is-ok Recovered e = clash (cc)
is-ok (Refused r) e = clash (cc)

begins_by : (m : Block) (e : Event) (d : ℕ) → begins m e d ≡ true → (v : ℕ) × (e ≡ Submit v) × ((apply_of m (Submit v)).answer ≡ Ok) × (build_of (worker_in m v) ≡ d)
begins_by m (Open w) d h = clash (cc)
begins_by m (Add w a x y) d h = clash (cc)
begins_by m (Remove w a) d h = clash (cc)
begins_by m (Submit v) d h = let z = both _ _ h in (v, refl, is-ok _ z.0, eqb-true _ _ z.1)
begins_by m (Discard w) d h = clash (cc)
begins_by m (Read w a) d h = clash (cc)
begins_by m (Step w) d h = clash (cc)
begins_by m (BackWord a) d h = clash (cc)
begins_by m (BackStatus e) d h = clash (cc)
begins_by m (BackBody e) d h = clash (cc)
begins_by m Crash d h = clash (cc)
begins_by m Recover d h = clash (cc)

module _ (n k w : ℕ) (nn : n ≤ 64) (kk : k ≤ 16) (ww : w ≤ 8) (kp : 0 < k) (es : List Event) where
  abbrev m : ℕ → Block
  m i = memory_at n k w es i

  abbrev event : ℕ → Event
  event i = get_or es i Crash

  abbrev answer : ℕ → Answer
  answer i = (apply_of (m i) (event i)).answer

  pub turn_at : (i : ℕ) → i < length es → Turn n k (view (m i)) (event i) (view (m (suc i))) (answer i)
  turn_at i l = subst (λ (x : Block). Turn n k (view (m i)) (event i) (view x) (answer i)) (sym (memory_next n k w es i l))
      (event_turns n k w nn kk ww kp es i (inv n k w nn kk ww kp es i) (event i))

  pub answers : (i : ℕ) (e : Event) (r : Answer) → Happens n k w es i e r → answer i ≡ r
  answers i e r h = ap (λ (x : Event). (apply_of (m i) x).answer) h.event ∙ h.answer

  pub happens : (i : ℕ) (e : Event) (r : Answer) → i < length es → event i ≡ e → answer i ≡ r → Happens n k w es i e r
  happens i e r l p q = record { there = l; event = p; answer = ap (λ (x : Event). (apply_of (m i) x).answer) (sym p) ∙ q }

  pub ends_by : (v i : ℕ) → Ends n k w es v i → (i < length es) × EndsBy v (event i) (answer i)
  ends_by v i (crash h) = (h.there, by_crash h.event (answers i _ _ h))
  ends_by v i (answered o h) = (h.there, by_answer o h.event (answers i _ _ h))
  ends_by v i (shown x h) = (h.there, by_value x h.event (answers i _ _ h))

  pub by_ends : (v i : ℕ) → i < length es → EndsBy v (event i) (answer i) → Ends n k w es v i
  by_ends v i l (by_crash p q) = crash (happens i _ _ l p q)
  by_ends v i l (by_answer o p q) = answered o (happens i _ _ l p q)
  by_ends v i l (by_value x p q) = shown x (happens i _ _ l p q)

  -- one event on, and one back
  worker_keeps : (i v d : ℕ) → Runs (worker_in (m i) v) d → ¬ (Ends n k w es v i) → Runs (worker_in (m (suc i)) v) d
  worker_keeps i v d h q = elim (dec_lt i (length es)) [
    | yes l ↦ ⊎_elim (λ z. z) (λ z. absurd (q (by_ends v i l z))) (turn_keeps n k (view (m i)) v d _ _ _ (turn_at i l) h)
    | no l ↦ rw (memory_past n k w es i (omega arith)) h
  ]

  abbrev Submitted : ℕ → ℕ → ℕ → Type 0
  Submitted i v d = Happens n k w es i (Submit v) Ok × (worker_in (m i) v ≡ Building d)

  worker_came : (i v d : ℕ) → Runs (worker_in (m (suc i)) v) d → Runs (worker_in (m i) v) d ⊎ Submitted i v d
  worker_came i v d h = elim (dec_lt i (length es)) [
    | yes l ↦ ⊎_elim (λ z. inl z) (λ z. inr (happens i _ _ l z.0 z.1, z.2)) (turn_came n k (view (m i)) v d _ _ _ (turn_at i l) h)
    | no l ↦ inl (rw (memory_past n k w es i (omega arith)) at h)
  ]

  worker_going : (i v d : ℕ) → Runs (worker_in (m (suc i)) v) d → ¬ (Ends n k w es v i)
  worker_going i v d h e = let z = ends_by v i e in turn_ends n k (view (m i)) v d _ _ _ (turn_at i z.0) z.1 h

  -- an accepted submission of d
  begun_by : (i d : ℕ) → begun n k w es i d ≡ true → (v : ℕ) × Submitted i v d
  unfolding begun
  begun_by i d h =
      let z = both (ltb i (length es)) (begins (m i) (event i) d) h in
      let l : i < length es = ltb-true _ _ z.0 in
      let y = begins_by (m i) (event i) d z.1 in
      let g : Happens n k w es i (Submit y.0) Ok = record { there = l; event = y.1; answer = y.2 } in
      let x = turn_submits n k (view (m i)) y.0 d _ _ _ (turn_at i l) y.1 (answers i _ _ g) in
      (y.0, (g, x.1 ∙ ap Building (ap build_of (sym x.1) ∙ y.3)))

  pub begun_new : (i v d : ℕ) → Submitted i v d → begun n k w es i d ≡ true
  unfolding begun
  begun_new i v d h = rw (lt-ltb i (length es) h.0.there, h.0.event, h.0.answer) (ap (λ (x : Worker). eqb (build_of x) d) h.1 ∙ eq-eqb d d refl)

  -- no second submission of what is owned by one that runs
  pub begun_none : (i v d : ℕ) → Runs (worker_in (m i) v) d → begun n k w es i d ≡ false
  begun_none i v d h = go (begun n k w es i d) refl
    where
      go : (t : Bool) → begun n k w es i d ≡ t → begun n k w es i d ≡ false
      go true e =
          let z = begun_by i d e in
          let p : v ≡ z.0 = (inv n k w nn kk ww kp es i).one v z.0 d (owns_runs (worker_in (m i) v) d h) (subst (λ (x : Worker). Owns x d) (sym z.1.1) (eq-eqb d d refl)) in
          let y : Runs (Building d) d = subst (λ (x : Worker). Runs x d) (ap (worker_in (m i)) p ∙ z.1.1) h in clash (cc)
      go false e = e

  -- AN OPERATION THAT RUNS: its worker runs d, and its submission is the latest of d
  pub running : (s v d i : ℕ) → Operation n k w es s v d i → Runs (worker_in (m i) v) d × (since n k w es i d ≡ s)
  running s v d zero o = let z = o.runs.later in absurd (omega arith)
  running s v d (suc i) o = elim (ℕ_discrete s i) [
    | yes p ↦ (let g : Submitted i v d = subst (λ (x : ℕ). Submitted x v d) p (o.accepted, o.built) in
        let x = turn_submits n k (view (m i)) v d _ _ _ (turn_at i g.0.there) g.0.event (answers i _ _ g.0) in
        let c : x.0 ≡ d = ap build_of (sym x.1 ∙ g.1) in
        (rw x.2 (eq-eqb _ _ c), since_new n k w es i d (begun_new i v d g) ∙ sym p))
    | no p ↦ (let l = o.runs.later in
        let z = running s v d i (record { accepted = o.accepted; built = o.built; runs = record { later = omega arith; going = λ t x y. o.runs.going t x (omega arith) } }) in
        (worker_keeps i v d z.0 (o.runs.going i (omega arith) (omega arith)), since_old n k w es i d (begun_none i v d z.0) ∙ z.1))
  ]

  -- and the other way round
  pub runner : (i v d : ℕ) → Runs (worker_in (m i) v) d → Operation n k w es (since n k w es i d) v d i
  unfolding memory_at
  runner zero v d h = let y : Runs Idle d = subst (λ (x : State). Runs (x.worker v) d) (view_fresh n k w) h in clash (cc)
  runner (suc i) v d h = ⊎_elim (λ g. old g (runner i v d g)) new (worker_came i v d h)
    where
      old : Runs (worker_in (m i) v) d → Operation n k w es (since n k w es i d) v d i → Operation n k w es (since n k w es (suc i) d) v d (suc i)
      old g o = let l = o.runs.later in rw (since_old n k w es i d (begun_none i v d g)) (record {
        accepted = o.accepted;
        built = o.built;
        runs = record { later = omega arith; going = λ t x y. elim (ℕ_discrete t i) [ yes p ↦ rw p (worker_going i v d h) | no p ↦ o.runs.going t x (omega arith) ] };
      })

      new : Submitted i v d → Operation n k w es (since n k w es (suc i) d) v d (suc i)
      new g = rw (since_new n k w es i d (begun_new i v d g)) (record { accepted = g.0; built = g.1; runs = record { later = omega arith; going = λ t x y. absurd (omega arith) } })

  -- one operation on d runs at a time
  pub of_one : (i d s v t u : ℕ) → enters n k w es i d ≡ true → Operation n k w es s v d i → Operation n k w es t u d i → (s ≡ t) × (v ≡ u)
  of_one i d s v t u e o p =
      let x = running s v d i o in
      let y = running t u d i p in
      (sym x.1 ∙ y.1, (inv n k w nn kk ww kp es i).one v u d (owns_runs (worker_in (m i) v) d x.0) (owns_runs (worker_in (m i) u) d y.0))
