-- What stands behind an answer S, F or V: only a step is answered so; behind S and F there is an operation of that worker, which runs then, behind V a read. So the clauses on answers say something of every such answer.
use Rattle.std.specs.Prelude.{◌≡◌, refl, Bool, true, false, List, ℕ, ◌≤◌, ◌<◌}
use Rattle.std.proofs.Common.{sym, ◌∙◌, ap, subst}
use Rattle.word.specs.declared.Outcome.{Outcome}
use Rattle.steps.specs.declared.Place.TheVariants.{BackFree}
use Rattle.steps.specs.declared.Own.{Own}
use Rattle.steps.specs.declared.Worker.{Worker}
use Rattle.steps.specs.declared.Worker.TheVariants.{Working}
use Rattle.steps.specs.declared.RecoveryPlace.{RecoveryPlace}
use Rattle.steps.specs.declared.RecoveryPlace.TheVariants.{Outside, At}
use Rattle.ledger.specs.Rules.{recovery_plan}
use Rattle.memory.specs.Block.{Block}
use Rattle.memory.specs.Content.{worker_in}
use Rattle.events.specs.declared.Event.{Event}
use Rattle.events.specs.declared.Event.TheVariants.{Read, Step}
use Rattle.events.specs.declared.Answer.{Answer}
use Rattle.events.specs.declared.Answer.TheVariants.{Ok, Answered, Shows}
use Rattle.events.specs.Build.{owner_of}
use Rattle.machine.specs.Recover.{place_after, recovery_answer}
use Rattle.ledger.specs.Statement.{memory_at, Happens, Runs, Operation}
use Rattle.ledger.specs.Update.{clash}
use Rattle.ledger.specs.Cells.{Body, Cells, State}
use Rattle.ledger.specs.View.{cells_of, view}
use Rattle.ledger.specs.Workers.{WorkKnows, WorkerKnows}
use Rattle.ledger.proofs.Moments.{since, in_ledger, Differed, sent}
use Rattle.ledger.proofs.Instant.{inv}
use Rattle.ledger.proofs.Course as C
use Rattle.ledger.proofs.Course.{final}
use Rattle.ledger.proofs.Last.{turn_answers}
use Rattle.ledger.proofs.Operations.{turn_at, answers, runner}
use Rattle.ledger.proofs.ReadBegun.{turn_shows, reader}
use Rattle.ledger.proofs.Machine.{Turn, refused, opens, adds, removes, submits, discards, begins, works, reads, clears, backs_word, backs_status, backs_body, crashes, recovers}

recovery_quiet : (p : RecoveryPlace) → final (recovery_answer p) ≡ true → ⊥
recovery_quiet Outside q = clash (cc)
recovery_quiet (At d t) q = clash (cc)

-- only a step is answered S, F or V
turn_steps : (n k : ℕ) (s : State) (e : Event) (t : State) (r : Answer) → Turn n k s e t r → final r ≡ true → (v : ℕ) × (e ≡ Step v)
turn_steps n k s e t r (refused f x) q = clash (cc)
turn_steps n k s e t r (opens u c a l y b o) q = clash (cc)
turn_steps n k s e t r (adds u c j x b a g y l) q = clash (cc)
turn_steps n k s e t r (removes u c x j b a y) q = clash (cc)
turn_steps n k s e t r (submits u c a o) q = clash (cc)
turn_steps n k s e t r (discards u c a) q = clash (cc)
turn_steps n k s e t r (begins u x a o) q = clash (cc)
turn_steps n k s e t r (works u o c j x busy a y alone) q = (u, refl)
turn_steps n k s e t r (reads u x y a o) q = (u, refl)
turn_steps n k s e t r (clears u x y j a o) q = (u, refl)
turn_steps n k s e t r (backs_word a o) q = clash (cc)
turn_steps n k s e t r (backs_status c o) q = clash (cc)
turn_steps n k s e t r (backs_body c o) q = clash (cc)
turn_steps n k s e t r crashes q = clash (cc)
turn_steps n k s e t r (recovers c j x o y) q = absurd (recovery_quiet (place_after k c (recovery_plan c j x).next) q)

-- only its own job brings a worker to the last place, so that it runs what it answers for
last_owns : (n k : ℕ) (M : Cells) (In : ℕ → Bool) (D : ℕ → Type 0) (Sent : ℕ → Body) (x : Worker) (o : Own) (c : ℕ) (z : Outcome) → x ≡ Working o c (BackFree z) → WorkerKnows n k M In D Sent x → C.Runs x c
last_owns n k M In D Sent x o c z e h = subst (λ (y : Worker). C.Runs y c) (sym e) (go (owner_of o c) refl (subst (WorkerKnows n k M In D Sent) e h).2)
  where
    go : (t : Bool) → owner_of o c ≡ t → WorkKnows n k M In D Sent t o c (BackFree z) → owner_of o c ≡ true
    go true p y = p
    go false p y = absurd y.1.1

module _ (n k w : ℕ) (nn : n ≤ 64) (kk : k ≤ 16) (ww : w ≤ 8) (kp : 0 < k) (es : List Event) where
  abbrev m : ℕ → Block
  m i = memory_at n k w es i

  pub steps_only : (i : ℕ) (e : Event) (r : Answer) → Happens n k w es i e r → final r ≡ true → (v : ℕ) × (e ≡ Step v)
  steps_only i e r h q =
      let z = turn_steps n k (view (m i)) _ _ _ (turn_at n k w nn kk ww kp es i h.there) (ap final (answers n k w nn kk ww kp es i e r h) ∙ q) in
      (z.0, sym h.event ∙ z.1)

  -- S AND F: the operation
  pub behind_outcome : (i v : ℕ) (o : Outcome) → Happens n k w es i (Step v) (Answered o) → (s : ℕ) × (d : ℕ) × Operation n k w es s v d i
  behind_outcome i v o h =
      let z = turn_answers n k (view (m i)) v o _ _ _ (turn_at n k w nn kk ww kp es i h.there) h.event (answers n k w nn kk ww kp es i (Step v) (Answered o) h) in
      let r = last_owns n k (cells_of (m i)) (in_ledger n k w es i) (Differed n k w es i) (sent n k w es i) (worker_in (m i) v) z.0 z.1 o z.2 ((inv n k w nn kk ww kp es i).know v) in
      (since n k w es i z.1, z.1, runner n k w nn kk ww kp es i v z.1 r)

  -- V: the read
  pub behind_value : (i v y : ℕ) → Happens n k w es i (Step v) (Shows y) → (s : ℕ) × (a : ℕ) × Happens n k w es s (Read v a) Ok × Runs n k w es v s i
  behind_value i v y h =
      let z = turn_shows n k (view (m i)) v y _ _ _ (turn_at n k w nn kk ww kp es i h.there) h.event (answers n k w nn kk ww kp es i (Step v) (Shows y) h) in
      let b = reader n k w nn kk ww kp es i v z.0 z.1 in
      (b.0, z.0, b.1, b.2)
