-- What a turn does to a worker that is on a read: only an accepted 06 begins one, and what ends leaves its worker idle. So a worker that is on a read began it, and it has not ended since.
use Rattle.std.specs.Prelude.{◌≡◌, refl, ◌⊎◌, List, length}
use Rattle.std.proofs.Common.{sym, ◌∙◌, ap, subst, inl, inr, arith}
use Rattle.std.proofs.Math.Logic.{⊎_elim}
use Prim.Native.Nat.{ℕ, zero, suc, ◌≤◌, ◌<◌}
use Rattle.std.proofs.Math.Decide.{dec_lt, ℕ_discrete}
use Rattle.steps.specs.declared.Place.{Place}
use Rattle.steps.specs.declared.Own as O
use Rattle.steps.specs.declared.Own.{Own}
use Rattle.steps.specs.declared.Own.TheVariants.{Operation}
use Rattle.steps.specs.declared.Worker.{Worker}
use Rattle.steps.specs.declared.Worker.TheVariants.{Idle, Building, Working, Reading, ReadClear}
use Rattle.steps.specs.declared.Next.{Next}
use Rattle.steps.specs.declared.Next.TheVariants.{Go, Help, Over, Wait, Answer}
use Rattle.steps.specs.declared.ReadNext.{ReadNext}
use Rattle.steps.specs.declared.ReadNext.TheVariants.{Meet, Clear, Value}
use Rattle.ledger.specs.Rules.{plan_of, read_plan, read_clear_plan}
use Rattle.memory.specs.Block.{Block}
use Rattle.memory.specs.Content.{worker_in}
use Rattle.events.specs.declared.Event.{Event}
use Rattle.events.specs.declared.Event.TheVariants.{Read, Step}
use Rattle.events.specs.declared.Answer as A
use Rattle.events.specs.declared.Answer.TheVariants.{Ok, Shows}
use Rattle.events.specs.Build.{owner_of}
use Rattle.machine.specs.Step.{worker_after, read_after}
use Rattle.ledger.specs.Statement.{memory_at, Happens, Ends, Runs}
use Rattle.ledger.specs.Update.{clash, upd, upd_if}
use Rattle.ledger.specs.Cells.{State}
use Rattle.ledger.specs.View.{view}
use Rattle.ledger.specs.ViewCrash.{view_fresh}
use Rattle.ledger.proofs.History.{memory_past}
use Rattle.ledger.proofs.Course.{ended_idle, step_shows_none}
use Rattle.ledger.proofs.Operations.{turn_at, happens, ends_by}
use Rattle.ledger.proofs.Machine.{Turn, refused, opens, adds, removes, submits, discards, begins, works, reads, clears, backs_word, backs_status, backs_body, crashes, recovers}

-- the worker is on a read of a
abbrev pub Reads : Worker → ℕ → Type 0
Reads Idle a = ⊥
Reads (Building d) a = ⊥
Reads (Working o e p) a = o ≡ O.TheVariants.Read a
Reads (Reading b) a = b ≡ a
Reads (ReadClear b x) a = b ≡ a

step_read : (o : Own) (e : ℕ) (p : Place) (x : Next) (a : ℕ) → Reads (worker_after o e p x) a → o ≡ O.TheVariants.Read a
step_read o e p (Go q) a h = h
step_read o e p (Help f) a h = h
step_read (Operation c) e p Over a h = clash (cc)
step_read (O.TheVariants.Read b) e p Over a h = ap O.TheVariants.Read h
step_read o e p Wait a h = h
step_read o e p (Answer r) a h = absurd h

read_read : (b : ℕ) (x : ReadNext) (a : ℕ) → Reads (read_after b x) a → b ≡ a
read_read b (Meet e) a h = cc
read_read b (Clear y) a h = h
read_read b (Value y) a h = absurd h

module _ (n k : ℕ) (s : State) (v : ℕ) where
  -- who shows a value is on a read
  pub turn_shows : (z : ℕ) (e : Event) (t : State) (r : A.Answer) → Turn n k s e t r → e ≡ Step v → r ≡ Shows z → (a : ℕ) × Reads (s.worker v) a
  turn_shows z e t r (refused f x) p q = clash (cc)
  turn_shows z e t r (opens u c a l y b o) p q = clash (cc)
  turn_shows z e t r (adds u c j x b a g y l) p q = clash (cc)
  turn_shows z e t r (removes u c x j b a y) p q = clash (cc)
  turn_shows z e t r (submits u c a o) p q = clash (cc)
  turn_shows z e t r (discards u c a) p q = clash (cc)
  turn_shows z e t r (begins u x a o) p q = clash (cc)
  turn_shows z e t r (works u o c j x busy a y alone) p q = absurd (step_shows_none (plan_of j c x busy (owner_of o c)).next z q)
  turn_shows z e t r (reads u x y a o) p q = let w : u ≡ v = cc in (x, subst (λ (b : Worker). Reads b x) (sym (ap s.worker (sym w) ∙ a.is)) refl)
  turn_shows z e t r (clears u x y j a o) p q = let w : u ≡ v = cc in (x, subst (λ (b : Worker). Reads b x) (sym (ap s.worker (sym w) ∙ a.is)) refl)
  turn_shows z e t r (backs_word a o) p q = clash (cc)
  turn_shows z e t r (backs_status c o) p q = clash (cc)
  turn_shows z e t r (backs_body c o) p q = clash (cc)
  turn_shows z e t r crashes p q = clash (cc)
  turn_shows z e t r (recovers c j x o y) p q = clash (cc)

module _ (n k : ℕ) (s : State) (v a : ℕ) where
  -- worker u, which was x, becomes y
  came : (u : ℕ) (x y : Worker) → s.worker u ≡ x → (Reads y a → Reads x a) → Reads (upd s.worker u y v) a → Reads (s.worker v) a
  came u x y q f = upd_if (λ (z : Worker). Reads z a → Reads (s.worker v) a) s.worker u v y (λ p h. subst (λ (z : Worker). Reads z a) (sym (ap s.worker p ∙ q)) (f h)) (λ _ h. h)

  turn_came : (e : Event) (t : State) (r : A.Answer) → Turn n k s e t r → Reads (t.worker v) a → Reads (s.worker v) a ⊎ ((e ≡ Read v a) × (r ≡ Ok))
  turn_came e t r (refused f x) h = inl h
  turn_came e t r (opens u c g l y b o) h = inl (came u Idle _ g.is (λ z. z) h)
  turn_came e t r (adds u c j x b g i y l) h = inl h
  turn_came e t r (removes u c x j b g y) h = inl h
  turn_came e t r (submits u c g o) h = inl (came u (Building c) _ g.is (λ z. clash (cc)) h)
  turn_came e t r (discards u c g) h = inl (came u (Building c) _ g.is (λ z. z) h)
  turn_came e t r (begins u x g o) h = upd_if (λ (z : Worker). Reads z a → Reads (s.worker v) a ⊎ ((Read u x ≡ Read v a) × (Ok ≡ Ok))) s.worker u v _
      (λ p q. inr (cc, refl)) (λ _ q. inl q) h
  turn_came e t r (works u o c j x busy g y alone) h = inl (came u (Working o c j) _ g.is (step_read o c j (plan_of j c x busy (owner_of o c)).next a) h)
  turn_came e t r (reads u x y g o) h = inl (came u (Reading x) _ g.is (read_read x (read_plan x y).next a) h)
  turn_came e t r (clears u x y j g o) h = inl (came u (ReadClear x y) _ g.is (read_read x (read_clear_plan x y j).next a) h)
  turn_came e t r (backs_word b o) h = inl h
  turn_came e t r (backs_status c o) h = inl h
  turn_came e t r (backs_body c o) h = inl h
  turn_came e t r crashes h = absurd h
  turn_came e t r (recovers c j x o y) h = inl h

module _ (n k w : ℕ) (nn : n ≤ 64) (kk : k ≤ 16) (ww : w ≤ 8) (kp : 0 < k) (es : List Event) where
  abbrev m : ℕ → Block
  m i = memory_at n k w es i

  read_came : (i v a : ℕ) → Reads (worker_in (m (suc i)) v) a → Reads (worker_in (m i) v) a ⊎ Happens n k w es i (Read v a) Ok
  read_came i v a h = elim (dec_lt i (length es)) [
    | yes l ↦ ⊎_elim (λ z. inl z) (λ z. inr (happens n k w nn kk ww kp es i _ _ l z.0 z.1)) (turn_came n k (view (m i)) v a _ _ _ (turn_at n k w nn kk ww kp es i l) h)
    | no l ↦ inl (rw (memory_past n k w es i (omega arith)) at h)
  ]

  read_going : (i v a : ℕ) → Reads (worker_in (m (suc i)) v) a → ¬ (Ends n k w es v i)
  read_going i v a h e =
      let z = ends_by n k w nn kk ww kp es v i e in
      subst (λ (x : Worker). Reads x a) (ended_idle n k (view (m i)) v _ _ _ (turn_at n k w nn kk ww kp es i z.0) z.1) h

  -- A READ THAT RUNS was begun
  abbrev Begun : ℕ → ℕ → ℕ → Type 0
  Begun v a i = (s : ℕ) × Happens n k w es s (Read v a) Ok × Runs n k w es v s i

  pub reader : (i v a : ℕ) → Reads (worker_in (m i) v) a → Begun v a i
  unfolding memory_at
  reader zero v a h = absurd (subst (λ (x : State). Reads (x.worker v) a) (view_fresh n k w) h)
  reader (suc i) v a h = ⊎_elim (λ g. old (reader i v a g)) new (read_came i v a h)
    where
      old : Begun v a i → Begun v a (suc i)
      old b = let l = b.2.later in
          (b.0, b.1, record { later = omega arith; going = λ t x y. elim (ℕ_discrete t i) [ yes p ↦ rw p (read_going i v a h) | no p ↦ b.2.going t x (omega arith) ] })

      new : Happens n k w es i (Read v a) Ok → Begun v a (suc i)
      new g = (i, g, record { later = omega arith; going = λ t x y. absurd (omega arith) })
