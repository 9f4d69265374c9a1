-- A read: from its beginning to its answer its worker is on it, and the value that it has seen was the ledger's; and so is its answer.
use Rattle.std.specs.Prelude.{◌≡◌, refl, ◌⊎◌, true, false, List, ℕ, zero, suc, ◌≤◌, ◌<◌, length}
use Rattle.std.proofs.Common.{sym, ◌∙◌, ap, subst, inl, inr, ⊎_elim, arith}
use Rattle.std.proofs.Math.Decide.{dec_lt, ℕ_discrete}
use Rattle.word.specs.declared.Sort.{Sort}
use Rattle.word.specs.declared.Sort.TheVariants.{Plain, Pointer, Neither}
use Rattle.word.specs.declared.Outcome.{Outcome}
use Rattle.steps.specs.declared.Place.{Place}
use Rattle.steps.specs.declared.Own as O
use Rattle.steps.specs.declared.Own.{Own}
use Rattle.steps.specs.declared.Own.TheVariants.{Operation}
use Rattle.steps.specs.declared.Worker.{Worker}
use Rattle.steps.specs.declared.Worker.TheVariants.{Idle, Building, Working, Reading, ReadClear}
use Rattle.steps.specs.declared.Next.{Next}
use Rattle.steps.specs.declared.Next.TheVariants.{Go, Help, Over, Wait, Answer}
use Rattle.memory.specs.declared.Copy.TheVariants.{Cached}
use Rattle.memory.specs.Block.{Block}
use Rattle.memory.specs.Content.{worker_in}
use Rattle.events.specs.declared.Event.{Event}
use Rattle.events.specs.declared.Event.TheVariants.{Read, Step}
use Rattle.events.specs.declared.Answer as A
use Rattle.events.specs.declared.Answer.TheVariants.{Ok, Answered, Shows}
use Rattle.events.specs.Build.{owner_of}
use Rattle.machine.specs.Step.{worker_after, answer_of, read_after, read_answer}
use Rattle.ledger.specs.Rules.{plan_of, read_plan}
use Rattle.ledger.specs.Statement.{memory_at, Happens, Runs, ledger}
use Rattle.ledger.specs.Update.{clash, upd, upd_if, upd_same}
use Rattle.ledger.specs.Cells.{cell_of, Cell, State}
use Rattle.ledger.specs.View.{view}
use Rattle.ledger.specs.Meaning.{means}
use Rattle.ledger.proofs.History.{memory_past}
use Rattle.ledger.proofs.Instant.{inv}
use Rattle.ledger.proofs.Course.{EndsBy, by_crash, by_answer, by_value, step_shows_none}
use Rattle.ledger.proofs.Operations.{turn_at, answers, by_ends}
use Rattle.ledger.proofs.Machine.{Turn, refused, opens, adds, removes, submits, discards, begins, works, reads, clears, backs_word, backs_status, backs_body, crashes, recovers}

-- the worker is on a read of a; P holds of the value that it has seen
abbrev OnRead : Worker → ℕ → (ℕ → Type 0) → Type 0
OnRead Idle a P = ⊥
OnRead (Building d) a P = ⊥
OnRead (Working o e p) a P = o ≡ O.TheVariants.Read a
OnRead (Reading b) a P = b ≡ a
OnRead (ReadClear b x) a P = (b ≡ a) × P x

still_on : (x : Worker) (a : ℕ) (P Q : ℕ → Type 0) → ((y : ℕ) → P y → Q y) → OnRead x a P → OnRead x a Q
still_on Idle a P Q f h = h
still_on (Building d) a P Q f h = h
still_on (Working o e p) a P Q f h = h
still_on (Reading b) a P Q f h = h
still_on (ReadClear b x) a P Q f h = (h.0, f x h.1)

-- a step that helps goes on, or is back at the read
step_on : (o : Own) (e : ℕ) (p : Place) (x : Next) (a : ℕ) (P : ℕ → Type 0) → o ≡ O.TheVariants.Read a → OnRead (worker_after o e p x) a P ⊎ ((r : Outcome) × (answer_of x ≡ Answered r))
step_on o e p (Go q) a P h = inl h
step_on o e p (Help f) a P h = inl h
step_on (Operation c) e p Over a P h = clash (cc)
step_on (O.TheVariants.Read b) e p Over a P h = inl (cc)
step_on o e p Wait a P h = inl h
step_on o e p (Answer r) a P h = inr (r, refl)

module _ (n k : ℕ) (s : State) (v a : ℕ) (P Q : ℕ → Type 0) (f : (y : ℕ) → P y → Q y) (now : P (means s.cells a (s.cells.word Cached a))) where
  -- the value of the word that it sees
  seen : (x : ℕ) (y : Sort) → x ≡ a → cell_of y ≡ s.cells.word Cached x → P (means s.cells a (cell_of y))
  seen x y p o = subst (λ (c : Cell). P (means s.cells a c)) (sym (o ∙ ap (s.cells.word Cached) p)) now

  read-on : (x : ℕ) (y : Sort) → x ≡ a → cell_of y ≡ s.cells.word Cached x → OnRead (read_after x (read_plan x y).next) a Q ⊎ ((z : ℕ) × (read_answer (read_plan x y).next ≡ Shows z))
  read-on x (Plain z true) p o = inl (p, f z (seen x (Plain z true) p o))
  read-on x (Plain z false) p o = inr (z, refl)
  read-on x (Pointer e dirty) p o = inl (ap O.TheVariants.Read p)
  read-on x (Neither z) p o = inr (0, refl)

  read_shows : (x : ℕ) (y : Sort) (z : ℕ) → x ≡ a → cell_of y ≡ s.cells.word Cached x → read_answer (read_plan x y).next ≡ Shows z → P z
  read_shows x (Plain c true) z p o q = clash (cc)
  read_shows x (Plain c false) z p o q = let e : c ≡ z = cc in subst P e (seen x (Plain c false) p o)
  read_shows x (Pointer e dirty) z p o q = clash (cc)
  read_shows x (Neither c) z p o q = let e : ◌≡◌ {A = ℕ} 0 z = cc in subst P e (seen x (Neither c) p o)

  on : (u : ℕ) (x y : Worker) → s.worker u ≡ x → (OnRead x a P → OnRead y a Q) → OnRead (s.worker v) a P → OnRead (upd s.worker u y v) a Q
  on u x y q g h = upd_if (λ (z : Worker). OnRead z a Q) s.worker u v y (λ p. g (subst (λ (z : Worker). OnRead z a P) (ap s.worker p ∙ q) h)) (λ _. still_on (s.worker v) a P Q f h)

  -- by whether it is v that acts
  acting : (u : ℕ) (x y : Worker) (r : A.Answer) → s.worker u ≡ x → (OnRead x a P → OnRead y a Q ⊎ EndsBy u (Step u) r) → OnRead (s.worker v) a P → OnRead (upd s.worker u y v) a Q ⊎ EndsBy v (Step u) r
  acting u x y r q g h = elim (ℕ_discrete v u) [
    | yes p ↦ ⊎_elim (λ z. inl (on u x y q (λ _. z) h)) (λ z. inr (subst (λ (c : ℕ). EndsBy c (Step u) r) (sym p) z)) (g (subst (λ (z : Worker). OnRead z a P) (ap s.worker p ∙ q) h))
    | no p ↦ inl (upd_if (λ (z : Worker). OnRead z a Q) s.worker u v y (λ z. absurd (p z)) (λ _. still_on (s.worker v) a P Q f h))
  ]

  turn_reads : (e : Event) (t : State) (r : A.Answer) → Turn n k s e t r → OnRead (s.worker v) a P → OnRead (t.worker v) a Q ⊎ EndsBy v e r
  turn_reads e t r (refused i x) h = inl (still_on (s.worker v) a P Q f h)
  turn_reads e t r (opens u c g l y b o) h = inl (on u Idle _ g.is (λ z. absurd z) h)
  turn_reads e t r (adds u c j x b g i y l) h = inl (still_on (s.worker v) a P Q f h)
  turn_reads e t r (removes u c x j b g y) h = inl (still_on (s.worker v) a P Q f h)
  turn_reads e t r (submits u c g o) h = inl (on u (Building c) _ g.is (λ z. absurd z) h)
  turn_reads e t r (discards u c g) h = inl (on u (Building c) _ g.is (λ z. absurd z) h)
  turn_reads e t r (begins u x g o) h = inl (on u Idle _ g.is (λ z. absurd z) h)
  turn_reads e t r (works u o c j x busy g y alone) h = acting u (Working o c j) _ _ g.is (λ z. ⊎_elim (λ q. inl q) (λ q. inr (by_answer q.0 refl q.1)) (step_on o c j (plan_of j c x busy (owner_of o c)).next a Q z)) h
  turn_reads e t r (reads u x y g o) h = acting u (Reading x) _ _ g.is (λ z. ⊎_elim (λ q. inl q) (λ q. inr (by_value q.0 refl q.1)) (read-on x y z o)) h
  turn_reads e t r (clears u x y j g o) h = acting u (ReadClear x y) _ _ g.is (λ z. inr (by_value y refl refl)) h
  turn_reads e t r (backs_word b o) h = inl (still_on (s.worker v) a P Q f h)
  turn_reads e t r (backs_status c o) h = inl (still_on (s.worker v) a P Q f h)
  turn_reads e t r (backs_body c o) h = inl (still_on (s.worker v) a P Q f h)
  turn_reads e t r crashes h = inr (by_crash refl refl)
  turn_reads e t r (recovers c j x o y) h = inl (still_on (s.worker v) a P Q f h)

  turn_shows : (z : ℕ) (e : Event) (t : State) (r : A.Answer) → Turn n k s e t r → e ≡ Step v → r ≡ Shows z → OnRead (s.worker v) a P → P z
  turn_shows z e t r (refused i x) p q h = clash (cc)
  turn_shows z e t r (opens u c g l y b o) p q h = clash (cc)
  turn_shows z e t r (adds u c j x b g i y l) p q h = clash (cc)
  turn_shows z e t r (removes u c x j b g y) p q h = clash (cc)
  turn_shows z e t r (submits u c g o) p q h = clash (cc)
  turn_shows z e t r (discards u c g) p q h = clash (cc)
  turn_shows z e t r (begins u x g o) p q h = clash (cc)
  turn_shows z e t r (works u o c j x busy g y alone) p q h = absurd (step_shows_none (plan_of j c x busy (owner_of o c)).next z q)
  turn_shows z e t r (reads u x y g o) p q h = let w : u ≡ v = cc in read_shows x y z (subst (λ (b : Worker). OnRead b a P) (ap s.worker (sym w) ∙ g.is) h) o q
  turn_shows z e t r (clears u x y j g o) p q h = let w : u ≡ v = cc in let i : y ≡ z = cc in subst P i (subst (λ (b : Worker). OnRead b a P) (ap s.worker (sym w) ∙ g.is) h).1
  turn_shows z e t r (backs_word b o) p q h = clash (cc)
  turn_shows z e t r (backs_status c o) p q h = clash (cc)
  turn_shows z e t r (backs_body c o) p q h = clash (cc)
  turn_shows z e t r crashes p q h = clash (cc)
  turn_shows z e t r (recovers c j x o y) p q h = clash (cc)

module _ (n k : ℕ) (s : State) (v a : ℕ) where
  turn_begins : (e : Event) (t : State) (r : A.Answer) → Turn n k s e t r → e ≡ Read v a → r ≡ Ok → t.worker v ≡ Reading a
  turn_begins e t r (refused i x) p q = clash (cc)
  turn_begins e t r (opens u c g l y b o) p q = clash (cc)
  turn_begins e t r (adds u c j x b g i y l) p q = clash (cc)
  turn_begins e t r (removes u c x j b g y) p q = clash (cc)
  turn_begins e t r (submits u c g o) p q = clash (cc)
  turn_begins e t r (discards u c g) p q = clash (cc)
  turn_begins e t r (begins u x g o) p q = let z : u ≡ v = cc in let i : x ≡ a = cc in ap (upd s.worker u (Reading x)) (sym z) ∙ upd_same s.worker u (Reading x) ∙ ap Reading i
  turn_begins e t r (works u o c j x busy g y alone) p q = clash (cc)
  turn_begins e t r (reads u x y g o) p q = clash (cc)
  turn_begins e t r (clears u x y j g o) p q = clash (cc)
  turn_begins e t r (backs_word b o) p q = clash (cc)
  turn_begins e t r (backs_status c o) p q = clash (cc)
  turn_begins e t r (backs_body c o) p q = clash (cc)
  turn_begins e t r crashes p q = clash (cc)
  turn_begins e t r (recovers c j x o y) p q = clash (cc)

module _ (n k w : ℕ) (nn : n ≤ 64) (kk : k ≤ 16) (ww : w ≤ 8) (kp : 0 < k) (es : List Event) where
  abbrev m : ℕ → Block
  m i = memory_at n k w es i

  -- at some moment after event s, up to i, the ledger's value of a was x
  abbrev Was : ℕ → ℕ → ℕ → ℕ → Type 0
  Was s a i x = (t : ℕ) × (s < t) × (t ≤ i) × (ledger n k w es t a ≡ x)

  was_on : (s a i x : ℕ) → Was s a i x → Was s a (suc i) x
  was_on s a i x z = (z.0, z.1, (let l = z.2 in omega arith), z.3)

  was_now : (s a i : ℕ) → s < i → Was s a i (means (view (m i)).cells a ((view (m i)).cells.word Cached a))
  was_now s a i l = (i, l, omega arith, sym ((inv n k w nn kk ww kp es i).agrees.value Cached a))

  reading : (s v a i : ℕ) → Happens n k w es s (Read v a) Ok → Runs n k w es v s i → OnRead (worker_in (m i) v) a (Was s a i)
  reading s v a zero h r = let l = r.later in absurd (omega arith)
  reading s v a (suc i) h r = elim (ℕ_discrete s i) [
    | yes p ↦ begin (subst (λ (x : ℕ). Happens n k w es x (Read v a) Ok) p h)
    | no p ↦ (let l = r.later in let q : s < i = omega arith in next q (reading s v a i h (record { later = q; going = λ t x y. r.going t x (omega arith) })))
  ]
    where
      begin : Happens n k w es i (Read v a) Ok → OnRead (worker_in (m (suc i)) v) a (Was s a (suc i))
      begin g = subst (λ (x : Worker). OnRead x a (Was s a (suc i)))
          (sym (turn_begins n k (view (m i)) v a _ _ _ (turn_at n k w nn kk ww kp es i g.there) g.event (answers n k w nn kk ww kp es i (Read v a) Ok g))) refl

      next : s < i → OnRead (worker_in (m i) v) a (Was s a i) → OnRead (worker_in (m (suc i)) v) a (Was s a (suc i))
      next q z = elim (dec_lt i (length es)) [
        | yes l ↦ ⊎_elim (λ y. y) (λ y. absurd (r.going i q (omega arith) (by_ends n k w nn kk ww kp es v i l y)))
            (turn_reads n k (view (m i)) v a (Was s a i) (Was s a (suc i)) (was_on s a i) (was_now s a i q) _ _ _ (turn_at n k w nn kk ww kp es i l) z)
        | no l ↦ subst (λ (x : Block). OnRead (worker_in x v) a (Was s a (suc i))) (sym (memory_past n k w es i (omega arith)))
            (still_on (worker_in (m i) v) a (Was s a i) (Was s a (suc i)) (was_on s a i) z)
      ]

  -- a read's answer was the ledger's value of that address at some moment from the read's beginning to its answer
  pub read : (s v a i x : ℕ) → Happens n k w es s (Read v a) Ok → Runs n k w es v s i → Happens n k w es i (Step v) (Shows x) → (t : ℕ) × (s < t) × (t ≤ i) × (ledger n k w es t a ≡ x)
  read s v a i x h r g = turn_shows n k (view (m i)) v a (Was s a i) (Was s a (suc i)) (was_on s a i) (was_now s a i r.later) x _ _ _
      (turn_at n k w nn kk ww kp es i g.there) g.event (answers n k w nn kk ww kp es i (Step v) (Shows x) g) (reading s v a i h r)
