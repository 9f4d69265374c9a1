-- What a turn does to a worker that runs an operation: it keeps running it, unless the turn ends what the worker runs; and only an accepted submission begins one.
use Rattle.std.specs.Prelude.{◌≡◌, refl, ◌≢◌, ◌⊎◌, Bool, true, false, ℕ}
use Rattle.std.proofs.Common.{sym, ◌∙◌, ap, subst, inl, inr, ⊎_elim, eqb-true}
use Rattle.std.proofs.Math.Decide.{ℕ_discrete}
use Rattle.word.specs.declared.Outcome.{Outcome}
use Rattle.steps.specs.declared.Place.{Place}
use Rattle.steps.specs.declared.Place as P
use Rattle.steps.specs.declared.Own.{Own}
use Rattle.steps.specs.declared.Own.TheVariants.{Operation, Read}
use Rattle.steps.specs.declared.Worker.{Worker}
use Rattle.steps.specs.declared.Worker.TheVariants.{Idle, Building, Working, Reading, ReadClear}
use Rattle.steps.specs.declared.Next.{Next}
use Rattle.steps.specs.declared.Next.TheVariants.{Go, Help, Over, Wait, Answer}
use Rattle.steps.specs.declared.ReadNext.{ReadNext}
use Rattle.steps.specs.declared.ReadNext.TheVariants.{Meet, Clear, Value}
use Rattle.events.specs.declared.Event.{Event}
use Rattle.events.specs.declared.Event.TheVariants.{Submit, Step, Crash}
use Rattle.events.specs.declared.Answer as A
use Rattle.events.specs.declared.Answer.TheVariants.{Ok, Opened, Moved, Helping, Waits, Answered, Shows, Recovering, Recovered, Refused}
use Rattle.events.specs.Build.{owner_of}
use Rattle.machine.specs.Step.{worker_after, answer_of, read_after, read_answer}
use Rattle.ledger.specs.Rules.{plan_of, read_plan, read_clear_plan}
use Rattle.ledger.specs.Update.{clash, upd, upd_if, upd_same}
use Rattle.ledger.specs.Cells.{State}
use Rattle.ledger.proofs.Machine.{Turn, refused, opens, adds, removes, submits, discards, begins, works, reads, clears, backs_word, backs_status, backs_body, crashes, recovers}

-- the worker runs an operation on d
abbrev pub operates : Worker → ℕ → Bool
operates Idle d = false
operates (Building e) d = false
operates (Working o e p) d = owner_of o d
operates (Reading a) d = false
operates (ReadClear a v) d = false

abbrev pub Runs : Worker → ℕ → Type 0
Runs x d = operates x d ≡ true

-- the event, answered so, ends what v runs
pub data EndsBy (v : ℕ) (e : Event) (r : A.Answer) : Type 0 where
  by_crash : e ≡ Crash → r ≡ Ok → EndsBy v e r
  by_answer : (o : Outcome) → e ≡ Step v → r ≡ Answered o → EndsBy v e r
  by_value : (x : ℕ) → e ≡ Step v → r ≡ Shows x → EndsBy v e r

-- a step of its owner or helper leaves it running, or answers
step_runs : (o : Own) (e : ℕ) (p : Place) (x : Next) (d : ℕ) → owner_of o d ≡ true → Runs (worker_after o e p x) d ⊎ ((r : Outcome) × (answer_of x ≡ Answered r))
step_runs o e p (Go q) d h = inl h
step_runs o e p (Help f) d h = inl h
step_runs (Operation c) e p Over d h = inl h
step_runs (Read a) e p Over d h = clash (cc)
step_runs o e p Wait d h = inl h
step_runs o e p (Answer r) d h = inr (r, refl)

step_ran : (o : Own) (e : ℕ) (p : Place) (x : Next) (d : ℕ) → Runs (worker_after o e p x) d → owner_of o d ≡ true
step_ran o e p (Go q) d h = h
step_ran o e p (Help f) d h = h
step_ran (Operation c) e p Over d h = h
step_ran (Read a) e p Over d h = clash (cc)
step_ran o e p Wait d h = h
step_ran o e p (Answer r) d h = clash (cc)

read_runs_none : (a : ℕ) (x : ReadNext) (d : ℕ) → ¬ (Runs (read_after a x) d)
read_runs_none a (Meet e) d h = clash (cc)
read_runs_none a (Clear y) d h = clash (cc)
read_runs_none a (Value y) d h = clash (cc)

pub step_shows_none : (x : Next) (y : ℕ) → answer_of x ≢ Shows y
step_shows_none (Go q) y z = clash (cc)
step_shows_none (Help f) y z = clash (cc)
step_shows_none Over y z = clash (cc)
step_shows_none Wait y z = clash (cc)
step_shows_none (Answer r) y z = clash (cc)

-- S, F and V: the answers that end what a worker runs
abbrev pub final : A.Answer → Bool
final Ok = false
final (Opened d) = false
final Moved = false
final (Helping e) = false
final Waits = false
final (Answered o) = true
final (Shows y) = true
final Recovering = false
final Recovered = false
final (Refused r) = false

step_idle : (o : Own) (e : ℕ) (p : Place) (x : Next) → final (answer_of x) ≡ true → worker_after o e p x ≡ Idle
step_idle o e p (Go q) h = clash (cc)
step_idle o e p (Help f) h = clash (cc)
step_idle o e p Over h = clash (cc)
step_idle o e p Wait h = clash (cc)
step_idle o e p (Answer r) h = refl

read_idle : (a : ℕ) (x : ReadNext) → final (read_answer x) ≡ true → read_after a x ≡ Idle
read_idle a (Meet e) h = clash (cc)
read_idle a (Clear y) h = clash (cc)
read_idle a (Value y) h = refl

module _ (n k : ℕ) (s : State) (v : ℕ) where
  -- so does a crash; what is ended leaves its worker idle
  set : (u : ℕ) (x : Worker) → u ≡ v → x ≡ Idle → upd s.worker u x v ≡ Idle
  set u x p q = ap (upd s.worker u x) (sym p) ∙ upd_same s.worker u x ∙ q

  crashed : (e : Event) (t : State) (r : A.Answer) → Turn n k s e t r → e ≡ Crash → r ≡ Ok → t.worker v ≡ Idle
  crashed e t r (refused f x) p q = clash (cc)
  crashed e t r (opens u c a l y b o) p q = clash (cc)
  crashed e t r (adds u c j x b a g y l) p q = clash (cc)
  crashed e t r (removes u c x j b a y) p q = clash (cc)
  crashed e t r (submits u c a o) p q = clash (cc)
  crashed e t r (discards u c a) p q = clash (cc)
  crashed e t r (begins u x a o) p q = clash (cc)
  crashed e t r (works u o c j x busy a y alone) p q = clash (cc)
  crashed e t r (reads u x y a o) p q = clash (cc)
  crashed e t r (clears u x y j a o) p q = clash (cc)
  crashed e t r (backs_word a o) p q = clash (cc)
  crashed e t r (backs_status c o) p q = clash (cc)
  crashed e t r (backs_body c o) p q = clash (cc)
  crashed e t r crashes p q = refl
  crashed e t r (recovers c j x o y) p q = clash (cc)

  stepped : (e : Event) (t : State) (r : A.Answer) → Turn n k s e t r → e ≡ Step v → final r ≡ true → t.worker v ≡ Idle
  stepped e t r (refused f x) p q = clash (cc)
  stepped e t r (opens u c a l y b o) p q = clash (cc)
  stepped e t r (adds u c j x b a g y l) p q = clash (cc)
  stepped e t r (removes u c x j b a y) p q = clash (cc)
  stepped e t r (submits u c a o) p q = clash (cc)
  stepped e t r (discards u c a) p q = clash (cc)
  stepped e t r (begins u x a o) p q = clash (cc)
  stepped e t r (works u o c j x busy a y alone) p q = set u _ (cc) (step_idle o c j (plan_of j c x busy (owner_of o c)).next q)
  stepped e t r (reads u x y a o) p q = set u _ (cc) (read_idle x (read_plan x y).next q)
  stepped e t r (clears u x y j a o) p q = set u _ (cc) (read_idle x (read_clear_plan x y j).next q)
  stepped e t r (backs_word a o) p q = clash (cc)
  stepped e t r (backs_status c o) p q = clash (cc)
  stepped e t r (backs_body c o) p q = clash (cc)
  stepped e t r crashes p q = clash (cc)
  stepped e t r (recovers c j x o y) p q = clash (cc)

  pub ended_idle : (e : Event) (t : State) (r : A.Answer) → Turn n k s e t r → EndsBy v e r → t.worker v ≡ Idle
  ended_idle e t r x (by_crash p q) = crashed e t r x p q
  ended_idle e t r x (by_answer o p q) = stepped e t r x p (ap final q)
  ended_idle e t r x (by_value y p q) = stepped e t r x p (ap final q)

module _ (n k : ℕ) (s : State) (v d : ℕ) where
  -- worker u, which was x, becomes y
  keeps : (u : ℕ) (x y : Worker) → s.worker u ≡ x → (Runs x d → Runs y d) → Runs (s.worker v) d → Runs (upd s.worker u y v) d
  keeps u x y q f h = upd_if (λ (z : Worker). Runs z d) s.worker u v y (λ p. f (subst (λ (z : Worker). Runs z d) (ap s.worker p ∙ q) h)) (λ _. h)

  came : (u : ℕ) (x y : Worker) → s.worker u ≡ x → (Runs y d → Runs x d) → Runs (upd s.worker u y v) d → Runs (s.worker v) d
  came u x y q f = upd_if (λ (z : Worker). Runs z d → Runs (s.worker v) d) s.worker u v y (λ p h. subst (λ (z : Worker). Runs z d) (sym (ap s.worker p ∙ q)) (f h)) (λ _ h. h)

  pub turn_keeps : (e : Event) (t : State) (r : A.Answer) → Turn n k s e t r → Runs (s.worker v) d → Runs (t.worker v) d ⊎ EndsBy v e r
  turn_keeps e t r (refused f x) h = inl h
  turn_keeps e t r (opens u c a l y b o) h = inl (keeps u Idle _ a.is (λ z. clash (cc)) h)
  turn_keeps e t r (adds u c j x b a g y l) h = inl h
  turn_keeps e t r (removes u c x j b a y) h = inl h
  turn_keeps e t r (submits u c a o) h = inl (keeps u (Building c) _ a.is (λ z. clash (cc)) h)
  turn_keeps e t r (discards u c a) h = inl (keeps u (Building c) _ a.is (λ z. clash (cc)) h)
  turn_keeps e t r (begins u x a o) h = inl (keeps u Idle _ a.is (λ z. clash (cc)) h)
  turn_keeps e t r (works u o c j x busy a y alone) h = elim (ℕ_discrete v u) [
    | yes p ↦ ⊎_elim (λ z. inl (keeps u (Working o c j) _ a.is (λ _. z) h)) (λ z. inr (by_answer z.0 (ap Step (sym p)) z.1))
        (step_runs o c j (plan_of j c x busy (owner_of o c)).next d (subst (λ (z : Worker). Runs z d) (ap s.worker p ∙ a.is) h))
    | no p ↦ inl (upd_if (λ (z : Worker). Runs z d) s.worker u v _ (λ q. absurd (p q)) (λ _. h))
  ]
  turn_keeps e t r (reads u x y a o) h = inl (keeps u (Reading x) _ a.is (λ z. clash (cc)) h)
  turn_keeps e t r (clears u x y j a o) h = inl (keeps u (ReadClear x y) _ a.is (λ z. clash (cc)) h)
  turn_keeps e t r (backs_word a o) h = inl h
  turn_keeps e t r (backs_status c o) h = inl h
  turn_keeps e t r (backs_body c o) h = inl h
  turn_keeps e t r crashes h = inr (by_crash refl refl)
  turn_keeps e t r (recovers c j x o y) h = inl h

  -- v submits d
  abbrev pub Submits : Event → A.Answer → Type 0
  Submits e r = (e ≡ Submit v) × (r ≡ Ok) × (s.worker v ≡ Building d)

  pub turn_came : (e : Event) (t : State) (r : A.Answer) → Turn n k s e t r → Runs (t.worker v) d → Runs (s.worker v) d ⊎ Submits e r
  turn_came e t r (refused f x) h = inl h
  turn_came e t r (opens u c a l y b o) h = inl (came u Idle _ a.is (λ z. clash (cc)) h)
  turn_came e t r (adds u c j x b a g y l) h = inl h
  turn_came e t r (removes u c x j b a y) h = inl h
  turn_came e t r (submits u c a o) h = upd_if (λ (z : Worker). Runs z d → Runs (s.worker v) d ⊎ Submits (Submit u) Ok) s.worker u v _
      (λ p q. inr (ap Submit (sym p), refl, ap s.worker p ∙ a.is ∙ ap Building (eqb-true c d q))) (λ _ q. inl q) h
  turn_came e t r (discards u c a) h = inl (came u (Building c) _ a.is (λ z. clash (cc)) h)
  turn_came e t r (begins u x a o) h = inl (came u Idle _ a.is (λ z. clash (cc)) h)
  turn_came e t r (works u o c j x busy a y alone) h = inl (came u (Working o c j) _ a.is (λ z. step_ran o c j (plan_of j c x busy (owner_of o c)).next d z) h)
  turn_came e t r (reads u x y a o) h = inl (came u (Reading x) _ a.is (λ z. absurd (read_runs_none x (read_plan x y).next d z)) h)
  turn_came e t r (clears u x y j a o) h = inl (came u (ReadClear x y) _ a.is (λ z. absurd (read_runs_none x (read_clear_plan x y j).next d z)) h)
  turn_came e t r (backs_word a o) h = inl h
  turn_came e t r (backs_status c o) h = inl h
  turn_came e t r (backs_body c o) h = inl h
  turn_came e t r crashes h = clash (cc)
  turn_came e t r (recovers c j x o y) h = inl h

  -- what is ended runs no more
  pub turn_ends : (e : Event) (t : State) (r : A.Answer) → Turn n k s e t r → EndsBy v e r → ¬ (Runs (t.worker v) d)
  turn_ends e t r x y h = let z : Runs Idle d = subst (λ (w : Worker). Runs w d) (ended_idle n k s v e t r x y) h in clash (cc)

  -- an accepted submission: who builds c is at its operation's start
  pub turn_submits : (e : Event) (t : State) (r : A.Answer) → Turn n k s e t r → e ≡ Submit v → r ≡ Ok
      → (c : ℕ) × (s.worker v ≡ Building c) × (t.worker v ≡ Working (Operation c) c P.TheVariants.BackBody) × (t.cells ≡ s.cells)
  turn_submits e t r (refused f x) p q = clash (cc)
  turn_submits e t r (opens u c a l y b o) p q = clash (cc)
  turn_submits e t r (adds u c j x b a g y l) p q = clash (cc)
  turn_submits e t r (removes u c x j b a y) p q = clash (cc)
  turn_submits e t r (submits u c a o) p q = let z : u ≡ v = cc in (c, ap s.worker (sym z) ∙ a.is, ap (upd s.worker u _) (sym z) ∙ upd_same s.worker u _, refl)
  turn_submits e t r (discards u c a) p q = clash (cc)
  turn_submits e t r (begins u x a o) p q = clash (cc)
  turn_submits e t r (works u o c j x busy a y alone) p q = clash (cc)
  turn_submits e t r (reads u x y a o) p q = clash (cc)
  turn_submits e t r (clears u x y j a o) p q = clash (cc)
  turn_submits e t r (backs_word a o) p q = clash (cc)
  turn_submits e t r (backs_status c o) p q = clash (cc)
  turn_submits e t r (backs_body c o) p q = clash (cc)
  turn_submits e t r crashes p q = clash (cc)
  turn_submits e t r (recovers c j x o y) p q = clash (cc)
