-- Where an operation answers: its worker is at the last place of its own job, and knows the outcome.
use Rattle.std.specs.Prelude.{◌≡◌, refl, ◌≢◌, Bool, true, false, ℕ, suc, eqb, ltb}
use Rattle.std.proofs.Common.{sym, ◌∙◌, subst, eqb-true, None, Option, Some}
use Rattle.std.proofs.Math.Path.{ap}
use Rattle.word.specs.declared.Sort.{Sort}
use Rattle.word.specs.declared.Sort.TheVariants.{Plain, Pointer, Neither}
use Rattle.word.specs.declared.Outcome.{Outcome}
use Rattle.word.specs.declared.Outcome.TheVariants.{Failed}
use Rattle.word.specs.declared.Status.{Status}
use Rattle.word.specs.declared.Status.TheVariants.{Free, Undecided, Decided, Bad}
use Rattle.steps.specs.declared.Place.{Place}
use Rattle.steps.specs.declared.Place.TheVariants.{BackBody, StoreUndecided, BackUndecided, Install, InstallClear, Persist, PersistClear, Decide, Settle, SettleClear, Swap, SwapBack, SwapClear, StoreFree, BackFree}
use Rattle.steps.specs.declared.Own.{Own}
use Rattle.steps.specs.declared.Own.TheVariants.{Operation, Read}
use Rattle.steps.specs.declared.Worker.{Worker}
use Rattle.steps.specs.declared.Worker.TheVariants.{Working}
use Rattle.steps.specs.declared.Seen.{Seen}
use Rattle.steps.specs.declared.Next.{Next}
use Rattle.steps.specs.declared.Next.TheVariants.{Go, Help, Over, Wait, Answer}
use Rattle.steps.specs.declared.ReadNext.{ReadNext}
use Rattle.steps.specs.declared.ReadNext.TheVariants.{Meet, Clear, Value}
use Rattle.steps.specs.declared.Plan.{Plan}
use Rattle.memory.specs.declared.Copy.TheVariants.{Cached}
use Rattle.memory.specs.Value.{is_success}
use Rattle.events.specs.declared.Event.{Event}
use Rattle.events.specs.declared.Event.TheVariants.{Step}
use Rattle.events.specs.declared.Answer as A
use Rattle.events.specs.declared.Answer.TheVariants.{Answered}
use Rattle.events.specs.Build.{owner_of}
use Rattle.machine.specs.Step.{answer_of, read_answer}
use Rattle.ledger.specs.Rules.{more_of, installed, install_word, install_by, install, install_clear, persisted, persist_clear, decide, settle, swap, swapped, swap_clear, store_free, plan_of, read_plan, read_clear_plan}
use Rattle.ledger.specs.Update.{clash}
use Rattle.ledger.specs.Cells.{Body, Cells, State}
use Rattle.ledger.specs.Cond.{cond_if}
use Rattle.ledger.specs.Workers.{WorkKnows, WorkerKnows}
use Rattle.ledger.proofs.Course.{Runs}
use Rattle.ledger.proofs.Machine.{Turn, refused, opens, adds, removes, submits, discards, begins, works, reads, clears, backs_word, backs_status, backs_body, crashes, recovers}

-- what comes next is no answer
abbrev Quiet : Next → Type 0
Quiet (Go p) = Unit {0}
Quiet (Help e) = Unit {0}
Quiet Over = Unit {0}
Quiet Wait = Unit {0}
Quiet (Answer o) = ⊥

abbrev Silent : Plan Next → Type 0
Silent p = Quiet p.next

quiet_none : (x : Next) (o : Outcome) → Quiet x → answer_of x ≢ Answered o
quiet_none (Go p) o h e = clash (cc)
quiet_none (Help f) o h e = clash (cc)
quiet_none Over o h e = clash (cc)
quiet_none Wait o h e = clash (cc)
quiet_none (Answer q) o h e = h

more_quiet : (i c : ℕ) (f : Option ℕ → Next) → ((j : ℕ) → Quiet (f (Some j))) → Quiet (f None) → Quiet (f (more_of i c))
unfolding more_of
more_quiet i c f a b = cond_if (λ (x : Option ℕ). Quiet (f x)) (ltb (suc i) c) (Some (suc i)) None (λ _. a (suc i)) (λ _. b)

module _ (d : ℕ) (x : Seen) where
  word_quiet : (s : Sort) (i : ℕ) → Silent (install_word i d x s)
  word_quiet (Plain v true) i = tt
  word_quiet (Plain v false) i = cond_if Silent (eqb v x.entry.expected) _ _ (λ _. more_quiet i x.count installed (λ j. tt) tt) (λ _. tt)
  word_quiet (Pointer e dirty) i = cond_if Silent (eqb e d) _ _ (λ _. more_quiet i x.count installed (λ j. tt) tt) (λ _. tt)
  word_quiet (Neither w) i = tt

  install_quiet : (i : ℕ) (s : Status) → Silent (install_by i d x s)
  install_quiet i Free = tt
  install_quiet i Undecided = word_quiet x.word i
  install_quiet i (Decided o dirty) = tt
  install_quiet i (Bad y) = tt

  decide_quiet : (o : Outcome) (s : Status) → Silent (decide o s)
  decide_quiet o Free = tt
  decide_quiet o Undecided = tt
  decide_quiet o (Decided q dirty) = tt
  decide_quiet o (Bad y) = tt

  settle_quiet : (s : Status) → Silent (settle s)
  settle_quiet Free = tt
  settle_quiet Undecided = tt
  settle_quiet (Decided o true) = tt
  settle_quiet (Decided o false) = tt
  settle_quiet (Bad y) = tt

  swapped_quiet : (owner : Bool) → Quiet (swapped owner None)
  swapped_quiet true = tt
  swapped_quiet false = tt

  free_quiet : (busy : Bool) (s : Status) → Silent (store_free busy s)
  free_quiet true s = tt
  free_quiet false s = tt

  -- only the last place answers
  plan_answers : (p : Place) (busy owner : Bool) (o : Outcome) → answer_of (plan_of p d x busy owner).next ≡ Answered o → p ≡ BackFree o
  unfolding install install_clear persist_clear swap swap_clear
  plan_answers BackBody busy owner o e = clash (cc)
  plan_answers StoreUndecided busy owner o e = clash (cc)
  plan_answers BackUndecided busy owner o e = clash (cc)
  plan_answers (Install i) busy owner o e = absurd (quiet_none (plan_of (Install i) d x busy owner).next o (install_quiet i x.status) e)
  plan_answers (InstallClear i v) busy owner o e = clash (cc)
  plan_answers (Persist i) busy owner o e = clash (cc)
  plan_answers (PersistClear i) busy owner o e = absurd (quiet_none (plan_of (PersistClear i) d x busy owner).next o (more_quiet i x.count persisted (λ j. tt) tt) e)
  plan_answers (Decide q) busy owner o e = absurd (quiet_none (plan_of (Decide q) d x busy owner).next o (decide_quiet q x.status) e)
  plan_answers Settle busy owner o e = absurd (quiet_none (plan_of Settle d x busy owner).next o (settle_quiet x.status) e)
  plan_answers SettleClear busy owner o e = clash (cc)
  plan_answers (Swap i) busy owner o e = clash (cc)
  plan_answers (SwapBack i) busy owner o e = clash (cc)
  plan_answers (SwapClear i) busy owner o e = absurd (quiet_none (plan_of (SwapClear i) d x busy owner).next o (more_quiet i x.count (swapped owner) (λ j. tt) (swapped_quiet owner)) e)
  plan_answers StoreFree busy owner o e = absurd (quiet_none (plan_of StoreFree d x busy owner).next o (free_quiet busy x.status) e)
  plan_answers (BackFree q) busy owner o e = let z : q ≡ o = cc in ap BackFree z

read_answers_none : (x : ReadNext) (o : Outcome) → read_answer x ≢ Answered o
read_answers_none (Meet e) o z = clash (cc)
read_answers_none (Clear y) o z = clash (cc)
read_answers_none (Value y) o z = clash (cc)

module _ (n k : ℕ) (s : State) (v : ℕ) (z : Outcome) where
  pub turn_answers : (e : Event) (t : State) (r : A.Answer) → Turn n k s e t r → e ≡ Step v → r ≡ Answered z → (o : Own) × (c : ℕ) × (s.worker v ≡ Working o c (BackFree z))
  turn_answers e t r (refused f x) p q = clash (cc)
  turn_answers e t r (opens u c a l y b o) p q = clash (cc)
  turn_answers e t r (adds u c j x b a g y l) p q = clash (cc)
  turn_answers e t r (removes u c x j b a y) p q = clash (cc)
  turn_answers e t r (submits u c a o) p q = clash (cc)
  turn_answers e t r (discards u c a) p q = clash (cc)
  turn_answers e t r (begins u x a o) p q = clash (cc)
  turn_answers e t r (works u o c j x busy a y alone) p q = let h : u ≡ v = cc in (o, c, ap s.worker (sym h) ∙ a.is ∙ ap (Working o c) (plan_answers c x j busy (owner_of o c) z q))
  turn_answers e t r (reads u x y a o) p q = absurd (read_answers_none (read_plan x y).next z q)
  turn_answers e t r (clears u x y j a o) p q = absurd (read_answers_none (read_clear_plan x y j).next z q)
  turn_answers e t r (backs_word a o) p q = clash (cc)
  turn_answers e t r (backs_status c o) p q = clash (cc)
  turn_answers e t r (backs_body c o) p q = clash (cc)
  turn_answers e t r crashes p q = clash (cc)
  turn_answers e t r (recovers c j x o y) p q = clash (cc)

own_one : (o : Own) (c d : ℕ) → owner_of o c ≡ true → owner_of o d ≡ true → c ≡ d
own_one (Operation e) c d p q = sym (eqb-true e c p) ∙ eqb-true e d q
own_one (Read a) c d p q = clash (cc)

-- what is known there of the operation that it runs
module _ (n k : ℕ) (M : Cells) (In : ℕ → Bool) (D : ℕ → Type 0) (Sent : ℕ → Body) where
  pub last_knows : (x : Worker) (o : Own) (c d : ℕ) (z : Outcome) → x ≡ Working o c (BackFree z) → WorkerKnows n k M In D Sent x → Runs x d
      → (M.status Cached d ≡ Free) × (In d ≡ is_success z) × (z ≡ Failed → D d)
  last_knows x o c d z e h r = go (owner_of o c) refl (subst (WorkerKnows n k M In D Sent) e h).2
    where
      mine : owner_of o d ≡ true
      mine = subst (λ (y : Worker). Runs y d) e r

      go : (t : Bool) → owner_of o c ≡ t → WorkKnows n k M In D Sent t o c (BackFree z) → (M.status Cached d ≡ Free) × (In d ≡ is_success z) × (z ≡ Failed → D d)
      go true p y = subst (λ (f : ℕ). (M.status Cached f ≡ Free) × (In f ≡ is_success z) × (z ≡ Failed → D f)) (own_one o c d p mine) y
      go false p y = absurd y.1.1
