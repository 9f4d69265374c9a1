-- Document 01, 7: a step of an operation is answered W at the owner's store of Free alone, while another worker's current job is that descriptor; at no other place, and for no other reason.
use Rattle.std.specs.Prelude.{◌≡◌, refl, Bool, true, false, cond, ℕ, eqb}
use Rattle.std.proofs.Common.{sym, ap, ◌∙◌, arith, None, Option, Some}
use Rattle.word.specs.declared.Sort.{Sort}
use Rattle.word.specs.declared.Sort.TheVariants.{Plain, Pointer, Neither}
use Rattle.word.specs.declared.Outcome.{Outcome}
use Rattle.word.specs.declared.Status.{Status}
use Rattle.word.specs.declared.Status.TheVariants.{Free, Undecided, Decided, Bad}
use Rattle.steps.specs.declared.Own.{Own}
use Rattle.steps.specs.declared.Place.{Place}
use Rattle.steps.specs.declared.Place.TheVariants.{BackBody, StoreUndecided, BackUndecided, Install, InstallClear, Persist, PersistClear, Decide, Settle, SettleClear, Swap, SwapBack, SwapClear, StoreFree, BackFree}
use Rattle.steps.specs.declared.Seen.{Seen}
use Rattle.steps.specs.declared.Next.{Next}
use Rattle.steps.specs.declared.Next.TheVariants.{Go, Help, Over, Wait, Answer}
use Rattle.steps.specs.declared.Plan.{Plan}
use Rattle.steps.specs.Operation.{more_of, installed, install_word, install_by, install, install_clear, persisted, persist_clear, decide, settle, swap, swapped, swap_clear, plan_of}
use Rattle.memory.specs.Block.{Block}
use Rattle.events.specs.declared.Answer.TheVariants.{Waits}
use Rattle.machine.specs.Step.{others_on, plan_at, arrived, work_step}

clash : {A : Type 0} → ◌≡◌ {A = ℕ} 0 1 → A
clash e = absurd (omega arith)

-- the plan does not wait
abbrev is_wait : Next → Bool
is_wait (Go p) = false
is_wait (Help e) = false
is_wait Over = false
is_wait Wait = true
is_wait (Answer r) = false

installed_goes : (x : Option ℕ) → is_wait (installed x) ≡ false
installed_goes (Some j) = refl
installed_goes None = refl

persisted_goes : (x : Option ℕ) → is_wait (persisted x) ≡ false
persisted_goes (Some j) = refl
persisted_goes None = refl

swapped_goes : (owner : Bool) (x : Option ℕ) → is_wait (swapped owner x) ≡ false
swapped_goes owner (Some j) = refl
swapped_goes true None = refl
swapped_goes false None = refl

either_goes : (t : Bool) (p q : Plan Next) → is_wait p.next ≡ false → is_wait q.next ≡ false → is_wait (cond t p q).next ≡ false
either_goes true p q h k = h
either_goes false p q h k = k

word_goes : (i d : ℕ) (s : Seen) (x : Sort) → is_wait (install_word i d s x).next ≡ false
word_goes i d s (Plain v true) = refl
word_goes i d s (Plain v false) = either_goes (eqb v s.entry.expected) _ _ (installed_goes (more_of i s.count)) refl
word_goes i d s (Pointer e dirty) = either_goes (eqb e d) _ _ (installed_goes (more_of i s.count)) refl
word_goes i d s (Neither w) = refl

install_goes : (i d : ℕ) (s : Seen) (t : Status) → is_wait (install_by i d s t).next ≡ false
install_goes i d s Free = refl
install_goes i d s Undecided = word_goes i d s s.word
install_goes i d s (Decided o dirty) = refl
install_goes i d s (Bad x) = refl

decide_goes : (o : Outcome) (t : Status) → is_wait (decide o t).next ≡ false
decide_goes o Free = refl
decide_goes o Undecided = refl
decide_goes o (Decided q dirty) = refl
decide_goes o (Bad x) = refl

settle_goes : (t : Status) → is_wait (settle t).next ≡ false
settle_goes Free = refl
settle_goes Undecided = refl
settle_goes (Decided o true) = refl
settle_goes (Decided o false) = refl
settle_goes (Bad x) = refl

plan_waits : (p : Place) (d : ℕ) (s : Seen) (busy owner : Bool) → (plan_of p d s busy owner).next ≡ Wait → (p ≡ StoreFree) × (busy ≡ true)
unfolding install install_clear persist_clear swap swap_clear
plan_waits BackBody d s busy owner e = clash (cc)
plan_waits StoreUndecided d s busy owner e = clash (cc)
plan_waits BackUndecided d s busy owner e = clash (cc)
plan_waits (Install i) d s busy owner e = let z = sym (ap is_wait e) ∙ install_goes i d s s.status in clash (cc)
plan_waits (InstallClear i v) d s busy owner e = clash (cc)
plan_waits (Persist i) d s busy owner e = clash (cc)
plan_waits (PersistClear i) d s busy owner e = let z = sym (ap is_wait e) ∙ persisted_goes (more_of i s.count) in clash (cc)
plan_waits (Decide o) d s busy owner e = let z = sym (ap is_wait e) ∙ decide_goes o s.status in clash (cc)
plan_waits Settle d s busy owner e = let z = sym (ap is_wait e) ∙ settle_goes s.status in clash (cc)
plan_waits SettleClear d s busy owner e = clash (cc)
plan_waits (Swap i) d s busy owner e = clash (cc)
plan_waits (SwapBack i) d s busy owner e = clash (cc)
plan_waits (SwapClear i) d s busy owner e = let z = sym (ap is_wait e) ∙ swapped_goes owner (more_of i s.count) in clash (cc)
plan_waits StoreFree d s true owner e = (refl, refl)
plan_waits StoreFree d s false owner e = clash (cc)
plan_waits (BackFree o) d s busy owner e = clash (cc)

arrived_waits : (m : Block) (w : ℕ) (o : Own) (e : ℕ) (p : Place) (n : Next) → (arrived m w o e p n).answer ≡ Waits → n ≡ Wait
arrived_waits m w o e p (Go q) h = clash (cc)
arrived_waits m w o e p (Help f) h = clash (cc)
arrived_waits m w o e p Over h = clash (cc)
arrived_waits m w o e p Wait h = refl
arrived_waits m w o e p (Answer r) h = clash (cc)

-- exactly there
pub waits_there : (m : Block) (w : ℕ) (o : Own) (d : ℕ) (p : Place) → (work_step m w o d p).answer ≡ Waits → (p ≡ StoreFree) × (others_on m w d 8 ≡ true)
unfolding work_step plan_at
waits_there m w o d p h =
    let z = plan_waits p d _ _ _ (arrived_waits m w o d p (plan_at m w o d p).next h) in
    (z.0, rw z.0 at z.1)
