-- A refusal changes nothing, and each number is given exactly when it is the first of its table that holds.
use Rattle.std.specs.Prelude.{◌≡◌, refl, ◌↔◌, Bool, true, false, cond, not, ◌||◌, List, [], ◌∷◌, ℕ, zero, suc, eqb}
use Rattle.std.proofs.Common.{sym, ap, subst, ◌∙◌, arith, None, Option, Some}
use Rattle.steps.specs.declared.Worker.{Worker}
use Rattle.steps.specs.declared.Worker.TheVariants.{Idle, Building, Working, Reading, ReadClear}
use Rattle.steps.specs.declared.Next.{Next}
use Rattle.steps.specs.declared.Next.TheVariants.{Go, Help, Over, Wait, Answer}
use Rattle.steps.specs.declared.ReadNext.{ReadNext}
use Rattle.steps.specs.declared.ReadNext.TheVariants.{Meet, Clear, Value}
use Rattle.steps.specs.declared.RecoveryPlace.{RecoveryPlace}
use Rattle.steps.specs.declared.RecoveryPlace.TheVariants.{Outside, At}
use Rattle.steps.specs.Plan.{read_plan, read_clear_plan}
use Rattle.memory.specs.Block.{Block}
use Rattle.memory.specs.declared.Copy.TheVariants.{Cached}
use Rattle.memory.specs.Content.{word_in, worker_in, recovery_in}
use Rattle.memory.specs.Fresh.{sizes_in}
use Rattle.events.specs.declared.Event.{Event}
use Rattle.events.specs.declared.Event.TheVariants.{Open, Add, Remove, Submit, Discard, Read, Step, BackWord, BackStatus, BackBody, Crash, Recover}
use Rattle.events.specs.declared.Answer.TheVariants.{Refused}
use Rattle.events.specs.Refusal.{Check, first_of, is_recovering, is_idle, is_building, is_missing, checks_of, refusal_of}
use Rattle.events.specs.First.{numbered, Gives, gives_first, first_gives, NoneHolds, none_holds, gives_some}
use Rattle.events.specs.Build.{lowest_below, opened}
use Rattle.machine.specs.Step.{answer_of, plan_at, read_answer, work_step, read_step, read_clear_step, step_of}
use Rattle.machine.specs.Recover.{place_after, recovery_plan_at, recovery_answer, recovery_step_at, recover_of}
use Rattle.machine.specs.Apply.{acted, unless_refused, apply_of}

clash : ◌≡◌ {A = ℕ} 0 1 → ⊥
clash e = omega arith

-- a step that is taken refuses nothing
next_refuses : (n : Next) (r : ℕ) → answer_of n ≡ Refused r → ⊥
next_refuses (Go p) r e = clash (cc)
next_refuses (Help f) r e = clash (cc)
next_refuses Over r e = clash (cc)
next_refuses Wait r e = clash (cc)
next_refuses (Answer o) r e = clash (cc)

read_refuses : (n : ReadNext) (r : ℕ) → read_answer n ≡ Refused r → ⊥
read_refuses (Meet e) r f = clash (cc)
read_refuses (Clear v) r f = clash (cc)
read_refuses (Value v) r f = clash (cc)

recovery_refuses : (p : RecoveryPlace) (r : ℕ) → recovery_answer p ≡ Refused r → ⊥
recovery_refuses Outside r e = clash (cc)
recovery_refuses (At d s) r e = clash (cc)

-- what a step, an opening, a recovery step refuse, they leave as it was
step_unchanged : (m : Block) (w : ℕ) (x : Worker) (r : ℕ) → (step_of m w x).answer ≡ Refused r → (step_of m w x).memory ≡ m
unfolding work_step read_step read_clear_step
step_unchanged m w Idle r e = refl
step_unchanged m w (Building d) r e = refl
step_unchanged m w (Working o f p) r e = let z : ⊥ = next_refuses (plan_at m w o f p).next r e in search
step_unchanged m w (Reading a) r e = let z : ⊥ = read_refuses (read_plan a (word_in Cached m a)).next r e in search
step_unchanged m w (ReadClear a v) r e = let z : ⊥ = read_refuses (read_clear_plan a v (word_in Cached m a)).next r e in search

open_unchanged : (m : Block) (w : ℕ) (f : Option ℕ) (r : ℕ) → (opened m w f).answer ≡ Refused r → (opened m w f).memory ≡ m
open_unchanged m w (Some d) r e = let z : ⊥ = clash (cc) in search
open_unchanged m w None r e = refl

recover_unchanged : (m : Block) (k : ℕ) (p : RecoveryPlace) (r : ℕ) → (recover_of m k p).answer ≡ Refused r → (recover_of m k p).memory ≡ m
unfolding recovery_step_at
recover_unchanged m k Outside r e = refl
recover_unchanged m k (At d s) r e = let z : ⊥ = recovery_refuses (place_after k d (recovery_plan_at m d s).next) r e in search

acted_unchanged : (m : Block) (e : Event) (r : ℕ) → (acted m e).answer ≡ Refused r → (acted m e).memory ≡ m
acted_unchanged m (Open w) r f = open_unchanged m w (lowest_below m (sizes_in m).k) r f
acted_unchanged m (Add w a x y) r f = let z : ⊥ = clash (cc) in search
acted_unchanged m (Remove w a) r f = let z : ⊥ = clash (cc) in search
acted_unchanged m (Submit w) r f = let z : ⊥ = clash (cc) in search
acted_unchanged m (Discard w) r f = let z : ⊥ = clash (cc) in search
acted_unchanged m (Read w a) r f = let z : ⊥ = clash (cc) in search
acted_unchanged m (Step w) r f = step_unchanged m w (worker_in m w) r f
acted_unchanged m (BackWord a) r f = let z : ⊥ = clash (cc) in search
acted_unchanged m (BackStatus d) r f = let z : ⊥ = clash (cc) in search
acted_unchanged m (BackBody d) r f = let z : ⊥ = clash (cc) in search
acted_unchanged m Crash r f = let z : ⊥ = clash (cc) in search
acted_unchanged m Recover r f = recover_unchanged m (sizes_in m).k (recovery_in m) r f

-- a refusal changes nothing at all in the block
pub refused_unchanged : (m : Block) (e : Event) (r : ℕ) → (apply_of m e).answer ≡ Refused r → (apply_of m e).memory ≡ m
unfolding apply_of
refused_unchanged m e r f = go (refusal_of m e) f
  where
    go : (n : ℕ) → (unless_refused n m e).answer ≡ Refused r → (unless_refused n m e).memory ≡ m
    go zero f = acted_unchanged m e r f
    go (suc n) f = refl

-- every table's numbers are refusals
pub all_numbered : (m : Block) (e : Event) → numbered (checks_of m e) ≡ true
all_numbered m (Open w) = refl
all_numbered m (Add w a x y) = refl
all_numbered m (Remove w a) = refl
all_numbered m (Submit w) = refl
all_numbered m (Discard w) = refl
all_numbered m (Read w a) = refl
all_numbered m (Step w) = refl
all_numbered m (BackWord a) = refl
all_numbered m (BackStatus d) = refl
all_numbered m (BackBody d) = refl
all_numbered m Crash = refl
all_numbered m Recover = refl

-- an event none of whose checks holds is not refused
step_taken : (m : Block) (w : ℕ) (x : Worker) (r : ℕ) → (is_idle x || is_building x) ≡ false → (step_of m w x).answer ≡ Refused r → ⊥
unfolding work_step read_step read_clear_step
step_taken m w Idle r h e = clash (cc)
step_taken m w (Building d) r h e = clash (cc)
step_taken m w (Working o f p) r h e = next_refuses (plan_at m w o f p).next r e
step_taken m w (Reading a) r h e = read_refuses (read_plan a (word_in Cached m a)).next r e
step_taken m w (ReadClear a v) r h e = read_refuses (read_clear_plan a v (word_in Cached m a)).next r e

open_taken : (m : Block) (w : ℕ) (f : Option ℕ) (r : ℕ) → is_missing f ≡ false → (opened m w f).answer ≡ Refused r → ⊥
open_taken m w (Some d) r h e = clash (cc)
open_taken m w None r h e = clash (cc)

recover_taken : (m : Block) (k : ℕ) (p : RecoveryPlace) (r : ℕ) → not (is_recovering p) ≡ false → (recover_of m k p).answer ≡ Refused r → ⊥
unfolding recovery_step_at
recover_taken m k Outside r h e = clash (cc)
recover_taken m k (At d s) r h e = recovery_refuses (place_after k d (recovery_plan_at m d s).next) r e

taken : (m : Block) (e : Event) (r : ℕ) → NoneHolds (checks_of m e) → (acted m e).answer ≡ Refused r → ⊥
taken m (Open w) r h f = open_taken m w (lowest_below m (sizes_in m).k) r h.1.1.1.0 f
taken m (Add w a x y) r h f = clash (cc)
taken m (Remove w a) r h f = clash (cc)
taken m (Submit w) r h f = clash (cc)
taken m (Discard w) r h f = clash (cc)
taken m (Read w a) r h f = clash (cc)
taken m (Step w) r h f = step_taken m w (worker_in m w) r h.1.1.0 f
taken m (BackWord a) r h f = clash (cc)
taken m (BackStatus d) r h f = clash (cc)
taken m (BackBody d) r h f = clash (cc)
taken m Crash r h f = clash (cc)
taken m Recover r h f = recover_taken m (sizes_in m).k (recovery_in m) r h.0 f

refused_given : (m : Block) (e : Event) (r : ℕ) → (apply_of m e).answer ≡ Refused r → Gives (checks_of m e) r
unfolding apply_of refusal_of
refused_given m e r f = go (first_of (checks_of m e)) refl f
  where
    go : (n : ℕ) → first_of (checks_of m e) ≡ n → (unless_refused n m e).answer ≡ Refused r → Gives (checks_of m e) r
    go zero h f = let z : ⊥ = taken m e r (none_holds (checks_of m e) (all_numbered m e) h) f in search
    go (suc n) h f =
        let s : suc n ≡ r = cc in
        subst (λ (x : ℕ). Gives (checks_of m e) x) (h ∙ s) (first_gives (checks_of m e) (λ z. let y : suc n ≡ 0 = sym h ∙ z in omega arith))

given_refused : (m : Block) (e : Event) (r : ℕ) → Gives (checks_of m e) r → (apply_of m e).answer ≡ Refused r
unfolding apply_of refusal_of
given_refused m e r g = go (first_of (checks_of m e)) (gives_first (checks_of m e) r g) (gives_some (checks_of m e) r (all_numbered m e) g)
  where
    go : (n : ℕ) → n ≡ r → (r ≡ 0 → ⊥) → (unless_refused n m e).answer ≡ Refused r
    go zero h k = let z : ⊥ = k (sym h) in search
    go (suc n) h k = ap Refused h

-- each number is given exactly when its condition holds and no earlier one of the event's table does
pub refused_exactly : (m : Block) (e : Event) (r : ℕ) → ((apply_of m e).answer ≡ Refused r) ↔ Gives (checks_of m e) r
refused_exactly m e r = (refused_given m e r, given_refused m e r)

-- each table follows the order of document 01
abbrev pub order : List ℕ
order = 4 ∷ 5 ∷ 6 ∷ 7 ∷ 8 ∷ 16 ∷ 9 ∷ 10 ∷ 17 ∷ 11 ∷ 13 ∷ 12 ∷ 14 ∷ 15 ∷ []

-- the numbers of a table are met in this order
abbrev pub follows : List Check → List ℕ → Bool
follows [] ns = true
follows (c ∷ cs) [] = false
follows (c ∷ cs) (n ∷ ns) = cond (eqb c.number n) (follows cs ns) (follows (c ∷ cs) ns)

pub in_order : (m : Block) (e : Event) → follows (checks_of m e) order ≡ true
in_order m (Open w) = refl
in_order m (Add w a x y) = refl
in_order m (Remove w a) = refl
in_order m (Submit w) = refl
in_order m (Discard w) = refl
in_order m (Read w a) = refl
in_order m (Step w) = refl
in_order m (BackWord a) = refl
in_order m (BackStatus d) = refl
in_order m (BackBody d) = refl
in_order m Crash = refl
in_order m Recover = refl
