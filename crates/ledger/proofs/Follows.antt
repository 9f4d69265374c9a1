-- THE ROUTINE AND THE MACHINE AGREE after any history: of a crash and s events 0C the machine leaves in cached memory the bytes that the routine's definition (`recover_of` of
-- `image`) leaves with the allowance s on the image of persisted memory; the routine's steps are the answers A and Z among those of the events, and it is complete exactly if
-- one of them is Z.
use Rattle.std.specs.Prelude.{◌≡◌, refl, Bool, true, false, ◌||◌, List, [], ◌∷◌, ℕ, zero, suc, ◌+◌, length}
use Rattle.std.proofs.Common.{sym, subst, ◌∙◌, arith}
use Rattle.std.proofs.Math.Path.{ap}
use Rattle.steps.specs.declared.RecoveryPlace.{RecoveryPlace}
use Rattle.steps.specs.declared.RecoveryPlace.TheVariants.{Outside, At}
use Rattle.memory.specs.declared.Copy.TheVariants.{Cached, Persisted}
use Rattle.memory.specs.declared.Sizes.{Sizes}
use Rattle.memory.specs.Block.{Block}
use Rattle.memory.specs.Fresh.{good_sizes}
use Rattle.events.specs.declared.Event.{Event}
use Rattle.events.specs.declared.Event.TheVariants.{Crash}
use Rattle.events.specs.declared.Answer.{Answer}
use Rattle.events.specs.declared.Answer.TheVariants.{Ok, Opened, Moved, Helping, Waits, Answered, Shows, Recovering, Recovered, Refused}
use Rattle.events.specs.Refusal.{refusal_of, first_of}
use Rattle.machine.specs.Recover.{crashed, recovery_answer}
use Rattle.machine.specs.Apply.{apply_of, after_of}
use Rattle.image.specs.Check.{image_refusal}
use Rattle.image.specs.Recover.{image_after, place_then, is_outside, run_from, answer_for, recover_of}
use Rattle.image.specs.Machine.{Begun, recovers, answers_from, image_follows, answers_follow, crash_begins}
use Rattle.image.specs.Cuts.{call_runs}
use Rattle.image.specs.OfMemory.{image_of}
use Rattle.ledger.specs.Statement.{memory_at}
use Rattle.ledger.proofs.History.{memory_whole, memory_sizes}
use Rattle.ledger.specs.Ranges.{ranges}
use Rattle.ledger.specs.Small.{small_fits}
use Rattle.ledger.proofs.SmallKept.{always_small}
use Rattle.ledger.proofs.Passes.{every_image_passes}
use Rattle.ledger.proofs.ImageValue.{crash_image}
use Rattle.ledger.specs.Runtime.{found}
use Rattle.ledger.specs.RecoverySteps.{step_in}

-- the steps of recovery among answers, and whether the last of them, Z, is there
abbrev pub steps_in : List Answer → ℕ
steps_in [] = 0
steps_in (r ∷ rs) = step_in r + steps_in rs

abbrev pub is_last : Answer → Bool
is_last Ok = false
is_last (Opened d) = false
is_last Moved = false
is_last (Helping e) = false
is_last Waits = false
is_last (Answered o) = false
is_last (Shows v) = false
is_last Recovering = false
is_last Recovered = true
is_last (Refused r) = false

abbrev pub has_last : List Answer → Bool
has_last [] = false
has_last (r ∷ rs) = is_last r || has_last rs

-- a step is A or Z, and Z where recovery is then outside
one_step : (p : RecoveryPlace) → step_in (recovery_answer p) ≡ 1
one_step Outside = refl
one_step (At d t) = refl

last_outside : (p : RecoveryPlace) → is_last (recovery_answer p) ≡ is_outside p
last_outside Outside = refl
last_outside (At d t) = refl

steps_told : (s n k : ℕ) (x : List ℕ) (p : RecoveryPlace) → (run_from s n k x p).steps ≡ steps_in (answers_from s n k x p)
unfolding run_from
steps_told zero n k x p = refl
steps_told (suc s) n k x Outside = none (suc s)
  where
    none : (s : ℕ) → 0 ≡ steps_in (answers_from s n k x Outside)
    none zero = refl
    none (suc s) = let z = none s in omega arith
steps_told (suc s) n k x (At d done) =
    let q = place_then n k x d done in
    let y = steps_told s n k (image_after n x d done) q in
    rw (one_step q) (omega arith)

complete_told : (s n k : ℕ) (x : List ℕ) (p : RecoveryPlace) → (run_from s n k x p).complete ≡ is_outside p || has_last (answers_from s n k x p)
unfolding run_from
complete_told zero n k x Outside = refl
complete_told zero n k x (At d done) = refl
complete_told (suc s) n k x Outside = refl
complete_told (suc s) n k x (At d done) = let q = place_then n k x d done in rw (last_outside q) (complete_told s n k (image_after n x d done) q)

crash_is : (m : Block) → (apply_of m Crash).memory ≡ crashed m
unfolding apply_of refusal_of first_of
crash_is m = refl

module _ (n k w : ℕ) (sizes : good_sizes n k w ≡ true) (es : List Event) where
  abbrev m : Block
  m = memory_at n k w es (length es)

  -- the memory after the crash
  abbrev pub start : Block
  start = (apply_of m Crash).memory

  begun : Begun k start
  begun =
      let r = ranges n k w sizes in
      let f = small_fits Persisted m (always_small n k w r.words r.descriptors r.workers r.some es (length es)) in
      let z = ap (λ (s : Sizes). s.k) (memory_sizes n k w es (length es)) in
      rw (crash_is m) (subst (λ (j : ℕ). Begun j (crashed m)) z (crash_begins m (memory_whole n k w es (length es)) f))

  same : image_of Cached start n k ≡ found n k w es
  same = crash_image m (memory_whole n k w es (length es)) n k

  accepted : image_refusal n k (found n k w es) ≡ 0
  accepted = every_image_passes n k w sizes es (length es)

  passes : image_refusal n k (image_of Cached start n k) ≡ 0
  passes = rw same accepted

  pub bytes_follow : (s : ℕ) → image_of Cached (after_of start (recovers s)).memory n k ≡ (recover_of n k (found n k w es) s).bytes
  bytes_follow s =
      image_follows n k start begun passes s
      ∙ ap (λ (x : List ℕ). (run_from s n k x (At 0 0)).bytes) same
      ∙ sym (call_runs n k (found n k w es) s accepted)

  -- the answers to the s events
  abbrev pub told : ℕ → List Answer
  told s = (after_of start (recovers s)).answers

  told_is : (s : ℕ) → told s ≡ answers_from s n k (found n k w es) (At 0 0)
  told_is s = rw (← same) (answers_follow n k start begun passes s)

  pub steps_follow : (s : ℕ) → (recover_of n k (found n k w es) s).result.steps ≡ steps_in (told s)
  unfolding recover_of
  steps_follow s = rw accepted (steps_told s n k (found n k w es) (At 0 0) ∙ ap steps_in (sym (told_is s)))

  pub answer_follows : (s : ℕ) → (recover_of n k (found n k w es) s).result.answer ≡ answer_for (has_last (told s))
  unfolding recover_of
  answer_follows s = rw accepted (ap answer_for (complete_told s n k (found n k w es) (At 0 0) ∙ ap has_last (sym (told_is s))))
