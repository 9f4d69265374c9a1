-- Recovery of an image, in place, from descriptor 0: the machine's own plan of a recovery step (`recovery_plan`), performed on the image's bytes. "It performs at
-- most that many recovery steps ... and answers complete or not, with the steps taken; a write-back step alters no byte and counts."
use Rattle.std.specs.Prelude.{ℕ, zero, suc, ◌/◌, Bool, true, false, List, Option}
use Rattle.steps.specs.declared.Seen.{Seen}
use Rattle.steps.specs.declared.Effect as E
use Rattle.steps.specs.declared.Effect.{Effect}
use Rattle.steps.specs.declared.Effect.TheVariants.{Nothing, StoreWord, BackWord, StoreStatus, BackStatus}
use Rattle.steps.specs.declared.RecoveryPlace.{RecoveryPlace}
use Rattle.steps.specs.declared.RecoveryPlace.TheVariants.{Outside, At}
use Rattle.steps.specs.Recovery.{recovery_plan}
use Rattle.machine.specs.Recover.{place_after}
use Rattle.image.specs.declared.Recovery.{Recovery}
use Rattle.image.specs.Layout.{word_of, with_word, part_of, status_in, count_in, entry_in, with_status}
use Rattle.image.specs.Check.{image_refusal}
use Rattle.steps.specs.declared.Plan.{Plan}

-- what a step at entry i of d looks at
unfoldable pub seen_in : List ℕ → ℕ → ℕ → ℕ → Seen
seen_in x n d i =
    record {
      status = status_in (part_of x n d);
      count = count_in (part_of x n d);
      entry = entry_in (part_of x n d) i;
      word = word_of x (entry_in (part_of x n d) i).address;
    }

-- its one effect; a write-back alters no byte
abbrev pub performed_in : List ℕ → ℕ → ℕ → Effect → List ℕ
performed_in x n d Nothing = x
performed_in x n d (StoreWord a s) = with_word x a s
performed_in x n d (BackWord a) = x
performed_in x n d (StoreStatus s) = with_status x n d s
performed_in x n d BackStatus = x
performed_in x n d E.TheVariants.BackBody = x

unfoldable pub plan_in : List ℕ → ℕ → ℕ → ℕ → Plan (Option ℕ)
plan_in x n d done = recovery_plan d done (seen_in x n d (done / 2))

-- one step at d: the image then, and where recovery stands then
unfoldable pub image_after : ℕ → List ℕ → ℕ → ℕ → List ℕ
image_after n x d done = performed_in x n d (plan_in x n d done).effect

unfoldable pub place_then : ℕ → ℕ → List ℕ → ℕ → ℕ → RecoveryPlace
place_then n k x d done = place_after k d (plan_in x n d done).next

-- what so many steps at most leave: the image, whether recovery is complete, the steps taken
pub record Ran : Type 0 where
  pub bytes : List ℕ
  pub complete : Bool
  pub steps : ℕ

abbrev pub ran : List ℕ → Bool → ℕ → Ran
ran x c s = record { bytes = x; complete = c; steps = s }

abbrev pub one_more : Ran → Ran
one_more r = ran r.bytes r.complete (suc r.steps)

-- from a place on, of k descriptors, with this allowance; recovery is complete outside
abbrev pub is_outside : RecoveryPlace → Bool
is_outside Outside = true
is_outside (At d done) = false

-- one step, and then the rest
abbrev pub stepped : ℕ → ℕ → List ℕ → RecoveryPlace → (List ℕ → RecoveryPlace → Ran) → Ran
stepped n k x Outside rest = ran x true 0
stepped n k x (At d done) rest = one_more (rest (image_after n x d done) (place_then n k x d done))

unfoldable pub run_from : ℕ → ℕ → ℕ → List ℕ → RecoveryPlace → Ran
run_from zero n k x p = ran x (is_outside p) 0
run_from (suc a) n k x p = stepped n k x p (λ y q. run_from a n k y q)

-- "answers complete or not, with the steps taken": 0 complete, 256 not, else the refusal's number
abbrev pub answer_for : Bool → ℕ
answer_for true = 0
answer_for false = 256

pub record Recovered : Type 0 where
  pub bytes : List ℕ
  pub result : Recovery

abbrev pub recovered : List ℕ → Recovery → Recovered
recovered x r = record { bytes = x; result = r }

abbrev pub reported : Ran → Recovered
reported r = recovered r.bytes (record { answer = answer_for r.complete; steps = r.steps })

-- a refused image is untouched, with zero steps
abbrev pub unless_refused : ℕ → ℕ → ℕ → List ℕ → ℕ → Recovered
unless_refused zero n k x allowance = reported (run_from allowance n k x (At 0 0))
unless_refused (suc r) n k x allowance = recovered x (record { answer = suc r; steps = 0 })

-- the whole of it, for every n, k, bytes and allowance
unfoldable pub recover_of : ℕ → ℕ → List ℕ → ℕ → Recovered
recover_of n k x allowance = unless_refused (image_refusal n k x) n k x allowance
