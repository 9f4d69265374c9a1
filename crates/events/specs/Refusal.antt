-- The refusals 4 to 17: for each kind of event the ordered table of numbers and conditions of document 01, of which the first that holds is given.
use Rattle.std.specs.Prelude.{Bool, true, false, cond, not, ◌||◌, List, [], ◌∷◌, ℕ, ◌^◌, eqb, leb, None, Option, Some, Result, Ok, Err}
use Rattle.steps.specs.declared.Worker.{Worker}
use Rattle.steps.specs.declared.Worker.TheVariants.{Idle, Building, Working, Reading, ReadClear}
use Rattle.steps.specs.declared.Entry.{Entry}
use Rattle.steps.specs.declared.RecoveryPlace.{RecoveryPlace}
use Rattle.steps.specs.declared.RecoveryPlace.TheVariants.{Outside, At}
use Rattle.memory.specs.declared.Copy.TheVariants.{Cached}
use Rattle.memory.specs.Block.{Block}
use Rattle.memory.specs.Content.{count_in, worker_in, recovery_in}
use Rattle.memory.specs.Fresh.{sizes_in}
use Rattle.memory.specs.Value.{entry_for}
use Rattle.events.specs.declared.Event.{Event}
use Rattle.events.specs.declared.Event.TheVariants.{Open, Add, Remove, Submit, Discard, Read, Step, BackWord, BackStatus, BackBody, Crash, Recover}
use Rattle.events.specs.declared.Refusal.{Refusal}
use Rattle.events.specs.Number.{number}
use Rattle.events.specs.Build.{build_of, lowest_below}

pub record Check : Type 0 where
  pub number : ℕ
  pub holds : Bool

abbrev pub check : ℕ → Bool → Check
check r t = record { number = r; holds = t }

-- the first that holds; 0 where none does
unfoldable pub first_of : List Check → ℕ
first_of [] = 0
first_of (c ∷ cs) = cond c.holds c.number (first_of cs)

-- "not below"
abbrev pub not_below : ℕ → ℕ → Bool
not_below x n = leb n x

abbrev pub is_recovering : RecoveryPlace → Bool
is_recovering Outside = false
is_recovering (At d s) = true

abbrev pub is_idle : Worker → Bool
is_idle Idle = true
is_idle (Building d) = false
is_idle (Working o e p) = false
is_idle (Reading a) = false
is_idle (ReadClear a v) = false

abbrev pub is_building : Worker → Bool
is_building Idle = false
is_building (Building d) = true
is_building (Working o e p) = false
is_building (Reading a) = false
is_building (ReadClear a v) = false

abbrev pub is_missing : Option ℕ → Bool
is_missing (Some i) = false
is_missing None = true

-- each condition, by its number; x is the event's worker
abbrev pub no_worker : Block → ℕ → Check
no_worker m w = check 4 (not_below w (sizes_in m).w)

abbrev pub in_recovery : Block → Check
in_recovery m = check 5 (is_recovering (recovery_in m))

abbrev pub outside_recovery : RecoveryPlace → Check
outside_recovery p = check 6 (not (is_recovering p))

abbrev pub owns_something : Worker → Check
owns_something x = check 7 (not (is_idle x))

abbrev pub not_building : Worker → Check
not_building x = check 8 (not (is_building x))

abbrev pub none_qualifies : Option ℕ → Check
none_qualifies f = check 9 (is_missing f)

abbrev pub no_address : Block → ℕ → Check
no_address m a = check 10 (not_below a (sizes_in m).n)

abbrev pub too_large : Entry → Check
too_large e = check 11 (not_below e.expected (2 ^ 61) || not_below e.desired (2 ^ 61))

abbrev pub fifth_word : Block → ℕ → Check
fifth_word m d = check 12 (leb 4 (count_in Cached m d))

abbrev pub already_added : Block → ℕ → ℕ → Check
already_added m d a = check 13 (not (is_missing (entry_for Cached m d a)))

abbrev pub not_there : Option ℕ → Check
not_there f = check 14 (is_missing f)

abbrev pub count_zero : Block → ℕ → Check
count_zero m d = check 15 (eqb (count_in Cached m d) 0)

abbrev pub runs_nothing : Worker → Check
runs_nothing x = check 16 (is_idle x || is_building x)

abbrev pub no_descriptor : Block → ℕ → Check
no_descriptor m d = check 17 (not_below d (sizes_in m).k)

-- for each kind, in the order 4, 5, 6, 7, 8, 16, 9, 10, 17, 11, 13, 12, 14, 15
abbrev pub open_checks : Block → ℕ → Worker → Option ℕ → List Check
open_checks m w x f = no_worker m w ∷ in_recovery m ∷ owns_something x ∷ none_qualifies f ∷ []

abbrev pub add_checks : Block → ℕ → Worker → Entry → List Check
add_checks m w x e =
    no_worker m w ∷ in_recovery m ∷ not_building x ∷ no_address m e.address ∷ too_large e ∷ already_added m (build_of x) e.address ∷ fifth_word m (build_of x) ∷ []

abbrev pub remove_checks : Block → ℕ → Worker → ℕ → Option ℕ → List Check
remove_checks m w x a f = no_worker m w ∷ in_recovery m ∷ not_building x ∷ no_address m a ∷ not_there f ∷ []

abbrev pub submit_checks : Block → ℕ → Worker → List Check
submit_checks m w x = no_worker m w ∷ in_recovery m ∷ not_building x ∷ count_zero m (build_of x) ∷ []

abbrev pub discard_checks : Block → ℕ → Worker → List Check
discard_checks m w x = no_worker m w ∷ in_recovery m ∷ not_building x ∷ []

abbrev pub read_checks : Block → ℕ → Worker → ℕ → List Check
read_checks m w x a = no_worker m w ∷ in_recovery m ∷ owns_something x ∷ no_address m a ∷ []

abbrev pub step_checks : Block → ℕ → Worker → List Check
step_checks m w x = no_worker m w ∷ in_recovery m ∷ runs_nothing x ∷ []

abbrev pub checks_of : Block → Event → List Check
checks_of m (Open w) = open_checks m w (worker_in m w) (lowest_below m (sizes_in m).k)
checks_of m (Add w a x y) = add_checks m w (worker_in m w) (record { address = a; expected = x; desired = y })
checks_of m (Remove w a) = remove_checks m w (worker_in m w) a (entry_for Cached m (build_of (worker_in m w)) a)
checks_of m (Submit w) = submit_checks m w (worker_in m w)
checks_of m (Discard w) = discard_checks m w (worker_in m w)
checks_of m (Read w a) = read_checks m w (worker_in m w) a
checks_of m (Step w) = step_checks m w (worker_in m w)
checks_of m (BackWord a) = no_address m a ∷ []
checks_of m (BackStatus d) = no_descriptor m d ∷ []
checks_of m (BackBody d) = no_descriptor m d ∷ []
checks_of m Crash = []
checks_of m Recover = outside_recovery (recovery_in m) ∷ []

unfoldable pub refusal_of : Block → Event → ℕ
refusal_of m e = first_of (checks_of m e)

-- the refusal r or, where there is none, this one if it holds
abbrev pub or_else : ℕ → ℕ → Bool → ℕ
or_else r n t = cond (eqb r 0) (cond t n 0) r

-- what a table of checks comes to: the number of the refusal, 0 where nothing is refused
abbrev pub refused : Result Unit Refusal → ℕ
refused (Ok u) = 0
refused (Err r) = number r
