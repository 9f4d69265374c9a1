-- Demand 3, stated of the machine (`apply_of`, `after_of`) for n words, k descriptors and w workers and a list of events from fresh memory, refused ones included.
-- Event i is number i of the list, from 0. Moment i is when i events have happened: event i leads from moment i to moment i + 1.
use Rattle.std.specs.Prelude.{◌≡◌, ◌≢◌, Bool, true, false, cond, not, ◌&&◌, List, [], ◌∷◌, ℕ, zero, suc, ◌≤◌, ◌<◌, take, length, get_or, None, Option, Some}
use Rattle.word.specs.declared.Outcome.{Outcome}
use Rattle.word.specs.declared.Outcome.TheVariants.{Succeeded, Failed}
use Rattle.steps.specs.declared.Entry.{Entry}
use Rattle.steps.specs.declared.Worker.TheVariants.{Building}
use Rattle.memory.specs.declared.Copy.{Copy}
use Rattle.memory.specs.declared.Copy.TheVariants.{Cached, Persisted}
use Rattle.memory.specs.Block.{Block}
use Rattle.memory.specs.Content.{status_in, count_in, entry_in, worker_in}
use Rattle.memory.specs.Fresh.{good_sizes, fresh_block}
use Rattle.memory.specs.Value.{entry_for, succeeded, value_of}
use Rattle.events.specs.declared.Event.{Event}
use Rattle.events.specs.declared.Event.TheVariants.{Submit, Read, Step, Crash, Recover}
use Rattle.events.specs.declared.Answer.{Answer}
use Rattle.events.specs.declared.Answer.TheVariants.{Ok, Answered, Shows, Recovered}
use Rattle.machine.specs.Apply.{apply_of, after_of}

-- a body: the entries below the count (past it nothing is looked at)
unfoldable pub firsts : ℕ → (ℕ → Entry) → List Entry
firsts zero f = []
firsts (suc n) f = f 0 ∷ firsts n (λ i. f (suc i))

unfoldable pub body_in : Copy → Block → ℕ → List Entry
body_in c m d = firsts (count_in c m d) (entry_in c m d)

-- the ledger L with all the desired values of d's persisted body
abbrev pub desired_or : Block → ℕ → ℕ → Option ℕ → ℕ
desired_or m d x (Some j) = (entry_in Persisted m d j).desired
desired_or m d x None = x

unfoldable pub entered : Block → ℕ → (ℕ → ℕ) → ℕ → ℕ
entered m d L a = desired_or m d (L a) (entry_for Persisted m d a)

-- with those of every descriptor below k that is marked
unfoldable pub entered_below : ℕ → (ℕ → Bool) → Block → (ℕ → ℕ) → ℕ → ℕ
entered_below zero new m L = L
entered_below (suc d) new m L = cond (new d) (entered m d (entered_below d new m L)) (entered_below d new m L)

module _ (n k w : ℕ) (es : List Event) where
  unfoldable pub memory_at : ℕ → Block
  memory_at i = (after_of (fresh_block n k w) (take i es)).memory

  -- event i is e, and is answered r
  pub record Happens (i : ℕ) (e : Event) (r : Answer) : Type 0 where
    pub there : i < length es
    pub event : get_or es i Crash ≡ e
    pub answer : (apply_of (memory_at i) e).answer ≡ r

  -- THE INSTANT: at event i the status Succeeded of d, dirty or not, reaches persisted memory, by whatever cause
  unfoldable pub enters : ℕ → ℕ → Bool
  enters i d = succeeded (status_in Persisted (memory_at (suc i)) d) && not (succeeded (status_in Persisted (memory_at i) d))

  -- THE LEDGER at moment i, by address: zeros, and at each instant all the desired values of the operation whose instant it is
  unfoldable pub ledger : ℕ → ℕ → ℕ
  ledger zero = λ a. 0
  ledger (suc i) = entered_below k (enters i) (memory_at i) (ledger i)

  -- event i ends what worker v runs: a crash, or an answer S, F or V to it
  pub data Ends (v i : ℕ) : Type 0 where
    crash : Happens i Crash Ok → Ends v i
    answered : (o : Outcome) → Happens i (Step v) (Answered o) → Ends v i
    shown : (x : ℕ) → Happens i (Step v) (Shows x) → Ends v i

  -- what v began at event s still runs when event i comes
  pub record Runs (v s i : ℕ) : Type 0 where
    pub later : s < i
    pub going : (t : ℕ) → s < t → t < i → ¬ (Ends v t)

  -- AN OPERATION is its submission: at event s an accepted 04 of worker v, which was building d; its body is the cached one of that moment. It runs when event i comes
  pub record Operation (s v d i : ℕ) : Type 0 where
    pub accepted : Happens s (Submit v) Ok
    pub built : worker_in (memory_at s) v ≡ Building d
    pub runs : Runs v s i

  -- the entry e is one of the body that was submitted at event s for d
  abbrev pub Has : ℕ → ℕ → Entry → Type 0
  Has s d e = (j : ℕ) × (j < count_in Cached (memory_at s) d) × (e ≡ entry_in Cached (memory_at s) d j)

  -- the persisted body at moment i is the one that was submitted at event s
  abbrev pub AsSubmitted : ℕ → ℕ → ℕ → Type 0
  AsSubmitted s i d = body_in Persisted (memory_at i) d ≡ body_in Cached (memory_at s) d

  pub record Holds : Type 0 where
    -- the ledger changes only at an instant, then by all the desired values of that one operation at once
    pub still : (i : ℕ) → ((d : ℕ) → d < k → enters i d ≡ false) → (a : ℕ) → ledger (suc i) a ≡ ledger i a
    pub by_one : (i d : ℕ) → enters i d ≡ true → (a : ℕ) → ledger (suc i) a ≡ entered (memory_at i) d (ledger i) a
    pub alone : (i d e : ℕ) → enters i d ≡ true → enters i e ≡ true → d ≡ e
    -- at that instant it holds all its expected values
    pub expected : (i d j : ℕ) → enters i d ≡ true → j < count_in Persisted (memory_at i) d
        → ledger i (entry_in Persisted (memory_at i) d j).address ≡ (entry_in Persisted (memory_at i) d j).expected
    -- every instant belongs to an operation that runs then, with the body that was submitted; to one only; and it has no other
    pub owned : (i d : ℕ) → enters i d ≡ true → (s : ℕ) × (v : ℕ) × Operation s v d i × AsSubmitted s i d
    pub of_one : (i d s v t u : ℕ) → enters i d ≡ true → Operation s v d i → Operation t u d i → (s ≡ t) × (v ≡ u)
    pub once : (i j d s v : ℕ) → enters i d ≡ true → enters j d ≡ true → Operation s v d i → Operation s v d j → i ≡ j
    -- whenever recovery completes (Z), every word's value is the ledger's; and so it is at every moment
    pub recovered : (i a : ℕ) → Happens i Recover Recovered → a < n → value_of (memory_at (suc i)) a ≡ ledger (suc i) a
    pub always : (i a : ℕ) → a < n → value_of (memory_at i) a ≡ ledger i a
    -- an operation that answered S has its instant between submission and answer, with the body that was submitted
    pub success : (s v d i : ℕ) → Operation s v d i → Happens i (Step v) (Answered Succeeded)
        → (t : ℕ) × (s < t) × (t < i) × (enters t d ≡ true) × AsSubmitted s t d
    -- one that answered F has none (nor later: an instant belongs to an operation that runs then, `owned`); and at some moment from its submission to its answer the ledger differed from one of its expected values
    pub failure : (s v d i : ℕ) → Operation s v d i → Happens i (Step v) (Answered Failed) → (t : ℕ) → s ≤ t → t ≤ i → enters t d ≡ false
    pub differed : (s v d i : ℕ) → Operation s v d i → Happens i (Step v) (Answered Failed)
        → (t : ℕ) × (s < t) × (t ≤ i) × (e : Entry) × Has s d e × (ledger t e.address ≢ e.expected)
    -- behind every answer S or F there is such an operation, and behind every answer V a read
    pub behind : (i v : ℕ) (o : Outcome) → Happens i (Step v) (Answered o) → (s : ℕ) × (d : ℕ) × Operation s v d i
    pub begun : (i v x : ℕ) → Happens i (Step v) (Shows x) → (s : ℕ) × (a : ℕ) × Happens s (Read v a) Ok × Runs v s i
    -- a read's answer V x was the ledger's value of that address at some moment from the read's beginning to its answer
    pub read : (s v a i x : ℕ) → Happens s (Read v a) Ok → Runs v s i → Happens i (Step v) (Shows x) → (t : ℕ) × (s < t) × (t ≤ i) × (ledger t a ≡ x)

-- for every n, k and w in document 01's ranges, and every list of events
abbrev pub Demand3 : Type 0
Demand3 = (n k w : ℕ) → good_sizes n k w ≡ true → (es : List Event) → Holds n k w es
