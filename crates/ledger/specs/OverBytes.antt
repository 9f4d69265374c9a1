-- Demand 3 over bytes: for every byte string with a good setup, `tick` writes a line for each record and a last line; the last line is the ledger's values, and each line S, F or V satisfies the clauses
-- of `Holds` for the record of that number. To be read with Statement.antt. `OverBytes` is all of it (proved in BytesDemand.antt), with `NoSetup` for every other byte string (Setup.antt).
-- A byte is any number here: that it is below 256 is nowhere needed.
use Rattle.std.specs.Prelude.{◌≡◌, ◌≢◌, true, false, cond, ℕ, zero, suc, min, ◌-◌, ◌^◌, ◌≤◌, ◌<◌, eqb, length, get_or, drop}
use mathlib.Core.List.{List, [], ◌∷◌, ◌++◌, flatten}
use Rattle.word.specs.declared.Outcome.{Outcome}
use Rattle.word.specs.declared.Outcome.TheVariants.{Succeeded, Failed}
use Rattle.steps.specs.declared.Entry.{Entry}
use Rattle.memory.specs.Fresh.{good_sizes, fresh_block}
use Rattle.events.specs.declared.Event.{Event}
use Rattle.events.specs.declared.Event.TheVariants.{Read, Step}
use Rattle.events.specs.declared.Answer.{Answer}
use Rattle.events.specs.declared.Answer.TheVariants.{Ok, Answered, Shows, Refused}
use Rattle.machine.specs.Apply.{after_of}
use Rattle.schedule.specs.declared.Head.{Head}
use Rattle.schedule.specs.declared.Head.TheVariants.{Record, Unknown, Short, End}
use Rattle.schedule.specs.Record.{head_of, body_of, refusal_of}
use Rattle.schedule.specs.Content.{event_of, setup_of}
use Rattle.answers.specs.Line.{spaced, line_of}
use Rattle.play.specs.Tick.{tick_of}
use Rattle.ledger.specs.Statement.{Happens, Runs, Operation, Has, AsSubmitted, enters, ledger, Holds}

-- A GOOD SETUP: the first record is a 00 with its whole body, and its n, k and w are in their ranges
pub record GoodSetup (x : List ℕ) (n k w : ℕ) : Type 0 where
  pub first : head_of false x 0 ≡ Record 0x00 3
  pub sizes : setup_of (body_of x 0 0x00) ≡ record { n = n; k = k; w = w }
  pub ranges : good_sizes n k w ≡ true

-- WHAT IS READ: the events of the records, up to where reading ends; and the refusal that ends it, 3 or 2, or 0 where it is the input that ends
pub record Schedule : Type 0 where
  pub events : List Event
  pub refusal : ℕ

abbrev pub ends : Head → Schedule
ends h = record { events = []; refusal = refusal_of h }

abbrev pub read_by : List ℕ → Head → (ℕ → Schedule) → Schedule
read_by x (Record kind n) rest = record { events = event_of kind (body_of x 0 kind) ∷ (rest (suc n)).events; refusal = (rest (suc n)).refusal }
read_by x Unknown rest = ends Unknown
read_by x Short rest = ends Short
read_by x End rest = ends End

-- of at most so many records
unfoldable pub read_of : ℕ → List ℕ → Schedule
read_of zero x = ends End
read_of (suc t) x = read_by x (head_of true x 0) (λ n. read_of t (drop n x))

-- after the setup, which has 4 bytes; a record has at least one, so that as many records as there are bytes are all of them
abbrev pub schedule_of : List ℕ → Schedule
schedule_of x = read_of (length x) (drop 4 x)

abbrev pub events_of : List ℕ → List Event
events_of x = (schedule_of x).events

-- THE LINES of a text: each ends with its newline, 10
abbrev pub before : ℕ → List (List ℕ) → List (List ℕ)
before b [] = (b ∷ []) ∷ []
before b (l ∷ ls) = (b ∷ l) ∷ ls

unfoldable pub lines_of : List ℕ → List (List ℕ)
lines_of [] = []
lines_of (b ∷ x) = cond (eqb b 10) ((b ∷ []) ∷ lines_of x) (before b (lines_of x))

-- what a line says: the letter after its number and the space, 32
unfoldable pub letter_in : List ℕ → ℕ
letter_in [] = 0
letter_in (b ∷ l) = cond (eqb b 32) (get_or l 0 0) (letter_in l)

-- line j of the output, from 0
abbrev pub line_at : List ℕ → ℕ → List ℕ
line_at x j = get_or (lines_of (tick_of x)) j []

-- "its number from 0"; the count stands still at the greatest, 2^64 - 1
abbrev pub number_of : ℕ → ℕ
number_of j = min j (2 ^ 64 - 1)

-- a line for each answer, from record j on
unfoldable pub answer_lines : ℕ → List Answer → List (List ℕ)
answer_lines j [] = []
answer_lines j (r ∷ rs) = line_of (number_of j) r ∷ answer_lines (suc j) rs

-- one for the refusal that ends reading at record j, if one does
abbrev pub refusal_line : ℕ → ℕ → List (List ℕ)
refusal_line j zero = []
refusal_line j (suc r) = line_of (number_of j) (Refused (suc r)) ∷ []

-- the last line, by a ledger: = and the value of each address below n
unfoldable pub ledger_values : ℕ → (ℕ → ℕ) → List ℕ
ledger_values zero L = []
ledger_values (suc a) L = ledger_values a L ++ L a ∷ []

unfoldable pub ledger_line : ℕ → (ℕ → ℕ) → List ℕ
ledger_line n L = (61 ∷ spaced (ledger_values n L)) ++ 10 ∷ []

module _ (x : List ℕ) (n k w : ℕ) where
  abbrev es : List Event
  es = events_of x

  -- the ledger after all the records
  abbrev pub ledger_after : ℕ → ℕ
  ledger_after = ledger n k w es (length es)

  -- all the lines: the setup's, which is record 0; those of the events, of which event i is record i + 1; the refusal that ends reading, if one does; the last
  abbrev pub written : List (List ℕ)
  written =
      line_of 0 Ok ∷ answer_lines 1 (after_of (fresh_block n k w) es).answers
      ++ refusal_line (suc (length es)) (schedule_of x).refusal
      ++ ledger_line n ledger_after ∷ []

  -- line j answers an operation: its record is event i, a step of worker v, answered o; v submitted that operation at event s for d, and it still runs when event i comes
  pub record AnswersOperation (j : ℕ) (o : Outcome) : Type 0 where
    pub i : ℕ
    pub v : ℕ
    pub s : ℕ
    pub d : ℕ
    pub place : j ≡ suc i
    pub answer : Happens n k w es i (Step v) (Answered o)
    pub operation : Operation n k w es s v d i

  -- line j answers a read: its record is event i, a step of worker v, which shows y; v began that read of the address a at event s, and it still runs when event i comes
  pub record AnswersRead (j : ℕ) : Type 0 where
    pub i : ℕ
    pub v : ℕ
    pub s : ℕ
    pub a : ℕ
    pub y : ℕ
    pub place : j ≡ suc i
    pub answer : Happens n k w es i (Step v) (Shows y)
    pub begun : Happens n k w es s (Read v a) Ok
    pub runs : Runs n k w es v s i

  -- S on line j: that operation has its instant, event t, between submission and answer, with the body that was submitted
  abbrev pub SuccessAt : ℕ → Type 0
  SuccessAt j = (q : AnswersOperation j Succeeded) × (t : ℕ) × (q.s < t) × (t < q.i) × (enters n k w es t q.d ≡ true) × AsSubmitted n k w es q.s t q.d

  -- F on line j: it has none; and at moment t, from submission to answer, the ledger differed from the expected value of its entry e
  abbrev pub FailureAt : ℕ → Type 0
  FailureAt j =
      (q : AnswersOperation j Failed) × ((t : ℕ) → q.s ≤ t → t ≤ q.i → enters n k w es t q.d ≡ false)
      × (t : ℕ) × (q.s < t) × (t ≤ q.i) × (e : Entry) × Has n k w es q.s q.d e × (ledger n k w es t e.address ≢ e.expected)

  -- V on line j: it shows the ledger's value of that address at moment t, from the read's beginning to its answer
  abbrev pub ReadAt : ℕ → Type 0
  ReadAt j =
      (q : AnswersRead j) × (t : ℕ) × (q.s < t) × (t ≤ q.i) × (ledger n k w es t q.a ≡ q.y) × (line_at x j ≡ line_of (number_of j) (Shows (ledger n k w es t q.a)))

  pub record BytesHold : Type 0 where
    -- the whole output, byte by byte and line by line
    pub output : tick_of x ≡ flatten written
    pub lines : lines_of (tick_of x) ≡ written
    -- the line of the record of event i is its number and what it was answered
    pub line : (i : ℕ) (e : Event) (r : Answer) → Happens n k w es i e r → line_at x (suc i) ≡ line_of (number_of (suc i)) r
    -- the last line is = and the ledger's values after the records
    pub last : line_at x (length (lines_of (tick_of x)) - 1) ≡ ledger_line n ledger_after
    -- demand 3 of the events
    pub holds : Holds n k w es
    -- each line with the letter S (83), F (70) or V (86) satisfies the clauses for the record of that number
    pub success : (j : ℕ) → letter_in (line_at x j) ≡ 83 → SuccessAt j
    pub failure : (j : ℕ) → letter_in (line_at x j) ≡ 70 → FailureAt j
    pub read : (j : ℕ) → letter_in (line_at x j) ≡ 86 → ReadAt j

-- FOR EVERY BYTE STRING with a good setup
abbrev pub OverBytes : Type 0
OverBytes = (x : List ℕ) (n k w : ℕ) → GoodSetup x n k w → BytesHold x n k w

-- and without one the output is one line, the refusal of the setup: no last line
abbrev pub setup_refusal : Head → ℕ
setup_refusal (Record kind n) = 1
setup_refusal Unknown = 3
setup_refusal Short = 2
setup_refusal End = 2

abbrev pub NoSetup : Type 0
NoSetup = (x : List ℕ) → ((n k w : ℕ) → ¬ (GoodSetup x n k w)) → tick_of x ≡ line_of 0 (Refused (setup_refusal (head_of false x 0)))
