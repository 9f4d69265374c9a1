-- Events and answers: document 01's kind for each event, its letters and number or value for each answer.
use Rattle.std.specs.Prelude.{List, [], ◌∷◌, ℕ}
use Rattle.word.specs.declared.Outcome.TheVariants.{Succeeded, Failed}
use Rattle.events.specs.declared.Event.{Event}
use Rattle.events.specs.declared.Event.TheVariants.{Open, Add, Remove, Submit, Discard, Read, Step, BackWord, BackStatus, BackBody, Crash, Recover}
use Rattle.events.specs.declared.Answer.{Answer}
use Rattle.events.specs.declared.Answer.TheVariants.{Ok, Opened, Moved, Helping, Waits, Answered, Shows, Recovering, Recovered, Refused}

-- "Schedule records"
abbrev pub kind_of : Event → ℕ
kind_of (Open w) = 0x01
kind_of (Add w a x y) = 0x02
kind_of (Remove w a) = 0x03
kind_of (Submit w) = 0x04
kind_of (Discard w) = 0x05
kind_of (Read w a) = 0x06
kind_of (Step w) = 0x07
kind_of (BackWord a) = 0x08
kind_of (BackStatus d) = 0x09
kind_of (BackBody d) = 0x0A
kind_of Crash = 0x0B
kind_of Recover = 0x0C

-- "Answer lines of tick": the letters, in ASCII
abbrev pub letters_of : Answer → List ℕ
letters_of Ok = 79 ∷ 75 ∷ []
letters_of (Opened d) = 68 ∷ []
letters_of Moved = 77 ∷ []
letters_of (Helping e) = 72 ∷ []
letters_of Waits = 87 ∷ []
letters_of (Answered Succeeded) = 83 ∷ []
letters_of (Answered Failed) = 70 ∷ []
letters_of (Shows v) = 86 ∷ []
letters_of Recovering = 65 ∷ []
letters_of Recovered = 90 ∷ []
letters_of (Refused r) = 82 ∷ []

-- the number or value that follows them, if any
abbrev pub figure_of : Answer → List ℕ
figure_of Ok = []
figure_of (Opened d) = d ∷ []
figure_of Moved = []
figure_of (Helping e) = e ∷ []
figure_of Waits = []
figure_of (Answered o) = []
figure_of (Shows v) = v ∷ []
figure_of Recovering = []
figure_of Recovered = []
figure_of (Refused r) = r ∷ []
