-- For every public function: two results that keep its promise coincide.
use Rattle.std.specs.Prelude.{◌≡◌, Bool, List, ℕ}
use Rattle.word.specs.Coincide.{coincide}
use Rattle.memory.specs.declared.Sizes.{Sizes}
use Rattle.events.specs.declared.Event.{Event}
use Rattle.events.specs.Refusal.{first_of}
use Rattle.schedule.specs.declared.Head.{Head}
use Rattle.schedule.specs.Record.{head_of, refusal_of, head_checks, body_of}
use Rattle.schedule.specs.Content.{event_of, setup_of}

pub head_at : (s : List ℕ) (at : ℕ) (started : Bool) (r t : Head)
    → (r ≡ head_of started s at) × (refusal_of r ≡ first_of (head_checks started s at))
    → (t ≡ head_of started s at) × (refusal_of t ≡ first_of (head_checks started s at))
    → r ≡ t
head_at s at started r t e f = coincide e.0 f.0

-- r and t are the contents of two parts
pub body_at : (s : List ℕ) (at kind : ℕ) (r t : List ℕ) → r ≡ body_of s at kind → t ≡ body_of s at kind → r ≡ t
body_at s at kind r t = coincide

pub event-of : (kind : ℕ) (body : List ℕ) (r t : Event) → r ≡ event_of kind body → t ≡ event_of kind body → r ≡ t
event-of kind body r t = coincide

pub setup-of : (body : List ℕ) (r t : Sizes) → r ≡ setup_of body → t ≡ setup_of body → r ≡ t
setup-of body r t = coincide
