-- The crate `schedule`: what its promises rule out.
use Rattle.std.specs.Prelude.{◌≡◌, refl, ◌≢◌, true, false, List, [], ◌∷◌, ℕ, ◌<◌, ◌≤◌, leb, length}
use Rattle.std.proofs.Common.{ap, ◌∙◌}
use Rattle.std.proofs.lemmas.Bool.{lt-leb}
use Rattle.little.specs.Number.{number_at}
use Rattle.memory.specs.declared.Sizes.{Sizes}
use Rattle.events.specs.declared.Event.{Event}
use Rattle.events.specs.declared.Event.TheVariants.{Add}
use Rattle.events.specs.Event.{kind_of}
use Rattle.schedule.specs.declared.Head.TheVariants.{Record, Unknown, Short}
use Rattle.schedule.specs.Record.{length_of, known, after, verdict_of, head_of, body_of}
use Rattle.schedule.specs.Content.{event_of, setup_of}
use Rattle.schedule.specs.Kinds.{event_kind}
use Rattle.excludes.specs.Differ.{clash, differ, by, picked}

-- "Order: 3, 2": a first record that is no setup and is cut is unknown
pub head_at_not_short_before_unknown : Short ≢ head_of false (0x02 ∷ []) 0
unfolding head_of verdict_of known length_of
head_at_not_short_before_unknown e = clash (cc)

pub head_at_not_unknown_always : (n k w : ℕ) → Unknown ≢ head_of false (0x00 ∷ n ∷ k ∷ w ∷ []) 0
unfolding head_of verdict_of known length_of
head_at_not_unknown_always n k w e = clash (cc)

-- "setup, first and only there"
pub head_at_not_a_second_setup : (n k w : ℕ) (rest : List ℕ) → Record 0x00 3 ≢ head_of true (0x00 ∷ n ∷ k ∷ w ∷ rest) 0
unfolding head_of verdict_of known length_of
head_at_not_a_second_setup n k w rest = picked (leb (length (0x00 ∷ n ∷ k ∷ w ∷ rest)) 0) (λ e. clash (cc)) (λ e. clash (cc))

-- "ends inside a record"
pub head_at_not_a_cut_record : (w a : ℕ) → Record 0x02 18 ≢ head_of true (0x02 ∷ w ∷ a ∷ []) 0
unfolding head_of verdict_of known length_of
head_at_not_a_cut_record w a e = clash (cc)

-- the kind is no part of the body; of a body that is cut nothing is handed over
pub body_at_not_with_its_kind : (w : ℕ) → (0x07 ∷ w ∷ []) ≢ body_of (0x07 ∷ w ∷ []) 0 0x07
unfolding body_of length_of
body_at_not_with_its_kind w = differ length refl

pub body_at_not_cut : (s r : List ℕ) (at kind : ℕ) → length s < after at kind → r ≢ [] → r ≢ body_of s at kind
unfolding body_of
body_at_not_cut s r at kind h n = rw (lt-leb _ _ h) n

pub event_of_not_of_another_kind : (kind : ℕ) (body : List ℕ) (r : Event) → 0x01 ≤ kind → kind ≤ 0x0C → kind_of r ≢ kind → r ≢ event_of kind body
event_of_not_of_another_kind kind body r h l n e = n (ap kind_of e ∙ event_kind kind body h l)

-- run (a)'s record: expected stands before desired
pub event_of_not_desired_before_expected : Add 0 0 5 0 ≢ event_of 0x02 (0 ∷ 0 ∷ 0 ∷ 0 ∷ 0 ∷ 0 ∷ 0 ∷ 0 ∷ 0 ∷ 0 ∷ 5 ∷ 0 ∷ 0 ∷ 0 ∷ 0 ∷ 0 ∷ 0 ∷ 0 ∷ [])
unfolding event_of number_at
event_of_not_desired_before_expected e = let z : Add 0 0 5 0 ≡ Add 0 0 0 5 = e in clash (cc)

pub setup_of_not_k_before_n : (n k w : ℕ) → k ≢ n → record { n = k; k = n; w = w } ≢ setup_of (n ∷ k ∷ w ∷ [])
setup_of_not_k_before_n n k w h = by (λ (s : Sizes). s.n) h

-- the kind, 00, is no part of the body
pub setup_of_not_from_the_kind_on : (n k w : ℕ) → 0 ≢ n → record { n = 0; k = n; w = k } ≢ setup_of (n ∷ k ∷ w ∷ [])
setup_of_not_from_the_kind_on n k w h = by (λ (s : Sizes). s.n) h
