-- The event that is read from a record of a kind is of that kind: document 01's numbers for events and for records are the same.
use Rattle.std.specs.Prelude.{◌≡◌, refl, Bool, true, false, cond, List, ℕ, suc, ◌≤◌, eqb}
use Rattle.std.proofs.Common.{sym, ◌∙◌, arith, eqb-true}
use Rattle.std.proofs.lemmas.Bool.{eqb-false}
use Rattle.events.specs.declared.Event.{Event}
use Rattle.events.specs.Event.{kind_of}
use Rattle.schedule.specs.Content.{event_of}

-- numbers ruled out one by one
pub up : (n x : ℕ) → n ≤ x → (x ≡ n → ⊥) → suc n ≤ x
up n x h e = omega arith

last : (kind : ℕ) → 12 ≤ kind → kind ≤ 12 → 12 ≡ kind
last kind h l = omega arith

-- one test of event_of
by_kind : (kind n : ℕ) (a b : Event) → kind_of a ≡ n → ((kind ≡ n → ⊥) → kind_of b ≡ kind) → kind_of (cond (eqb kind n) a b) ≡ kind
by_kind kind n a b e f = go (eqb kind n) refl
  where
    go : (t : Bool) → eqb kind n ≡ t → kind_of (cond t a b) ≡ kind
    go true q = e ∙ sym (eqb-true kind n q)
    go false q = f (eqb-false kind n q)

-- document 01's kind of the event is the record's kind
pub event_kind : (kind : ℕ) (body : List ℕ) → 0x01 ≤ kind → kind ≤ 0x0C → kind_of (event_of kind body) ≡ kind
unfolding event_of
event_kind kind body h l =
    by_kind kind 0x01 _ _ refl
    (λ a. by_kind kind 0x02 _ _ refl
    (λ b. by_kind kind 0x03 _ _ refl
    (λ c. by_kind kind 0x04 _ _ refl
    (λ d. by_kind kind 0x05 _ _ refl
    (λ e. by_kind kind 0x06 _ _ refl
    (λ f. by_kind kind 0x07 _ _ refl
    (λ g. by_kind kind 0x08 _ _ refl
    (λ i. by_kind kind 0x09 _ _ refl
    (λ j. by_kind kind 0x0A _ _ refl
    (λ k. by_kind kind 0x0B _ _ refl
    (λ m. last kind (up 11 kind (up 10 kind (up 9 kind (up 8 kind (up 7 kind (up 6 kind (up 5 kind (up 4 kind (up 3 kind (up 2 kind (up 1 kind h a) b) c) d) e) f) g) i) j) k) m) l)))))))))))

-- so of what the reader hands over
pub event_says : (kind : ℕ) (body : List ℕ) (r : Event) → r ≡ event_of kind body → 0x01 ≤ kind → kind ≤ 0x0C → kind_of r ≡ kind
event_says kind body r e h l = rw e (event_kind kind body h l)
