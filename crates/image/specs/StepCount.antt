-- How many steps recovery takes, by the statuses and counts of the descriptors, wherever these are held: in the bytes of an image, in a block, in cells.
use Rattle.std.specs.Prelude.{◌≡◌, refl, Bool, true, false, cond, ℕ, zero, suc, ◌+◌, ◌-◌, ◌*◌, ◌<◌, ◌≤◌, ltb}
use Rattle.std.proofs.Common.{ap, arith, ltb-true, ltb-false, None}
use Rattle.word.specs.declared.Status.{Status}
use Rattle.steps.specs.declared.RecoveryPlace.{RecoveryPlace}
use Rattle.steps.specs.declared.RecoveryPlace.TheVariants.{Outside, At}
use Rattle.steps.specs.Plan.{is_free}
use Rattle.machine.specs.Recover.{place_after, visit_after}

pub record Held : Type 0 where
  pub status : ℕ → Status
  pub count : ℕ → ℕ

-- "Free: one step", else "2c+2 steps for count c"
abbrev pub steps_for : Status → ℕ → ℕ
steps_for s c = cond (is_free s) 1 (2 * c + 2)

abbrev pub steps_at : Held → ℕ → ℕ
steps_at h d = steps_for (h.status d) (h.count d)

-- of j descriptors, from d on
unfoldable pub steps_from : ℕ → Held → ℕ → ℕ
steps_from zero h d = 0
steps_from (suc j) h d = steps_at h d + steps_from j h (suc d)

-- what is left at d, t of its steps taken; and from a place on, of k descriptors
abbrev pub steps_here : ℕ → Held → ℕ → ℕ
steps_here zero h d = steps_at h d
steps_here (suc t) h d = 2 * h.count d + 2 - suc t

unfoldable pub steps_left : ℕ → Held → RecoveryPlace → ℕ
steps_left k h Outside = 0
steps_left k h (At d t) = steps_here t h d + steps_from (k - suc d) h (suc d)

pub first_left : (k : ℕ) (h : Held) → 0 < k → steps_left k h (At 0 0) ≡ steps_from k h 0
unfolding steps_left steps_from
first_left zero h l = absurd (omega arith)
first_left (suc j) h l = let z : suc j - suc 0 ≡ j = omega arith in ap (λ (i : ℕ). steps_at h 0 + steps_from i h 1) z

pub outside_left : (k : ℕ) (h : Held) (p : RecoveryPlace) → p ≡ Outside → steps_left k h p ≡ 0
unfolding steps_left
outside_left k h p e = rw e

pub from_same : (j : ℕ) (h g : Held) (d : ℕ) → ((e : ℕ) → d ≤ e → e < d + j → steps_at g e ≡ steps_at h e) → steps_from j g d ≡ steps_from j h d
unfolding steps_from
from_same zero h g d s = refl
from_same (suc j) h g d s = rw (s d (omega arith) (omega arith), from_same j h g (suc d) (λ e l m. s e (omega arith) (omega arith)))

-- the descriptors after d, of k
pub after_same : (k : ℕ) (h g : Held) (d : ℕ) → ((e : ℕ) → d < e → e < k → steps_at g e ≡ steps_at h e) → steps_from (k - suc d) g (suc d) ≡ steps_from (k - suc d) h (suc d)
after_same k h g d s = from_same (k - suc d) h g (suc d) (λ e l m. s e (omega arith) (omega arith))

pub here_same : (t : ℕ) (h g : Held) (d : ℕ) → g.count d ≡ h.count d → (t ≡ 0 → steps_at g d ≡ steps_at h d) → steps_here t g d ≡ steps_here t h d
here_same zero h g d c s = s refl
here_same (suc t) h g d c s = rw c

pub here_is : (t : ℕ) (h : Held) (d : ℕ) → (is_free (h.status d) ≡ true → 0 < t) → steps_here t h d ≡ 2 * h.count d + 2 - t
here_is zero h d l = go (is_free (h.status d)) refl
  where
    go : (f : Bool) → is_free (h.status d) ≡ f → cond f 1 (2 * h.count d + 2) ≡ 2 * h.count d + 2 - 0
    go true e = let m = l e in absurd (omega arith)
    go false e = omega arith
here_is (suc t) h d l = refl

pub free_here : (t : ℕ) (h : Held) (d : ℕ) → t ≡ 0 → is_free (h.status d) ≡ true → steps_here t h d ≡ 1
free_here zero h d e f = rw f
free_here (suc t) h d e f = absurd (omega arith)

-- while recovery stands at d, some step is left
pub here_some : (t : ℕ) (h : Held) (d : ℕ) → t ≤ 2 * h.count d + 1 → 0 < steps_here t h d
here_some zero h d l = go (is_free (h.status d))
  where
    go : (f : Bool) → 0 < cond f 1 (2 * h.count d + 2)
    go true = omega arith
    go false = omega arith
here_some (suc t) h d l = omega arith

-- a step goes on at d
pub goes_left : (k : ℕ) (h g : Held) (d t : ℕ) → (is_free (h.status d) ≡ true → 0 < t) → t ≤ 2 * h.count d + 1 → g.count d ≡ h.count d
    → ((e : ℕ) → d < e → e < k → steps_at g e ≡ steps_at h e) → steps_left k h (At d t) ≡ suc (steps_left k g (At d (suc t)))
unfolding steps_left
goes_left k h g d t l m c s = rw (here_is t h d l, c, after_same k h g d s) (omega arith)

-- after the last step at d
visit_left : (k : ℕ) (h : Held) (d : ℕ) → steps_left k h (place_after k d None) ≡ steps_from (k - suc d) h (suc d)
unfolding visit_after steps_from steps_left
visit_left k h d = go (ltb (suc d) k) refl
  where
    go : (t : Bool) → ltb (suc d) k ≡ t → steps_left k h (cond t (At (suc d) 0) Outside) ≡ steps_from (k - suc d) h (suc d)
    go true e = let l = ltb-true (suc d) k e in let z : k - suc d ≡ suc (k - suc (suc d)) = omega arith in rw z
    go false e = let l = ltb-false (suc d) k e in let z : k - suc d ≡ 0 = omega arith in rw z

pub over_left : (k : ℕ) (h g : Held) (d t : ℕ) → steps_here t h d ≡ 1 → ((e : ℕ) → d < e → e < k → steps_at g e ≡ steps_at h e)
    → steps_left k h (At d t) ≡ suc (steps_left k g (place_after k d None))
unfolding steps_left
over_left k h g d t o s = rw (visit_left k g d, o, after_same k h g d s) (omega arith)

-- at most four entries: at most ten steps at a descriptor
pub at_most : (s : Status) (c : ℕ) → (is_free s ≡ false → c ≤ 4) → steps_for s c ≤ 10
at_most s c l = go (is_free s) refl
  where
    go : (t : Bool) → is_free s ≡ t → cond t 1 (2 * c + 2) ≤ 10
    go true e = omega arith
    go false e = let m = l e in omega arith

pub from_most : (j : ℕ) (h : Held) (d : ℕ) → ((e : ℕ) → d ≤ e → e < d + j → steps_at h e ≤ 10) → steps_from j h d ≤ 10 * j
unfolding steps_from
from_most zero h d s = omega arith
from_most (suc j) h d s =
    let a = s d (omega arith) (omega arith) in
    let b = from_most j h (suc d) (λ e l m. s e (omega arith) (omega arith)) in
    omega arith
