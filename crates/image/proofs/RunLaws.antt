-- A run of recovery is its visits, one after the other: one law for each answer.
use mathlib.Core.Path.{◌≡◌, refl, sym, ap, ◌∙◌}
use mathlib.Core.Bool.{true, false, cond}
use mathlib.Core.List.{List}
use Prim.Native.Nat.{ℕ, zero, suc, ◌+◌, ◌-◌, ◌<◌, ◌≤◌}
use native.Mathlib.Omega.{arith}
use lib.Dec.{ltb}
use borrow.Author.Tests.{lt-ltb, le-ltb}
use Rattle.steps.specs.declared.RecoveryPlace.{RecoveryPlace}
use Rattle.steps.specs.declared.RecoveryPlace.TheVariants.{Outside, At}
use Rattle.machine.specs.Recover.{place_after, visit_after}
use Rattle.std.specs.Prelude.{Option, Some, None, ℕ}
use Rattle.image.specs.Check.{image_refusal}
use Rattle.image.specs.CheckLaws.{accepted}
use Rattle.image.specs.Refusals.{number}
use Rattle.image.specs.declared.refusal.Refusal.{Refusal}
use Rattle.image.specs.declared.refusal.Refusal.TheVariants.{Sizes, Length, Status, Body, Word, Pointer}
use Rattle.image.specs.Good.{Good, good}
use Rattle.image.specs.Stays.{Stands, Reached, begins, step_good, step_stands}
use Rattle.image.specs.Recover.{plan_in, image_after, place_then, Ran, ran, one_more, run_from, Recovered, recovered, reported, recover_of}
use Rattle.image.specs.Visit.{Visited, visited, further, visit_from}

-- so many steps before these
abbrev pub after_steps : ℕ → Ran → Ran
after_steps s r = ran r.bytes r.complete (s + r.steps)

-- a visit leaves less of the allowance
abbrev Less : ℕ → Option ℕ → Type 0
Less a (Some l) = l < a
Less a None = Unit

less_more : (a : ℕ) (v : Option ℕ) → Less a v → Less (suc a) v
less_more a (Some l) h = omega arith
less_more a None h = tt

visit_less : (a n : ℕ) (x : List ℕ) (d done : ℕ) → Less a (visit_from a n x d done).result
unfolding visit_from
visit_less zero n x d done = tt
visit_less (suc a) n x d done = go (plan_in x n d done).next (λ s. visit_less a n (image_after n x d done) d s)
  where
    go : (m : Option ℕ) → ((s : ℕ) → Less a (visit_from a n (image_after n x d done) d s).result)
        → Less (suc a) (further m a (image_after n x d done) (λ s. visit_from a n (image_after n x d done) d s)).result
    go (Some s) rest = less_more a (visit_from a n (image_after n x d done) d s).result (rest s)
    go None rest = omega arith

-- the rest of a run after a visit of d
abbrev rest_after : ℕ → ℕ → ℕ → ℕ → List ℕ → Option ℕ → Ran
rest_after n k d a x (Some l) = after_steps (a - l) (run_from l n k x (visit_after d k))
rest_after n k d a x None = ran x false a

one_after : (n k d a : ℕ) (x : List ℕ) (v : Option ℕ) → Less a v → one_more (rest_after n k d a x v) ≡ rest_after n k d (suc a) x v
one_after n k d a x (Some l) h =
    let r = run_from l n k x (visit_after d k) in
    let z : suc (a - l + r.steps) ≡ suc a - l + r.steps = omega arith in
    rw z
one_after n k d a x None h = refl

run_visit : (a n k : ℕ) (x : List ℕ) (d done : ℕ) → run_from a n k x (At d done) ≡ rest_after n k d a (visit_from a n x d done).bytes (visit_from a n x d done).result
unfolding run_from visit_from place_then
run_visit zero n k x d done = refl
run_visit (suc a) n k x d done = go (plan_in x n d done).next (λ s. run_visit a n k (image_after n x d done) d s)
  where
    go : (m : Option ℕ)
        → ((s : ℕ) → run_from a n k (image_after n x d done) (At d s)
        ≡ rest_after n k d a (visit_from a n (image_after n x d done) d s).bytes (visit_from a n (image_after n x d done) d s).result)
        → one_more (run_from a n k (image_after n x d done) (place_after k d m))
        ≡ rest_after n k d (suc a) (further m a (image_after n x d done) (λ s. visit_from a n (image_after n x d done) d s)).bytes
        (further m a (image_after n x d done) (λ s. visit_from a n (image_after n x d done) d s)).result
    go (Some s) rest =
        ap one_more (rest s)
        ∙ one_after n k d a (visit_from a n (image_after n x d done) d s).bytes (visit_from a n (image_after n x d done) d s).result
        (visit_less a n (image_after n x d done) d s)
    go None rest =
        let r = run_from a n k (image_after n x d done) (visit_after d k) in
        let z : suc a - a + r.steps ≡ suc r.steps = omega arith in
        rw z

-- an accepted image stays so
visit_good : (a n k : ℕ) (x : List ℕ) (d done : ℕ) → Good n k x → Reached n k x d done → Good n k (visit_from a n x d done).bytes
unfolding visit_from place_then
visit_good zero n k x d done g r = g
visit_good (suc a) n k x d done g r =
    go (plan_in x n d done).next (step_stands n k x d done g r) (λ s q. visit_good a n k (image_after n x d done) d s (step_good n k x d done g r) q)
  where
    go : (m : Option ℕ) → Stands n k (image_after n x d done) (place_after k d m)
        → ((s : ℕ) → Reached n k (image_after n x d done) d s → Good n k (visit_from a n (image_after n x d done) d s).bytes)
        → Good n k (further m a (image_after n x d done) (λ s. visit_from a n (image_after n x d done) d s)).bytes
    go (Some s) q rest = rest s q
    go None q rest = step_good n k x d done g r

-- where recovery of k descriptors stands before it visits d
abbrev pub before : ℕ → ℕ → RecoveryPlace
before k d = cond (ltb d k) (At d 0) Outside

visit_before : (k d : ℕ) → visit_after d k ≡ before k (d + 1)
unfolding visit_after
visit_before k d = let z : d + 1 ≡ suc d = omega arith in rw z

module _ (n k : ℕ) (x : List ℕ) (g : Good n k x) (d : ℕ) (h : d < k) where
  pub visit_kept : (left : ℕ) (y : List ℕ) (v : Option ℕ) → visited y v ≡ visit_from left n x d 0 → Good n k y
  visit_kept left y v e = rw (ap (λ (r : Visited). r.bytes) e) (visit_good left n k x d 0 g (begins n k x d h))

module _ (n k : ℕ) (x : List ℕ) (d left : ℕ) (y : List ℕ) (v : Option ℕ) (h : d < k) (e : visited y v ≡ visit_from left n x d 0) where
  whole : run_from left n k x (before k d) ≡ rest_after n k d left y v
  whole =
      let p : (visit_from left n x d 0).bytes ≡ y = ap (λ (r : Visited). r.bytes) (sym e) in
      let q : (visit_from left n x d 0).result ≡ v = ap (λ (r : Visited). r.result) (sym e) in
      rw (lt-ltb d k h) (run_visit left n k x d 0 ∙ rw (p, q))

  fewer : Less left v
  fewer = rw (ap (λ (r : Visited). r.result) e) (visit_less left n x d 0)

  -- the visit is over
  module _ (l : ℕ) (f : v ≡ Some l) where
    goes_less : l < left
    goes_less = rw f at fewer

    pub goes_within : (allowance : ℕ) → left ≤ allowance → l ≤ allowance
    goes_within allowance o = let j = goes_less in omega arith

    pub goes-on : (allowance : ℕ) (r : Ran) → left ≤ allowance → after_steps (allowance - left) (run_from left n k x (before k d)) ≡ r
        → after_steps (allowance - l) (run_from l n k y (before k (d + 1))) ≡ r
    goes-on allowance r o i =
        let s = run_from l n k y (before k (d + 1)) in
        let j = goes_less in
        let z : allowance - left + (left - l + s.steps) ≡ allowance - l + s.steps = omega arith in
        let w : run_from left n k x (before k d) ≡ after_steps (left - l) s = whole ∙ rw (f, visit_before k d) in
        rw (← z) (rw w at i)

  -- the allowance is used up
  pub stops : (allowance : ℕ) (r : Ran) → v ≡ None → left ≤ allowance → after_steps (allowance - left) (run_from left n k x (before k d)) ≡ r
      → recovered y (record { answer = 256; steps = allowance }) ≡ reported r
  stops allowance r f o i =
      let z : allowance - left + left ≡ allowance = omega arith in
      let w : run_from left n k x (before k d) ≡ ran y false left = whole ∙ rw f in
      ap reported (rw (w, z) at i)

-- all are visited
run_outside : (a n k : ℕ) (x : List ℕ) → run_from a n k x Outside ≡ ran x true 0
unfolding run_from
run_outside zero n k x = refl
run_outside (suc a) n k x = refl

pub goes_out : (n k : ℕ) (x : List ℕ) (d allowance left : ℕ) (r : Ran) → k ≤ d → after_steps (allowance - left) (run_from left n k x (before k d)) ≡ r
    → recovered x (record { answer = 0; steps = allowance - left }) ≡ reported r
goes_out n k x d allowance left r h i =
    let z : allowance - left + 0 ≡ allowance - left = omega arith in
    ap reported (rw (le-ltb d k h, run_outside left n k x, z) at i)

-- refused, or run
some_number : (r : Refusal) → number r ≡ suc (number r - 1)
some_number Sizes = refl
some_number Length = refl
some_number Status = refl
some_number Body = refl
some_number Word = refl
some_number Pointer = refl

pub refused : (n k : ℕ) (x : List ℕ) (allowance : ℕ) (r : Refusal) → number r ≡ image_refusal n k x → recovered x (record { answer = number r; steps = 0 }) ≡ recover_of n k x allowance
unfolding recover_of
refused n k x allowance r e = rw (← e, some_number r)

module _ (n k : ℕ) (x : List ℕ) (e : 0 ≡ image_refusal n k x) where
  pub runs : (allowance : ℕ) (q : Recovered) → q ≡ reported (run_from allowance n k x (At 0 0)) → q ≡ recover_of n k x allowance
  unfolding recover_of
  runs allowance q g = g ∙ rw (← e)

  pub is_good : Good n k x
  is_good = good n k x (accepted n k x (sym e))
