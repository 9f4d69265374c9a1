-- A visit of a descriptor: one law for each answer.
use mathlib.Core.Path.{◌≡◌, refl, sym, ap, ◌∙◌}
use mathlib.Core.Bool.{false}
use mathlib.Core.List.{List}
use Prim.Native.Nat.{ℕ, zero, suc, ◌+◌, ◌-◌, ◌*◌, ◌<◌, ◌≤◌, ◌^◌}
use native.Mathlib.Omega.{arith}
use lib.ListN.{length}
use Rattle.word.specs.declared.Status.{Status}
use Rattle.word.specs.declared.Status.TheVariants.{Free}
use Rattle.steps.specs.Plan.{is_free, outcome_of, left_value}
use Rattle.steps.specs.Recovery.{recovery_plan}
use Rattle.std.specs.Prelude.{Option, Some, None}
use Rattle.std.specs.Option.{SomeIff}
use Rattle.image.specs.Layout.{Sized, descriptor_place, part_of, status_in, count_in, entry_in, with_status}
use Rattle.image.specs.Check.{bad_body}
use Rattle.image.specs.Good.{live_count, entry_good, entry_small, chosen_small}
use Rattle.image.specs.Recover.{seen_in, plan_in, image_after}
use Rattle.image.specs.Visit.{Visited, visited, visit_from, freed, replaced}
use Rattle.steps.specs.declared.Entry.{Entry}
use Rattle.image.proofs.StepLaws.{replaced_length, replaced_part, freed_count, next_step, last_step, next_of, end_plan, end_image, last_plan, last_image, visit_entry}

-- Free and its write-back are the last two steps of a live descriptor
module _ (n d : ℕ) (x : List ℕ) (l : is_free (status_in (part_of x n d)) ≡ false) (h : descriptor_place n d + 112 ≤ length x) where
  freeing : (j : ℕ) → visit_from (suc j) n x d (2 * count_in (part_of x n d)) ≡ visit_from j n (with_status x n d Free) d (suc (2 * count_in (part_of x n d)))
  freeing j = next_step j n x d (2 * count_in (part_of x n d)) (suc (2 * count_in (part_of x n d))) (next_of _ _ (end_plan n x d l)) ∙ rw (end_image n x d l)

  freed_visits : (left : ℕ) → freed left n x d ≡ visit_from left n x d (2 * count_in (part_of x n d))
  unfolding freed visit_from
  freed_visits zero = refl
  freed_visits (suc zero) = sym (freeing 0)
  freed_visits (suc (suc a)) =
      let c = count_in (part_of x n d) in
      let y = with_status x n d Free in
      let m : count_in (part_of y n d) ≡ c = freed_count x n d h in
      sym (freeing (suc a) ∙ (last_step a n y d (suc (2 * c)) (next_of _ _ (last_plan n y d c m)) ∙ rw (last_image n y d c m)))

-- a turn of the loop over the entries of a live descriptor: what is left to do from here on is what was left to do
pub record Going (n d allowance : ℕ) (s : Status) (x₀ x : List ℕ) (c i left : ℕ) : Type 0 where
  pub fits : descriptor_place n d + 112 ≤ length x
  pub body : bad_body n (part_of x n d) ≡ false
  pub status : s ≡ status_in (part_of x n d)
  pub live : is_free s ≡ false
  pub count : c ≡ count_in (part_of x n d)
  pub within : i ≤ c
  pub few : c ≤ 4
  pub rest : visit_from left n x d (2 * i) ≡ visit_from allowance n x₀ d 0

pub going_in : (n k d c allowance : ℕ) (s : Status) (x p : List ℕ) → Sized n k x → d < k → bad_body n (part_of x n d) ≡ false → s ≡ status_in (part_of x n d) → is_free s ≡ false
    → p ≡ part_of x n d → c ≡ count_in p → Going n d allowance s x x c 0 allowance
going_in n k d c allowance s x p z l b e f o g =
    let h = z.bytes in
    let t : c ≡ count_in (part_of x n d) = rw o at g in
    record {
      fits = omega arith;
      body = b;
      status = e;
      live = f;
      count = t;
      within = omega arith;
      few = rw t (live_count n (part_of x n d) b (rw e at f)).1;
      rest = refl;
    }

module _ (n d allowance : ℕ) (s : Status) (x₀ x : List ℕ) (c i left : ℕ) (k : Going n d allowance s x₀ x c i left) where
  is_live : is_free (status_in (part_of x n d)) ≡ false
  is_live = rw k.status at k.live

  pub going_stops : left ≡ 0 → visited x None ≡ visit_from allowance n x₀ d 0
  unfolding visit_from
  going_stops z = rw z at k.rest

  -- entry i
  module _ (l : i < c) (p : List ℕ) (r : Entry) (m : p ≡ part_of x n d) (u : r ≡ entry_in p i) where
    is_entry : r ≡ entry_in (part_of x n d) i
    is_entry = rw m at u

    l_now : i < count_in (part_of x n d)
    l_now = rw (← k.count) l

    small : (r.address < n) × ((r.expected < 2 ^ 61) × (r.desired < 2 ^ 61))
    small = rw is_entry (entry_small n (entry_in (part_of x n d) i) (entry_good n (part_of x n d) k.body is_live i l_now))

    pub address_fits : n ≤ 64 → r.address < 64
    address_fits w = let j = small.0 in omega arith

    -- whatever the status
    pub value_fits : (t : Status) (v : ℕ) → v ≡ left_value t r → v < 2 ^ 61
    value_fits t v z = rw z (chosen_small (outcome_of t) r small.1.0 small.1.1)

    module _ (v : ℕ) (z : v ≡ left_value s r) where
      is_value : v ≡ left_value (status_in (part_of x n d)) (entry_in (part_of x n d) i)
      is_value = z ∙ rw (k.status, is_entry)

      -- its two steps, of an allowance for one at least
      module _ (y : List ℕ) (f : 1 ≤ left) (py : y ≡ replaced x d r.address v) where
        rest_then : visit_from (left - 2) n y d (2 * (i + 1)) ≡ visit_from allowance n x₀ d 0
        rest_then =
            let w : count_in (part_of x n d) ≤ 4 = rw (← k.count) k.few in
            let j : r.address ≡ (entry_in (part_of x n d) i).address = ap (λ (a : Entry). a.address) is_entry in
            rw py (sym (visit_entry n x d is_live k.fits i l_now w r.address v j is_value small.0 left f) ∙ k.rest)

        pub going_halts : (t : ℕ) → t ≡ left - 1 → (1 ≤ t → ⊥) → visited y None ≡ visit_from allowance n x₀ d 0
        unfolding visit_from
        going_halts t e h = let w : left - 2 ≡ 0 = omega arith in rw w at rest_then

        same_part_then : part_of y n d ≡ part_of x n d
        same_part_then = rw py (replaced_part x n d r.address v small.0 k.fits)

        pub going_on : (t : ℕ) → t ≡ left - 1 → Going n d allowance s x₀ y c (i + 1) (t - 1)
        going_on t e =
            let w : left - 2 ≡ t - 1 = omega arith in
            let j : length y ≡ length x = rw py (replaced_length x d r.address v) in
            record {
              fits = rw j k.fits;
              body = rw same_part_then k.body;
              status = rw same_part_then k.status;
              live = k.live;
              count = rw same_part_then k.count;
              within = omega arith;
              few = k.few;
              rest = rw w at rest_then;
            }

  -- the entries are over
  pub going_over : (r : Visited) → c ≤ i → r ≡ freed left n x d → r ≡ visit_from allowance n x₀ d 0
  going_over r l f =
      let w = k.within in
      let z : i ≡ c = omega arith in
      f ∙ (freed_visits n d x is_live k.fits left ∙ rw (← k.count, ← z) k.rest)

-- a Free descriptor
pub visit_free : (n : ℕ) (x : List ℕ) (d left : ℕ) (r : Option ℕ) (p : List ℕ) → p ≡ part_of x n d → Free ≡ status_in p → SomeIff r (1 ≤ left) (left - 1)
    → visited x r ≡ visit_from left n x d 0
unfolding visit_from image_after plan_in recovery_plan seen_in
visit_free n x d zero None p e f g = refl
visit_free n x d zero (Some v) p e f g = absurd (omega (arith, g.0))
visit_free n x d (suc a) None p e f g = absurd (g (omega arith))
visit_free n x d (suc a) (Some v) p e f g =
    let z : suc a - 1 ≡ a = omega arith in
    let t : Free ≡ status_in (part_of x n d) = rw e at f in
    rw (g.1, z, ← t)
