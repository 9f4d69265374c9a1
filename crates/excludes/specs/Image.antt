-- The crate `image`: what its promise rules out.
use Rattle.std.specs.Prelude.{◌≡◌, refl, ◌≢◌, Bool, true, false, List, [], ◌++◌, leb, replicate}
use Rattle.std.proofs.Common.{ap, ◌∙◌, le-leb}
use Prim.Native.Nat.{ℕ, zero, suc, ◌+◌, ◌^◌, ◌<◌, ◌≤◌}
use native.Mathlib.Omega.{arith}
use Rattle.std.proofs.lemmas.Bool.{lt-leb}
use Rattle.word.specs.declared.Status.TheVariants.{Free}
use Rattle.word.specs.Word.{sort_of}
use Rattle.word.specs.Status.{status_of}
use Rattle.little.specs.Number.{bytes_of, number_at}
use Rattle.steps.specs.declared.RecoveryPlace.TheVariants.{At}
use Rattle.events.specs.Refusal.{check, first_of}
use Rattle.image.specs.declared.Recovery.{Recovery}
use Rattle.image.specs.Layout.{part_of, status_in}
use Rattle.image.specs.Check.{some_below, bad_entry, bad_at, bad_body, has_within, bad_target, bad_pointer_at, bad_sizes, bad_length, bad_statuses, bad_bodies, bad_words, bad_pointers, content_checks, image_refusal}
use Rattle.image.specs.Recover.{run_from, answer_for, Recovered, recovered, unless_refused, recover_of}
use Rattle.image.specs.StepCount.{steps_from}
use Rattle.image.specs.Count.{steps_of, complete_exactly, told}
use Rattle.image.specs.Ends.{complete_frees}
use Rattle.image.specs.Cuts.{call_runs}
use Rattle.excludes.specs.Differ.{by, seen}
use Rattle.excludes.specs.Events.{past}

abbrev answers : ℕ → ℕ → Recovery
answers a s = record { answer = a; steps = s }

-- the premises below are met: by an image of one word that points to one Succeeded, dirty, which takes 4 steps
abbrev live : List ℕ
live = bytes_of 8 (2 ^ 62) ++ bytes_of 8 (2 ^ 63 + 2) ++ bytes_of 8 1 ++ bytes_of 8 0 ++ bytes_of 8 0 ++ bytes_of 8 5 ++ replicate 72 0

pub met : (image_refusal 1 1 live ≡ 0) × (steps_of 1 1 live ≡ 4)
unfolding image_refusal first_of some_below bad_body bad_at bad_entry bad_pointer_at bad_target has_within number_at sort_of status_of steps_from
met = (refl, refl)

-- where n and k are in their ranges, the answer is not 1
module _ (n k : ℕ) (x y : List ℕ) (allowance steps : ℕ) (sizes : bad_sizes n k ≡ false) where
  none : 1 ≢ first_of []
  unfolding first_of
  none e = omega arith

  from_20_on : 1 ≢ first_of (content_checks n k x)
  from_20_on =
      past (check 20 (bad_length n k x)) _ refl
      (past (check 21 (bad_statuses n k x)) _ refl
      (past (check 22 (bad_bodies n k x)) _ refl (past (check 23 (bad_words n x)) _ refl (past (check 24 (bad_pointers n k x)) [] refl none))))

  not_1 : 1 ≢ image_refusal n k x
  unfolding image_refusal first_of
  not_1 = rw sizes from_20_on

  either : (t : Bool) → 1 ≢ answer_for t
  either true e = omega arith
  either false e = omega arith

  pub pmwcas_recover_not_refused_1_always : recovered y (answers 1 steps) ≢ recover_of n k x allowance
  unfolding recover_of
  pmwcas_recover_not_refused_1_always = go (image_refusal n k x) not_1
    where
      go : (r : ℕ) → 1 ≢ r → recovered y (answers 1 steps) ≢ unless_refused r n k x allowance
      go zero h = by (λ (c : Recovered). c.result.answer) (either (run_from allowance n k x (At 0 0)).complete)
      go (suc r) h = by (λ (c : Recovered). c.result.answer) h

-- "with zero steps and the image untouched"
pub pmwcas_recover_not_changed_where_refused : (n k r : ℕ) (x y : List ℕ) (allowance : ℕ) (q : Recovery) → image_refusal n k x ≡ suc r → y ≢ x → recovered y q ≢ recover_of n k x allowance
unfolding recover_of
pmwcas_recover_not_changed_where_refused n k r x y allowance q h n' = rw h (by (λ (c : Recovered). c.bytes) n')

-- an accepted image; `steps_of` is the sum of document 01's steps: 2c+2 per live descriptor, 1 per Free one
module _ (n k : ℕ) (x y : List ℕ) (allowance : ℕ) (accepted : image_refusal n k x ≡ 0) where
  pub pmwcas_recover_not_refused_always : (a steps : ℕ) → a ≢ 0 → a ≢ 256 → recovered y (answers a steps) ≢ recover_of n k x allowance
  pmwcas_recover_not_refused_always a steps o p =
      seen (λ (c : Recovered). c.result.answer) refl (ap (λ (r : Recovery). r.answer) (told n k x allowance accepted)) (go (leb (steps_of n k x) allowance))
    where
      go : (t : Bool) → a ≢ answer_for t
      go true = o
      go false = p

  pub pmwcas_recover_not_an_invented_count : (a steps : ℕ) → steps_of n k x ≤ allowance → steps ≢ steps_of n k x → recovered y (answers a steps) ≢ recover_of n k x allowance
  pmwcas_recover_not_an_invented_count a steps h o =
      seen (λ (c : Recovered). c.result.steps) refl (ap (λ (r : Recovery). r.steps) (told n k x allowance accepted) ∙ rw (le-leb _ _ h)) o

  pub pmwcas_recover_not_complete_early : (steps : ℕ) → allowance < steps_of n k x → recovered y (answers 0 steps) ≢ recover_of n k x allowance
  pmwcas_recover_not_complete_early steps h =
      let z : (recover_of n k x allowance).result.answer ≡ 256 = ap (λ (r : Recovery). r.answer) (told n k x allowance accepted) ∙ rw (lt-leb _ _ h) in
      seen (λ (c : Recovered). c.result.answer) refl z (λ e. omega arith)

  -- one live descriptor, and the image changes
  pub pmwcas_recover_not_nothing : (d : ℕ) (q : Recovery) → d < k → status_in (part_of x n d) ≢ Free → steps_of n k x ≤ allowance → recovered x q ≢ recover_of n k x allowance
  pmwcas_recover_not_nothing d q l f h =
      let c : (run_from allowance n k x (At 0 0)).complete ≡ true = complete_exactly n k x allowance accepted ∙ le-leb _ _ h in
      seen (λ (c : Recovered). status_in (part_of c.bytes n d)) refl
      (ap (λ (z : List ℕ). status_in (part_of z n d)) (call_runs n k x allowance accepted) ∙ complete_frees n k x allowance accepted c d l)
      f
