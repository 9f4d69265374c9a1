-- An image on the way from another: accepted, with the same values, and what recovery makes of both is the same. Every run of recovery, cut anywhere, is on the way.
use Rattle.std.specs.Prelude.{◌≡◌, refl, true, List, ℕ, ◌<◌}
use Rattle.std.proofs.Common.{◌∙◌}
use Rattle.steps.specs.declared.RecoveryPlace.TheVariants.{At}
use Rattle.image.specs.Check.{image_refusal}
use Rattle.image.specs.CheckLaws.{accepted}
use Rattle.image.specs.Recover.{run_from}
use Rattle.image.specs.Good.{Good, good, good_back}
use Rattle.image.specs.Stays.{stays_accepted}
use Rattle.image.specs.Values.{value_in, value_kept}
use Rattle.image.specs.Ends.{complete_frees, complete_plain}
use Rattle.image.specs.Cuts.{From, Over, from_then, cut_from}

-- y is on the way from x
pub record Way (n k : ℕ) (x y : List ℕ) : Type 0 where
  pub fine : Good n k y
  pub from : From n k x y
  pub values : (a : ℕ) → a < n → value_in n y a ≡ value_in n x a

pub way_none : (n k : ℕ) (x : List ℕ) → Good n k x → Way n k x x
way_none n k x g = record { fine = g; from = (λ a j h l. refl, λ d j h l m. refl); values = λ a h. refl }

pub way_then : (n k : ℕ) (x y z : List ℕ) → Way n k x y → Way n k y z → Way n k x z
way_then n k x y z p q = record { fine = q.fine; from = from_then n k x y z p.from q.from; values = λ a h. q.values a h ∙ p.values a h }

pub way_accepted : (n k : ℕ) (x y : List ℕ) → image_refusal n k x ≡ 0 → Way n k x y → image_refusal n k y ≡ 0
way_accepted n k x y e w = good_back n k y (accepted n k x e).sizes w.fine

pub run_is_way : (n k : ℕ) (x : List ℕ) (s : ℕ) → image_refusal n k x ≡ 0 → Way n k x (run_from s n k x (At 0 0)).bytes
run_is_way n k x s e =
    record {
      fine = good n k _ (accepted n k _ (stays_accepted n k x s e));
      from = cut_from n k x s e;
      values = λ a h. value_kept n k x s e a h;
    }

pub run_is_over : (n k : ℕ) (x : List ℕ) (s : ℕ) → image_refusal n k x ≡ 0 → (run_from s n k x (At 0 0)).complete ≡ true → Over n k (run_from s n k x (At 0 0)).bytes
run_is_over n k x s e h = (complete_frees n k x s e h, complete_plain n k x s e h)
