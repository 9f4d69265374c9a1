-- HOW MANY STEPS recovery takes: "Free: one step", else "2c+2 steps for count c" (`steps_of` of `image`), at most 160 in all; and what the caller is told, by whether the allowance covers them.
use Rattle.std.specs.Prelude.{◌≡◌, cond, ℕ, ◌≤◌, leb, List}
use Rattle.image.specs.Check.{image_refusal}
use Rattle.image.specs.Recover.{answer_for, recover_of}
use Rattle.image.specs.Count.{steps_of, told, steps_most}

-- of an accepted image: the answer and the steps of a call, and the bound
pub record Counted (n k : ℕ) (x : List ℕ) : Type 0 where
  pub told : (allowance : ℕ) → (recover_of n k x allowance).result
      ≡ record { answer = answer_for (leb (steps_of n k x) allowance); steps = cond (leb (steps_of n k x) allowance) (steps_of n k x) allowance }
  pub most : steps_of n k x ≤ 160

abbrev pub EveryImageCounted : Type 0
EveryImageCounted = (n k : ℕ) (x : List ℕ) → image_refusal n k x ≡ 0 → Counted n k x

pub every_image_counted : EveryImageCounted
every_image_counted n k x e = record { told = λ allowance. told n k x allowance e; most = steps_most n k x e }
