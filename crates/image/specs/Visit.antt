-- A visit of one descriptor: the machine's recovery steps there, from `done` of them on, until they are over or the allowance is used up.
use Rattle.std.specs.Prelude.{ℕ, zero, suc, false, cond, List, Option, Some, None}
use Rattle.word.specs.declared.Sort.TheVariants.{Plain}
use Rattle.word.specs.declared.Status.TheVariants.{Free}
use Rattle.steps.specs.Plan.{points_to}
use Rattle.image.specs.Layout.{word_of, with_word, with_status}
use Rattle.image.specs.Recover.{plan_in, image_after}

-- the image then; and what is left of the allowance where the steps are over, None where the allowance ended before they were
pub record Visited : Type 0 where
  pub bytes : List ℕ
  pub result : Option ℕ

abbrev pub visited : List ℕ → Option ℕ → Visited
visited x v = record { bytes = x; result = v }

-- after a step: the next ones, or none with so much of the allowance left
abbrev pub further : Option ℕ → ℕ → List ℕ → (ℕ → Visited) → Visited
further (Some s) a x rest = rest s
further None a x rest = visited x (Some a)

unfoldable pub visit_from : ℕ → ℕ → List ℕ → ℕ → ℕ → Visited
visit_from zero n x d done = visited x None
visit_from (suc a) n x d done = further (plan_in x n d done).next a (image_after n x d done) (λ s. visit_from a n (image_after n x d done) d s)

-- after the entries: Free is stored, and written back
unfoldable pub freed : ℕ → ℕ → List ℕ → ℕ → Visited
freed zero n x d = visited x None
freed (suc zero) n x d = visited (with_status x n d Free) None
freed (suc (suc a)) n x d = visited (with_status x n d Free) (Some a)

-- an entry's first step: a word at a that points to d becomes v, not dirty
unfoldable pub replaced : List ℕ → ℕ → ℕ → ℕ → List ℕ
replaced x d a v = cond (points_to (word_of x a) d) (with_word x a (Plain v false)) x
