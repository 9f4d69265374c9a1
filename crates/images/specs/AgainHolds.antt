-- Every accepted image recovers, whatever cuts came before: the statement of Again.antt, from the laws of runs.
use Rattle.std.specs.Prelude.{◌≡◌, refl, ◌⊎◌, Bool, false, List, [], ◌∷◌, ℕ, ◌≤◌, ◌<◌, leb}
use Rattle.std.proofs.Common.{sym, ap, ◌∙◌, inl, inr, arith, le-leb}
use Rattle.std.proofs.Math.Bool.{true}
use Rattle.word.specs.declared.Sort.{Sort}
use Rattle.word.specs.declared.Sort.TheVariants.{Plain, Pointer, Neither}
use Rattle.word.specs.declared.Status.TheVariants.{Free}
use Rattle.steps.specs.declared.RecoveryPlace.TheVariants.{At}
use Rattle.image.specs.declared.Recovery.{Recovery}
use Rattle.image.specs.Layout.{word_of, part_of, status_in}
use Rattle.image.specs.Check.{image_refusal}
use Rattle.image.specs.Recover.{run_from, answer_for, recover_of}
use Rattle.image.specs.Count.{steps_of, complete_exactly, told, steps_most}
use Rattle.image.specs.Values.{sort_value_in, value_in, runs, value_kept, cuts_accepted, cuts_keep_values}
use Rattle.image.specs.Ends.{is_plain, complete_leaves}
use Rattle.image.specs.Cuts.{call_runs, cuts_do_not_matter}
use Rattle.images.specs.Again.{calls, answer, EveryImageAgain}

-- calls on an accepted image are runs
calls_runs : (n k : ℕ) (x : List ℕ) (ss : List ℕ) → image_refusal n k x ≡ 0 → calls ss n k x ≡ runs ss n k x
calls_runs n k x [] e = refl
calls_runs n k x (s ∷ ss) e = rw (call_runs n k x s e) (calls_runs n k (run_from s n k x (At 0 0)).bytes ss (cuts_accepted n k x (s ∷ []) e))

-- a plain word by its value
plain_value : (n : ℕ) (x : List ℕ) (a v : ℕ) (w : Sort) → is_plain w ≡ true → sort_value_in n x a w ≡ v → (dirty : Bool) × (w ≡ Plain v dirty)
plain_value n x a v (Plain y dirty) e f = (dirty, rw f)
plain_value n x a v (Pointer d dirty) e f = let z : ◌≡◌ {A = ℕ} 0 1 = cc in absurd (omega arith)
plain_value n x a v (Neither y) e f = let z : ◌≡◌ {A = ℕ} 0 1 = cc in absurd (omega arith)

-- one call on an accepted image
module _ (n k : ℕ) (x : List ℕ) (e : image_refusal n k x ≡ 0) (s : ℕ) where
  told_answer : (recover_of n k x s).result.answer ≡ answer_for (leb (steps_of n k x) s)
  told_answer = ap (λ (r : Recovery). r.answer) (told n k x s e)

  pub call_accepted : ((recover_of n k x s).result.answer ≡ 0) ⊎ ((recover_of n k x s).result.answer ≡ 256)
  call_accepted = rw told_answer (go (leb (steps_of n k x) s))
    where
      go : (t : Bool) → (answer_for t ≡ 0) ⊎ (answer_for t ≡ 256)
      go true = inl refl
      go false = inr refl

  call_enough : 160 ≤ s → (recover_of n k x s).result.answer ≡ 0
  call_enough l = let m = steps_most n k x e in told_answer ∙ ap answer_for (le-leb (steps_of n k x) s (omega arith))

  pub call_complete : (recover_of n k x s).result.answer ≡ 0 → (run_from s n k x (At 0 0)).complete ≡ true
  call_complete z = complete_exactly n k x s e ∙ go (leb (steps_of n k x) s) (sym told_answer ∙ z)
    where
      go : (t : Bool) → answer_for t ≡ 0 → t ≡ true
      go true q = refl
      go false q = absurd (omega arith)

  call_free : (recover_of n k x s).result.answer ≡ 0 → (d : ℕ) → d < k → status_in (part_of (recover_of n k x s).bytes n d) ≡ Free
  call_free z = rw (call_runs n k x s e) (complete_leaves n k x s e (call_complete z)).0

  pub call_value : (a : ℕ) → a < n → value_in n (recover_of n k x s).bytes a ≡ value_in n x a
  call_value = rw (call_runs n k x s e) (value_kept n k x s e)

  call_plain : (recover_of n k x s).result.answer ≡ 0 → (a : ℕ) → a < n → (dirty : Bool) × (word_of (recover_of n k x s).bytes a ≡ Plain (value_in n x a) dirty)
  unfolding value_in
  call_plain z a l =
      let y = (recover_of n k x s).bytes in
      let p : is_plain (word_of y a) ≡ true = rw (call_runs n k x s e) ((complete_leaves n k x s e (call_complete z)).1 a l) in
      plain_value n y a (value_in n x a) (word_of y a) p (call_value a l)

module _ (n k : ℕ) (x : List ℕ) (e : image_refusal n k x ≡ 0) (ss : List ℕ) where
  abbrev now : List ℕ
  now = calls ss n k x

  pub still_accepted : image_refusal n k now ≡ 0
  still_accepted = rw (calls_runs n k x ss e) (cuts_accepted n k x ss e)

  still_value : (a : ℕ) → a < n → value_in n now a ≡ value_in n x a
  still_value a l = rw (calls_runs n k x ss e) (cuts_keep_values n k x ss e a l)

  -- the last of them and one call at once leave the same bytes
  still_same : (s t : ℕ) → answer n k x ss s ≡ 0 → (recover_of n k x t).result.answer ≡ 0 → (recover_of n k now s).bytes ≡ (recover_of n k x t).bytes
  still_same s t p q =
      let c : (run_from s n k (runs ss n k x) (At 0 0)).complete ≡ true = rw (calls_runs n k x ss e) at (call_complete n k now still_accepted s p) in
      call_runs n k now s still_accepted
      ∙ ap (λ (y : List ℕ). (run_from s n k y (At 0 0)).bytes) (calls_runs n k x ss e)
      ∙ cuts_do_not_matter n k x ss s t e c (call_complete n k x e t q)
      ∙ sym (call_runs n k x t e)

pub every_image_again : EveryImageAgain
every_image_again n k x e =
    record {
      accepted = λ ss s. call_accepted n k (calls ss n k x) (still_accepted n k x e ss) s;
      enough = λ ss s. call_enough n k (calls ss n k x) (still_accepted n k x e ss) s;
      values = λ ss s a l. call_value n k (calls ss n k x) (still_accepted n k x e ss) s a l ∙ still_value n k x e ss a l;
      plain = λ ss s a z l. rw (← still_value n k x e ss a l) (call_plain n k (calls ss n k x) (still_accepted n k x e ss) s z a l);
      free = λ ss s d z l. call_free n k (calls ss n k x) (still_accepted n k x e ss) s z d l;
      same = λ ss s t p q. still_same n k x e ss s t p q;
    }
