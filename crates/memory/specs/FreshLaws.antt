-- What a fresh memory holds.
use Rattle.std.specs.Prelude.{◌≡◌, refl, Bool, true, false, cond, ℕ, ◌+◌, ◌*◌, ltb, get_or}
use Rattle.std.proofs.Math.Path.{ap}
use Rattle.std.proofs.Common.{◌∙◌, arith, ltb-true}
use Rattle.std.proofs.lemmas.List.{get_or-replicate, length-replicate}
use Rattle.word.specs.declared.Sort.TheVariants.{Plain}
use Rattle.word.specs.declared.Status.TheVariants.{Free}
use Rattle.word.specs.Word.{sort_of}
use Rattle.word.specs.Status.{status_of}
use Rattle.steps.specs.declared.Worker.TheVariants.{Idle}
use Rattle.steps.specs.declared.RecoveryPlace.TheVariants.{Outside}
use Rattle.codes.specs.Row.{worker_of, recovery_of}
use Rattle.memory.specs.declared.Copy.{Copy}
use Rattle.memory.specs.declared.Copy.TheVariants.{Persisted}
use Rattle.memory.specs.Block.{Field, nowhere, slot, at, get}
use Rattle.memory.specs.Block.Field.{word, status, body, worker, size, recovery}
use Rattle.memory.specs.Content.{word_in, status_in, count_in, entry_in, worker_in, recovery_in}
use Rattle.memory.specs.Fresh.{sizes_in, zeros, fresh_block}
use Rattle.memory.specs.Value.{sort_value, value_of}
use Rattle.memory.specs.Fields.{Whole, size_somewhere}
use Rattle.memory.specs.StoreLaws.{three_whole, three_other, three_first, three_second, three_third}

get_zero : (f : Field) → get zeros f ≡ 0
unfolding at
get_zero f = go (ltb (slot f) nowhere) refl
  where
    go : (t : Bool) → ltb (slot f) nowhere ≡ t → cond t (get_or zeros (slot f) 0) 0 ≡ 0
    go true e = get_or-replicate nowhere (slot f) 0 0 (ltb-true _ _ e)
    go false e = refl

clash : ◌≡◌ {A = ℕ} 0 1 → ⊥
clash e = omega arith

-- the field is no size
abbrev NoSize : Field → Type 0
NoSize f = (j : ℕ) → size j ≡ f → ⊥

size_parts : (i j : ℕ) → (i ≡ j → ⊥) → size i ≡ size j → ⊥
size_parts i j n e = let z : i ≡ j = cc in n z

module _ (n k w : ℕ) where
  pub fresh_whole : Whole (fresh_block n k w)
  fresh_whole = three_whole zeros _ _ _ _ _ _ (length-replicate {A = ℕ} nowhere 0)

  pub fresh_sizes : sizes_in (fresh_block n k w) ≡ record { n = n; k = k; w = w }
  fresh_sizes =
      let h : Whole zeros = length-replicate {A = ℕ} nowhere 0 in
      rw (
        three_first zeros (size 0) (size 1) (size 2) n k w h (size_somewhere 0 (omega arith)) (size_parts 1 0 (omega arith)) (size_parts 2 0 (omega arith)),
        three_second zeros (size 0) (size 1) (size 2) n k w h (size_somewhere 1 (omega arith)) (size_parts 2 1 (omega arith)),
        three_third zeros (size 0) (size 1) (size 2) n k w h (size_somewhere 2 (omega arith)),
      )

  -- every other field is 0
  pub fresh_zero : (f : Field) → NoSize f → get (fresh_block n k w) f ≡ 0
  fresh_zero f o = three_other zeros _ _ _ _ _ _ f (o 0) (o 1) (o 2) ∙ get_zero f

  pub fresh_word : (c : Copy) (a : ℕ) → word_in c (fresh_block n k w) a ≡ Plain 0 false
  unfolding sort_of
  fresh_word c a = rw (fresh_zero (word c a) (λ j e. clash (cc)))

  pub fresh_status : (c : Copy) (d : ℕ) → status_in c (fresh_block n k w) d ≡ Free
  unfolding status_of
  fresh_status c d = rw (fresh_zero (status c d) (λ j e. clash (cc)))

  fresh_body : (c : Copy) (d j : ℕ) → get (fresh_block n k w) (body c d j) ≡ 0
  fresh_body c d j = fresh_zero (body c d j) (λ i e. clash (cc))

  pub fresh_count : (c : Copy) (d : ℕ) → count_in c (fresh_block n k w) d ≡ 0
  fresh_count c d = fresh_body c d 0

  pub fresh_entry : (c : Copy) (d i : ℕ) → entry_in c (fresh_block n k w) d i ≡ record { address = 0; expected = 0; desired = 0 }
  unfolding entry_in
  fresh_entry c d i = rw (fresh_body c d (1 + 3 * i), fresh_body c d (2 + 3 * i), fresh_body c d (3 + 3 * i))

  fresh_row : (v j : ℕ) → get (fresh_block n k w) (worker v j) ≡ 0
  fresh_row v j = fresh_zero (worker v j) (λ i e. clash (cc))

  pub fresh_worker : (v : ℕ) → worker_in (fresh_block n k w) v ≡ Idle
  unfolding worker_of
  fresh_worker v = rw (fresh_row v 0)

  pub fresh_recovery : recovery_in (fresh_block n k w) ≡ Outside
  unfolding recovery_of
  fresh_recovery = rw (fresh_zero (recovery 0) (λ j e. clash (cc)))

  pub fresh-value : (a : ℕ) → value_of (fresh_block n k w) a ≡ 0
  unfolding value_of
  fresh-value a = ap (sort_value (fresh_block n k w) a) (fresh_word Persisted a)
