-- What the stores of several fields change: an entry, a worker, recovery's place; all they do not name is as it was.
use Rattle.std.specs.Prelude.{◌≡◌, Bool}
use Rattle.std.proofs.Math.Path.{refl}
use Rattle.std.proofs.Common.{ap, ◌∙◌}
use Prim.Native.Nat.{ℕ, zero, suc, ◌+◌, ◌*◌, ◌<◌, ◌≤◌}
use native.Mathlib.Omega.{arith}
use Rattle.std.proofs.Math.Dec.{eqb}
use borrow.Author.Tests.{eqb-true, eqb-false}
use Rattle.std.proofs.Math.Bool.{true, false}
use Rattle.steps.specs.declared.Worker.{Worker}
use Rattle.steps.specs.declared.Worker.TheVariants.{Idle}
use Rattle.steps.specs.declared.RecoveryPlace.{RecoveryPlace}
use Rattle.codes.specs.declared.Row.{Row}
use Rattle.codes.specs.Row.{worker_of, row_of}
use Rattle.codes.specs.Round.{worker_round, recovery_round}
use Rattle.memory.specs.declared.Copy.TheVariants.{Cached}
use Rattle.steps.specs.declared.Entry.{Entry}
use Rattle.memory.specs.Block.{Block, Field, get, put}
use Rattle.memory.specs.Block.Field.{body, worker, recovery}
use Rattle.memory.specs.Content.{entry_in, put_entry, cleared_to, row_in, worker_in, put_row, put_worker, idled, recovery_in, put_recovery}
use Rattle.memory.specs.Laws.{same_worker}
use Rattle.memory.specs.Fields.{Whole, Somewhere, body_somewhere, worker_somewhere, recovery_somewhere, whole_put, get_put, get_other, put_same}

-- three fields, one after the other
module _ (m : Block) (f g k : Field) (x y z : ℕ) where
  abbrev pub three : Block
  three = put (put (put m f x) g y) k z

  pub three_whole : Whole m → Whole three
  three_whole h = whole_put _ k z (whole_put _ g y (whole_put m f x h))

  pub three_other : (o : Field) → (f ≡ o → ⊥) → (g ≡ o → ⊥) → (k ≡ o → ⊥) → get three o ≡ get m o
  three_other o p q r = get_other _ k z o r ∙ get_other _ g y o q ∙ get_other m f x o p

  module _ (h : Whole m) where
    pub three_first : Somewhere f → (g ≡ f → ⊥) → (k ≡ f → ⊥) → get three f ≡ x
    three_first l q r = get_other _ k z f r ∙ get_other _ g y f q ∙ get_put m f x h l

    pub three_second : Somewhere g → (k ≡ g → ⊥) → get three g ≡ y
    three_second l r = get_other _ k z g r ∙ get_put _ g y (whole_put m f x h) l

    pub three_third : Somewhere k → get three k ≡ z
    three_third l = get_put _ k z (whole_put _ g y (whole_put m f x h)) l

-- two numbers of one body, of one worker, are two fields
body_parts : (d i j : ℕ) → (i ≡ j → ⊥) → body Cached d i ≡ body Cached d j → ⊥
body_parts d i j n e = let z : i ≡ j = cc in n z

worker_parts : (w i j : ℕ) → (i ≡ j → ⊥) → worker w i ≡ worker w j → ⊥
worker_parts w i j n e = let z : i ≡ j = cc in n z

pub workers_apart : (v w i j : ℕ) → (v ≡ w → ⊥) → worker v i ≡ worker w j → ⊥
workers_apart v w i j n e = let z : v ≡ w = cc in n z

recovery_parts : (i j : ℕ) → (i ≡ j → ⊥) → recovery i ≡ recovery j → ⊥
recovery_parts i j n e = let z : i ≡ j = cc in n z

-- an entry
module _ (m : Block) (d i : ℕ) (e : Entry) where
  pub entry_stored : Whole m → d < 16 → i < 4 → entry_in Cached (put_entry m d i e) d i ≡ e
  unfolding entry_in
  entry_stored h l k =
      let f = body Cached d (1 + 3 * i) in
      let g = body Cached d (2 + 3 * i) in
      let o = body Cached d (3 + 3 * i) in
      rw (
        three_first m f g o e.address e.expected e.desired h (body_somewhere Cached d _ l (omega arith)) (body_parts d _ _ (omega arith)) (body_parts d _ _ (omega arith)),
        three_second m f g o e.address e.expected e.desired h (body_somewhere Cached d _ l (omega arith)) (body_parts d _ _ (omega arith)),
        three_third m f g o e.address e.expected e.desired h (body_somewhere Cached d _ l (omega arith)),
      )

  pub entry_other : (o : Field) → ((j : ℕ) → 3 * i < j → j ≤ 3 + 3 * i → body Cached d j ≡ o → ⊥) → get (put_entry m d i e) o ≡ get m o
  entry_other o n = three_other m _ _ _ _ _ _ o (n _ (omega arith) (omega arith)) (n _ (omega arith) (omega arith)) (n _ (omega arith) (omega arith))

  pub entry_whole : Whole m → Whole (put_entry m d i e)
  entry_whole h = three_whole m _ _ _ _ _ _ h

-- a body of zeros
module _ (m : Block) (d : ℕ) where
  pub cleared_whole : (n : ℕ) → Whole m → Whole (cleared_to n m d)
  unfolding cleared_to
  cleared_whole zero h = h
  cleared_whole (suc n) h = whole_put _ (body Cached d n) 0 (cleared_whole n h)

  pub cleared_other : (n : ℕ) (o : Field) → ((j : ℕ) → body Cached d j ≡ o → ⊥) → get (cleared_to n m d) o ≡ get m o
  unfolding cleared_to
  cleared_other zero o k = refl
  cleared_other (suc n) o k = get_other _ (body Cached d n) 0 o (k n) ∙ cleared_other n o k

  pub cleared_zero : (n j : ℕ) → Whole m → d < 16 → n ≤ 13 → j < n → get (cleared_to n m d) (body Cached d j) ≡ 0
  unfolding cleared_to
  cleared_zero zero j h l k p = omega arith
  cleared_zero (suc n) j h l k p = go (eqb n j) refl (λ q. cleared_zero n j h l (omega arith) q)
    where
      go : (t : Bool) → eqb n j ≡ t → (j < n → get (cleared_to n m d) (body Cached d j) ≡ 0)
          → get (put (cleared_to n m d) (body Cached d n) 0) (body Cached d j) ≡ 0
      go true e r =
          let z : n ≡ j = eqb-true _ _ e in
          rw (← z) (get_put _ (body Cached d n) 0 (cleared_whole n h) (body_somewhere Cached d n l (omega arith)))
      go false e r =
          let z : n ≡ j → ⊥ = eqb-false _ _ e in
          get_other _ (body Cached d n) 0 (body Cached d j) (body_parts d n j z) ∙ r (omega arith)

-- a worker's row: two times three numbers
module _ (m : Block) (w : ℕ) (r : Row) where
  abbrev half : Block
  half = three m (worker w 0) (worker w 1) (worker w 2) r.tag r.own r.job

  pub row_whole : Whole m → Whole (put_row m w r)
  unfolding put_row
  row_whole h = three_whole half _ _ _ _ _ _ (three_whole m _ _ _ _ _ _ h)

  pub row_other : (o : Field) → ((j : ℕ) → j < 6 → worker w j ≡ o → ⊥) → get (put_row m w r) o ≡ get m o
  unfolding put_row
  row_other o n =
      three_other half _ _ _ _ _ _ o (n 3 (omega arith)) (n 4 (omega arith)) (n 5 (omega arith))
      ∙ three_other m _ _ _ _ _ _ o (n 0 (omega arith)) (n 1 (omega arith)) (n 2 (omega arith))

  module _ (h : Whole m) (l : w < 8) where
    part : (i j : ℕ) → eqb i j ≡ false → worker w i ≡ worker w j → ⊥
    part i j e = worker_parts w i j (eqb-false _ _ e)

    there : (j : ℕ) → j < 8 → Somewhere (worker w j)
    there j k = worker_somewhere w j l k

    upper : (j : ℕ) → eqb 3 j ≡ false → eqb 4 j ≡ false → eqb 5 j ≡ false → get (put_row m w r) (worker w j) ≡ get half (worker w j)
    unfolding put_row
    upper j e f g = three_other half _ _ _ _ _ _ (worker w j) (part 3 j e) (part 4 j f) (part 5 j g)

    row_tag : get (put_row m w r) (worker w 0) ≡ r.tag
    row_tag = upper 0 refl refl refl ∙ three_first m _ _ _ _ _ _ h (there 0 (omega arith)) (part 1 0 refl) (part 2 0 refl)

    row_own : get (put_row m w r) (worker w 1) ≡ r.own
    row_own = upper 1 refl refl refl ∙ three_second m _ _ _ _ _ _ h (there 1 (omega arith)) (part 2 1 refl)

    row_job : get (put_row m w r) (worker w 2) ≡ r.job
    row_job = upper 2 refl refl refl ∙ three_third m _ _ _ _ _ _ h (there 2 (omega arith))

    row_place : get (put_row m w r) (worker w 3) ≡ r.place
    unfolding put_row
    row_place = three_first half _ _ _ _ _ _ (three_whole m _ _ _ _ _ _ h) (there 3 (omega arith)) (part 4 3 refl) (part 5 3 refl)

    row_entry : get (put_row m w r) (worker w 4) ≡ r.entry
    unfolding put_row
    row_entry = three_second half _ _ _ _ _ _ (three_whole m _ _ _ _ _ _ h) (there 4 (omega arith)) (part 5 4 refl)

    row_noted : get (put_row m w r) (worker w 5) ≡ r.noted
    unfolding put_row
    row_noted = three_third half _ _ _ _ _ _ (three_whole m _ _ _ _ _ _ h) (there 5 (omega arith))

    pub row-stored : row_in (put_row m w r) w ≡ r
    row-stored = rw (row_tag, row_own, row_job, row_place, row_entry, row_noted)

-- putting a row back changes nothing
pub row_same : (m : Block) (w : ℕ) → put_row m w (row_in m w) ≡ m
unfolding put_row
row_same m w = simp put_same

pub worker_stored : (m : Block) (w : ℕ) (x : Worker) → Whole m → w < 8 → worker_in (put_worker m w x) w ≡ x
worker_stored m w x h l = ap worker_of (row-stored m w (row_of x) h l) ∙ worker_round x

-- all workers idle
module _ (m : Block) where
  pub idled_whole : (n : ℕ) → Whole m → Whole (idled m n)
  unfolding idled
  idled_whole zero h = h
  idled_whole (suc n) h = row_whole _ n (row_of Idle) (idled_whole n h)

  pub idled_other : (n : ℕ) (o : Field) → ((w j : ℕ) → worker w j ≡ o → ⊥) → get (idled m n) o ≡ get m o
  unfolding idled
  idled_other zero o k = refl
  idled_other (suc n) o k = row_other _ n (row_of Idle) o (λ j l. k n j) ∙ idled_other n o k

  pub idled_idle : (n w : ℕ) → Whole m → n ≤ 8 → w < n → worker_in (idled m n) w ≡ Idle
  unfolding idled
  idled_idle zero w h k p = let z : ⊥ = omega arith in search
  idled_idle (suc n) w h k p = go (eqb n w) refl (λ q. idled_idle n w h (omega arith) q)
    where
      go : (t : Bool) → eqb n w ≡ t → (w < n → worker_in (idled m n) w ≡ Idle) → worker_in (put_worker (idled m n) n Idle) w ≡ Idle
      go true e r = let z : n ≡ w = eqb-true _ _ e in rw (← z) (worker_stored _ n Idle (idled_whole n h) (omega arith))
      go false e r =
          let z : n ≡ w → ⊥ = eqb-false _ _ e in
          same_worker (idled m n) _ w (λ j. row_other _ n (row_of Idle) (worker w j) (λ i l. workers_apart n w i j z)) ∙ r (omega arith)

-- recovery's place
module _ (m : Block) (p : RecoveryPlace) where
  pub recovery_stored : Whole m → recovery_in (put_recovery m p) ≡ p
  recovery_stored h =
      rw (
        three_first m (recovery 0) (recovery 1) (recovery 2) _ _ _ h (recovery_somewhere 0 (omega arith)) (recovery_parts 1 0 (omega arith)) (recovery_parts 2 0 (omega arith)),
        three_second m (recovery 0) (recovery 1) (recovery 2) _ _ _ h (recovery_somewhere 1 (omega arith)) (recovery_parts 2 1 (omega arith)),
        three_third m (recovery 0) (recovery 1) (recovery 2) _ _ _ h (recovery_somewhere 2 (omega arith)),
      )
      (recovery_round p)

  pub recovery_other : (o : Field) → ((j : ℕ) → recovery j ≡ o → ⊥) → get (put_recovery m p) o ≡ get m o
  recovery_other o n = three_other m _ _ _ _ _ _ o (n 0) (n 1) (n 2)

  pub recovery_whole : Whole m → Whole (put_recovery m p)
  recovery_whole h = three_whole m _ _ _ _ _ _ h
