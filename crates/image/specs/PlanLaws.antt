-- The six ways a recovery step can go, with what leads to each.
use Rattle.std.specs.Prelude.{◌≡◌, Bool, cond, ◌&&◌, ℕ, suc, ◌/◌, ◌%◌, ◌<◌, ltb}
use Rattle.std.proofs.Math.Path.{refl}
use Rattle.std.proofs.Math.Bool.{true, false}
use Rattle.std.proofs.Common.{arith, eqb-true, ltb-true, ltb-false, None, Option, Some}
use Rattle.std.proofs.Math.Dec.{eqb}
use Rattle.std.proofs.lemmas.Bool.{eqb-false}
use Rattle.word.specs.declared.Sort.TheVariants.{Plain}
use Rattle.word.specs.declared.Status.TheVariants.{Free}
use Rattle.steps.specs.declared.Seen.{Seen}
use Rattle.steps.specs.declared.Effect.TheVariants.{Nothing, StoreWord, BackWord, StoreStatus, BackStatus}
use Rattle.steps.specs.Plan.{is_free, points_to, left_value, store_if}
use Rattle.steps.specs.Recovery.{recovery_step, entry_step, end_step, live_step, recovery_plan}
use Rattle.steps.specs.declared.Plan.{Plan}

-- one of the entries is next
abbrev pub Before : ℕ → ℕ → Type 0
Before done count = (done < 8) × (done / 2 < count)

-- the entries are over
abbrev pub Past : ℕ → ℕ → Type 0
Past done count = done < 8 → done / 2 < count → ⊥

module _ (d done : ℕ) (s : Seen) (P : Plan (Option ℕ) → Type 0) where
  pub plan_cases : (done ≡ 0 → is_free s.status ≡ true → P (recovery_step Nothing None))
      → ((is_free s.status ≡ true → 0 < done) → Before done s.count → done % 2 ≡ 0 → points_to s.word d ≡ true
      → P (recovery_step (StoreWord s.entry.address (Plain (left_value s.status s.entry) false)) (Some (suc done))))
      → ((is_free s.status ≡ true → 0 < done) → Before done s.count → done % 2 ≡ 0 → points_to s.word d ≡ false → P (recovery_step Nothing (Some (suc done))))
      → ((is_free s.status ≡ true → 0 < done) → Before done s.count → (done % 2 ≡ 0 → ⊥) → P (recovery_step (BackWord s.entry.address) (Some (suc done))))
      → ((is_free s.status ≡ true → 0 < done) → Past done s.count → done % 2 ≡ 0 → P (recovery_step (StoreStatus Free) (Some (suc done))))
      → ((is_free s.status ≡ true → 0 < done) → Past done s.count → (done % 2 ≡ 0 → ⊥) → P (recovery_step BackStatus None))
      → P (recovery_plan d done s)
  unfolding recovery_plan live_step entry_step end_step
  plan_cases free store keep back ends last = go (eqb done 0) (is_free s.status) refl refl
    where
      ending : (is_free s.status ≡ true → 0 < done) → Past done s.count → (u : Bool) → eqb (done % 2) 0 ≡ u
          → P (cond u (recovery_step (StoreStatus Free) (Some (suc done))) (recovery_step BackStatus None))
      ending l p true e = ends l p (eqb-true _ _ e)
      ending l p false e = last l p (eqb-false _ _ e)

      entering : (is_free s.status ≡ true → 0 < done) → Before done s.count → (u t : Bool) → eqb (done % 2) 0 ≡ u → points_to s.word d ≡ t
          → P (cond u (recovery_step (store_if t s.entry.address (Plain (left_value s.status s.entry) false)) (Some (suc done)))
          (recovery_step (BackWord s.entry.address) (Some (suc done))))
      entering l b true true e f = store l b (eqb-true _ _ e) f
      entering l b true false e f = keep l b (eqb-true _ _ e) f
      entering l b false t e f = back l b (eqb-false _ _ e)

      living : (is_free s.status ≡ true → 0 < done) → (a b : Bool) → ltb done 8 ≡ a → ltb (done / 2) s.count ≡ b
          → P (cond (a && b) (entry_step d done s) (end_step done))
      living l true true e f = entering l (ltb-true _ _ e, ltb-true _ _ f) (eqb (done % 2) 0) (points_to s.word d) refl refl
      living l true false e f = ending l (λ g h. let m = ltb-false (done / 2) s.count f in omega arith) (eqb (done % 2) 0) refl
      living l false b e f = ending l (λ g h. let m = ltb-false done 8 e in omega arith) (eqb (done % 2) 0) refl

      go : (a b : Bool) → eqb done 0 ≡ a → is_free s.status ≡ b → P (cond (a && b) (recovery_step Nothing None) (live_step d done s))
      go true true e f = free (eqb-true _ _ e) f
      go true false e f = living (λ g. let z : ◌≡◌ {A = ℕ} 0 1 = cc in omega arith) (ltb done 8) (ltb (done / 2) s.count) refl refl
      go false b e f = living (λ g. let m : done ≡ 0 → ⊥ = eqb-false done 0 e in omega arith) (ltb done 8) (ltb (done / 2) s.count) refl refl
