-- A function with one value changed, and what stays true of it: at one place, and at one place of one of the two copies.
use Rattle.std.specs.Prelude.{◌≡◌, refl, ◌≢◌, ℕ}
use Rattle.std.proofs.Math.Path.{fun_ext}
use Rattle.std.proofs.Common.{sym, arith}
use Rattle.std.proofs.Math.Decide.{ℕ_discrete}
use Rattle.memory.specs.declared.Copy.{Copy}
use Rattle.memory.specs.declared.Copy.TheVariants.{Cached, Persisted}

-- anything, where the equations in reach join two different cases: `clash (cc)`
pub clash {ℓ} : {A : Type ℓ} → ◌≡◌ {A = ℕ} 0 1 → A
clash {A} e = absurd (omega arith)

unfoldable pub choose : {P A : Type 0} → Dec P → A → A → A
choose (yes p) x y = x
choose (no q) x y = y

-- f with x at a
unfoldable pub upd : {A : Type 0} → (ℕ → A) → ℕ → A → ℕ → A
upd f a x b = choose (ℕ_discrete b a) x (f b)

pub upd_same : {A : Type 0} (f : ℕ → A) (a : ℕ) (x : A) → upd f a x a ≡ x
unfolding upd choose
upd_same f a x = elim (ℕ_discrete a a) as (λ c. choose c x (f a) ≡ x) [ yes p ↦ refl | no q ↦ absurd (q refl) ]

pub upd_other : {A : Type 0} (f : ℕ → A) (a : ℕ) (x : A) (b : ℕ) → b ≢ a → upd f a x b ≡ f b
unfolding upd choose
upd_other f a x b h = elim (ℕ_discrete b a) as (λ c. choose c x (f b) ≡ f b) [ yes p ↦ absurd (h p) | no q ↦ refl ]

-- at one place b: by whether it is the place changed
pub upd_if : {A : Type 0} (P : A → Type 0) (f : ℕ → A) (a b : ℕ) (x : A) → (b ≡ a → P x) → (b ≢ a → P (f b)) → P (upd f a x b)
upd_if P f a b x new old = elim (ℕ_discrete b a) [ yes e ↦ rw (e, upd_same) (new e) | no q ↦ rw (upd_other f a x b q) (old q) ]

-- P of every value: at a, and elsewhere; where P held of all the old; at one place
pub upd_case : {A : Type 0} (P : ℕ → A → Type 0) {f : ℕ → A} {a : ℕ} {x : A} → ((b : ℕ) → b ≢ a → P b (f b)) → P a x → (b : ℕ) → P b (upd f a x b)
upd_case P {f} {a} {x} old new b = elim (ℕ_discrete b a) [ yes e ↦ rw (e, upd_same) new | no q ↦ rw (upd_other f a x b q) (old b q) ]

pub upd_frame : {A : Type 0} (P : ℕ → A → Type 0) {f : ℕ → A} {a : ℕ} {x : A} → ((b : ℕ) → P b (f b)) → P a x → (b : ℕ) → P b (upd f a x b)
upd_frame P old new = upd_case P (λ b q. old b) new

pub upd_at : {A : Type 0} (P : A → Type 0) (f : ℕ → A) (a b : ℕ) (x : A) → P (f b) → P x → P (upd f a x b)
upd_at P f a b x old new = upd_if P f a b x (λ _. new) (λ _. old)

-- two functions that agree at b still do after the same change
pub upd_cong : {A : Type 0} (f h : ℕ → A) (a : ℕ) (x : A) (b : ℕ) → f b ≡ h b → upd f a x b ≡ upd h a x b
upd_cong f h a x b p = elim (ℕ_discrete b a) [ yes e ↦ rw (e, upd_same f a x, upd_same h a x) | no q ↦ rw (upd_other f a x b q, upd_other h a x b q) p ]

-- two functions changed at the same place
pub upd_frame_two : {A B : Type 0} (P : ℕ → A → B → Type 0) {f : ℕ → A} {h : ℕ → B} {a : ℕ} {x : A} {y : B} → ((b : ℕ) → P b (f b) (h b)) → P a x y
    → (b : ℕ) → P b (upd f a x b) (upd h a y b)
upd_frame_two P {f} {h} {a} {x} {y} old new b = elim (ℕ_discrete b a) [
  | yes e ↦ rw (e, upd_same f a x, upd_same h a y) new
  | no q ↦ rw (upd_other f a x b q, upd_other h a y b q) (old b)
]

-- changing a value to what it is changes nothing
pub upd_id : {A : Type 0} (f : ℕ → A) (a : ℕ) (x : A) → f a ≡ x → upd f a x ≡ f
upd_id f a x e = fun_ext (λ b. elim (ℕ_discrete b a) [ yes p ↦ rw (p, upd_same f a x) (sym e) | no q ↦ upd_other f a x b q ])

-- what is held in both copies, and that with x at a of copy c
abbrev pub InBoth : Type 0 → Type 0
InBoth A = Copy → ℕ → A

abbrev pub upd_in : {A : Type 0} → InBoth A → Copy → ℕ → A → InBoth A
upd_in f Cached a x Cached = upd (f Cached) a x
upd_in f Cached a x Persisted = f Persisted
upd_in f Persisted a x Cached = f Cached
upd_in f Persisted a x Persisted = upd (f Persisted) a x

module _ {A : Type 0} where
  -- by whether it is the place changed
  pub in_if : (P : A → Type 0) (f : InBoth A) (c : Copy) (a : ℕ) (x : A) (k : Copy) (b : ℕ) → (c ≡ k → a ≡ b → P x)
      → ((c ≡ k → a ≡ b → ⊥) → P (f k b)) → P (upd_in f c a x k b)
  in_if P f Cached a x Cached b new old = upd_if P (f Cached) a b x (λ e. new refl (sym e)) (λ q. old (λ _ e. q (sym e)))
  in_if P f Cached a x Persisted b new old = old (λ e _. clash (cc))
  in_if P f Persisted a x Cached b new old = old (λ e _. clash (cc))
  in_if P f Persisted a x Persisted b new old = upd_if P (f Persisted) a b x (λ e. new refl (sym e)) (λ q. old (λ _ e. q (sym e)))

  -- where P held of all the old
  pub in_frame : (P : Copy → ℕ → A → Type 0) {f : InBoth A} (c : Copy) {a : ℕ} {x : A} → ((k : Copy) (b : ℕ) → P k b (f k b)) → P c a x
      → (k : Copy) (b : ℕ) → P k b (upd_in f c a x k b)
  in_frame P Cached old new Cached b = upd_frame (P Cached) (old Cached) new b
  in_frame P Cached old new Persisted b = old Persisted b
  in_frame P Persisted old new Cached b = old Cached b
  in_frame P Persisted old new Persisted b = upd_frame (P Persisted) (old Persisted) new b

-- equal in both copies and everywhere
pub both_ext : {A : Type 0} (f h : InBoth A) → ((c : Copy) (a : ℕ) → f c a ≡ h c a) → f ≡ h
both_ext f h e = fun_ext (λ c. fun_ext (λ a. e c a))
