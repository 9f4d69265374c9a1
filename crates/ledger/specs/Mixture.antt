-- A body as it stands in memory, in parts, where a write-back may have reached some of them alone. Every mixture of two bodies that agree where they are looked at agrees with them
-- there; what has been written back stays so whatever is written back besides; and once all has been, the bodies agree.
use Rattle.std.specs.Prelude.{◌≡◌, refl, ◌⊎◌, ℕ, zero, suc, ◌<◌, length, get_or}
use Rattle.std.proofs.Common.{sym, ap, ◌∙◌, inl, inr, ⊎_elim, arith}
use Rattle.steps.specs.declared.Entry.{Entry}
use Rattle.events.specs.Build.{no_entry}
use Rattle.ledger.specs.Statement.{firsts}
use Rattle.ledger.specs.Cells.{Body}
use Rattle.ledger.specs.Seen.{length_firsts, firsts_at}

-- a body as it stands in memory, in parts: the count, and every entry, also those past the count
pub record Parts : Type 0 where
  pub count : ℕ
  pub entry : ℕ → Entry

-- the body that is looked at: the entries below the count
abbrev pub listed : Parts → Body
listed p = firsts p.count p.entry

-- every part of a mixture is that of the one or of the other
pub record Mixed (new c p : Parts) : Type 0 where
  pub count : (new.count ≡ c.count) ⊎ (new.count ≡ p.count)
  pub entry : (i : ℕ) → (new.entry i ≡ c.entry i) ⊎ (new.entry i ≡ p.entry i)

-- `firsts` depends on the first n entries alone
pub firsts_same : (n : ℕ) (f g : ℕ → Entry) → ((i : ℕ) → i < n → f i ≡ g i) → firsts n f ≡ firsts n g
unfolding firsts
firsts_same zero f g e = refl
firsts_same (suc n) f g e = rw (e 0 (omega arith), firsts_same n (λ i. f (suc i)) (λ i. g (suc i)) (λ i l. e (suc i) (omega arith)))

module _ (b c p : Parts) (m : Mixed b c p) (e : listed c ≡ listed p) where
  counts : c.count ≡ p.count
  counts = sym (length_firsts c.count c.entry) ∙ ap length e ∙ length_firsts p.count p.entry

  entries : (i : ℕ) → i < p.count → c.entry i ≡ p.entry i
  entries i l = sym (firsts_at c.count c.entry i (omega (arith, counts))) ∙ ap (λ (x : Body). get_or x i no_entry) e ∙ firsts_at p.count p.entry i l

  count_is : b.count ≡ p.count
  count_is = ⊎_elim (λ z. z ∙ counts) (λ z. z) m.count

  entry_is : (i : ℕ) → i < p.count → b.entry i ≡ p.entry i
  entry_is i l = ⊎_elim (λ z. z ∙ entries i l) (λ z. z) (m.entry i)

  pub mixed_listed : listed b ≡ listed p
  mixed_listed = ap (λ (n : ℕ). firsts n b.entry) count_is ∙ firsts_same p.count b.entry p.entry entry_is

-- the one, and the other, are mixtures
pub all_cached : (c p : Parts) → Mixed c c p
all_cached c p = record { count = inl refl; entry = λ i. inl refl }

pub all_persisted : (c p : Parts) → Mixed p c p
all_persisted c p = record { count = inr refl; entry = λ i. inr refl }

-- the parts that have been written back: the count, and the first i entries
pub record Written (c p : Parts) (i : ℕ) : Type 0 where
  pub count : c.count ≡ p.count
  pub entry : (j : ℕ) → j < i → c.entry j ≡ p.entry j

-- what has been written back stays so, whatever parts are written back besides
pub written_mixed : (b c p : Parts) → Mixed b c p → (i : ℕ) → Written c p i → Written c b i
written_mixed b c p m i w = record {
  count = ⊎_elim (λ z. sym z) (λ z. w.count ∙ sym z) m.count;
  entry = λ j l. ⊎_elim (λ z. sym z) (λ z. w.entry j l ∙ sym z) (m.entry j);
}

-- once all has been, the bodies agree
pub written_all : (c p : Parts) → Written c p c.count → listed c ≡ listed p
written_all c p w = firsts_same c.count c.entry p.entry w.entry ∙ ap (λ (n : ℕ). firsts n p.entry) w.count
