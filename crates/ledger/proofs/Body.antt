-- Bodies that fit: an entry put in or taken out leaves one that fits, and no address is there twice.
use Rattle.std.specs.Prelude.{◌≡◌, [], ◌∷◌, ℕ, zero, suc, ◌≤◌, ◌<◌, length}
use Rattle.std.proofs.Common.{◌∙◌, ap, arith}
use Rattle.std.proofs.Math.Decide.{ℕ_discrete, dec_lt}
use Rattle.steps.specs.declared.Entry.{Entry}
use Rattle.ledger.specs.Update.{upd_same, upd_other}
use Rattle.ledger.specs.Cells.{Body}
use Rattle.ledger.specs.Seen.{entry_at, address_at}
use Rattle.ledger.specs.Fits.{EntryFits, BodyFits}
use Rattle.ledger.proofs.Machine.{PutIn, TakenOut}
use Rattle.ledger.specs.Meaning.{expected_of, desired_of}
use Rattle.ledger.specs.Know.{Proper}

abbrev pub Ascending : Body → Type 0
Ascending b = (i : ℕ) → suc i < length b → address_at b i < address_at b (suc i)

-- the first address is the lowest
lowest : (e : Entry) (b : Body) → Ascending (e ∷ b) → (i : ℕ) → i < length b → e.address < address_at b i
lowest e b f zero l = f 0 (omega arith)
lowest e b f (suc i) l = let h = lowest e b f i (omega arith) in let k = f (suc i) (omega arith) in omega arith

rest : (e : Entry) (b : Body) → Ascending (e ∷ b) → Ascending b
rest e b f i l = f (suc i) (omega arith)

expected_at : (b : Body) → Ascending b → (i : ℕ) → i < length b → expected_of b (address_at b i) ≡ (entry_at b i).expected
unfolding expected_of
expected_at [] f i l = absurd (omega arith)
expected_at (e ∷ b) f zero l = upd_same (expected_of b) e.address e.expected
expected_at (e ∷ b) f (suc i) l = let h = lowest e b f i (omega arith) in
    upd_other (expected_of b) e.address e.expected (address_at b i) (omega arith) ∙ expected_at b (rest e b f) i (omega arith)

desired_at : (b : Body) → Ascending b → (i : ℕ) → i < length b → desired_of b (address_at b i) ≡ (entry_at b i).desired
unfolding desired_of
desired_at [] f i l = absurd (omega arith)
desired_at (e ∷ b) f zero l = upd_same (desired_of b) e.address e.desired
desired_at (e ∷ b) f (suc i) l = let h = lowest e b f i (omega arith) in
    upd_other (desired_of b) e.address e.desired (address_at b i) (omega arith) ∙ desired_at b (rest e b f) i (omega arith)

pub ascending_proper : (b : Body) → Ascending b → 0 < length b → Proper b
ascending_proper b f l = record { some = l; expected = expected_at b f; desired = desired_at b f }

module _ (n k : ℕ) (b new : Body) (g : BodyFits n k b) where
  pub put_fits : (i : ℕ) (e : Entry) → PutIn i e b new → EntryFits n k e → length new ≤ 4 → BodyFits n k new
  put_fits i e p f l = record {
    size = l;
    entry = λ j h. elim (dec_lt j i) [
      | yes q ↦ rw (p.before j q) (g.entry j (omega (arith, p.place)))
      | no q ↦ elim (ℕ_discrete j i) [ yes z ↦ rw (z, p.here) f | no z ↦ past j h (omega arith) ]
    ];
    ascending = up;
  }
    where
      past : (j : ℕ) → j < length new → i < j → EntryFits n k (entry_at new j)
      past zero h q = absurd (omega arith)
      past (suc j) h q = rw (p.after j (omega arith) (omega (arith, p.size))) (g.entry j (omega (arith, p.size)))

      before : (j : ℕ) → j < i → address_at new j ≡ address_at b j
      before j q = ap (λ (e : Entry). e.address) (p.before j q)

      after : (j : ℕ) → i ≤ j → j < length b → address_at new (suc j) ≡ address_at b j
      after j q h = ap (λ (e : Entry). e.address) (p.after j q h)

      here : address_at new i ≡ e.address
      here = ap (λ (e : Entry). e.address) p.here

      up : (j : ℕ) → suc j < length new → address_at new j < address_at new (suc j)
      up j h = elim (dec_lt (suc j) i) [
        | yes q ↦ rw (before j (omega arith), before (suc j) q) (g.ascending j (omega (arith, p.place)))
        | no q ↦ elim (ℕ_discrete (suc j) i) [
          | yes z ↦ rw (z, here, before j (omega arith)) (p.lower j z)
          | no z ↦ elim (ℕ_discrete j i) [
            | yes y ↦ rw (y, here, after i (omega arith) (omega (arith, p.size))) (p.higher (omega (arith, p.size)))
            | no y ↦ later j h (omega arith)
          ]
        ]
      ]
        where
          later : (j : ℕ) → suc j < length new → i < j → address_at new j < address_at new (suc j)
          later zero h q = absurd (omega arith)
          later (suc j) h q = rw (after j (omega arith) (omega (arith, p.size)), after (suc j) (omega arith) (omega (arith, p.size))) (g.ascending j (omega (arith, p.size)))

  pub take_fits : (i : ℕ) → TakenOut i b new → BodyFits n k new
  take_fits i p = record {
    size = omega (arith, p.size, g.size);
    entry = λ j h. elim (dec_lt j i) [
      | yes q ↦ rw (p.before j q) (g.entry j (omega (arith, p.size)))
      | no q ↦ rw (p.after j (omega arith) h) (g.entry (suc j) (omega (arith, p.size)))
    ];
    ascending = up;
  }
    where
      before : (j : ℕ) → j < i → address_at new j ≡ address_at b j
      before j q = ap (λ (e : Entry). e.address) (p.before j q)

      after : (j : ℕ) → i ≤ j → j < length new → address_at new j ≡ address_at b (suc j)
      after j q h = ap (λ (e : Entry). e.address) (p.after j q h)

      up : (j : ℕ) → suc j < length new → address_at new j < address_at new (suc j)
      up j h = elim (dec_lt (suc j) i) [
        | yes q ↦ rw (before j (omega arith), before (suc j) q) (g.ascending j (omega (arith, p.size)))
        | no q ↦ elim (dec_lt j i) [
          | yes z ↦ rw (before j z, after (suc j) (omega arith) h) (let x = g.ascending j (omega (arith, p.size)) in let y = g.ascending (suc j) (omega (arith, p.size)) in omega arith)
          | no z ↦ rw (after j (omega arith) (omega arith), after (suc j) (omega arith) h) (g.ascending (suc j) (omega (arith, p.size)))
        ]
      ]
