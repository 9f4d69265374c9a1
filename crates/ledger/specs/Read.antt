-- Reading the block and reading its cells agree: the value of a word, and the ledger after an operation.
use Rattle.std.specs.Prelude.{◌≡◌, Bool, true, cond, ◌&&◌, [], ◌∷◌, eqb, ltb}
use Rattle.std.proofs.Math.Path.{refl, sym, ap}
use Rattle.std.proofs.Common.{◌∙◌, arith, eqb-true, None, Option, Some, ℕ}
use Rattle.std.proofs.Math.Bool.{false}
use Prim.Native.Nat.{ℕ, zero, suc, ◌≤◌}
use Rattle.std.proofs.lemmas.Bool.{eqb-false}
use Rattle.word.specs.declared.Sort.{Sort}
use Rattle.word.specs.declared.Sort.TheVariants.{Plain, Pointer, Neither}
use Rattle.steps.specs.declared.Entry.{Entry}
use Rattle.memory.specs.declared.Copy.TheVariants.{Persisted}
use Rattle.memory.specs.Block.{Block}
use Rattle.memory.specs.Content.{word_in, status_in, count_in, entry_in}
use Rattle.memory.specs.Value.{entry_for, succeeded, found_value, sort_value, value_of}
use Rattle.ledger.specs.Statement.{firsts, body_in, desired_or, entered}
use Rattle.ledger.specs.Update.{upd, upd_same, upd_other}
use Rattle.ledger.specs.Cells.{cell_of, Body}
use Rattle.ledger.specs.View.{cells_of}
use Rattle.ledger.specs.Meaning.{expected_of, desired_of, put_all, stands, means}

-- L with g of each entry at its address, the first entry foremost
unfoldable chain : (Entry → ℕ) → Body → (ℕ → ℕ) → ℕ → ℕ
chain g [] L = L
chain g (e ∷ b) L = upd (chain g b L) e.address (g e)

put_chain : (b : Body) (L : ℕ → ℕ) → put_all b L ≡ chain (λ e. e.desired) b L
unfolding put_all chain
put_chain [] L = refl
put_chain (e ∷ b) L = ap (λ (f : ℕ → ℕ). upd f e.address e.desired) (put_chain b L)

desired_chain : (b : Body) → desired_of b ≡ chain (λ e. e.desired) b (λ a. 0)
unfolding desired_of chain
desired_chain [] = refl
desired_chain (e ∷ b) = ap (λ (f : ℕ → ℕ). upd f e.address e.desired) (desired_chain b)

expected_chain : (b : Body) → expected_of b ≡ chain (λ e. e.expected) b (λ a. 0)
unfolding expected_of chain
expected_chain [] = refl
expected_chain (e ∷ b) = ap (λ (f : ℕ → ℕ). upd f e.address e.expected) (expected_chain b)

upd_test : (f : ℕ → ℕ) (x v a : ℕ) → upd f x v a ≡ cond (eqb x a) v (f a)
upd_test f x v a = go (eqb x a) refl
  where
    go : (t : Bool) → eqb x a ≡ t → upd f x v a ≡ cond t v (f a)
    go true e = let z : x ≡ a = eqb-true x a e in rw z (upd_same f a v)
    go false e = upd_other f x v a (λ z. eqb-false x a e (sym z))

-- g of the entry found, or y
abbrev found : (Entry → ℕ) → ℕ → (ℕ → Entry) → Option ℕ → ℕ
found g y f (Some i) = g (f i)
found g y f None = y

found_four : (g : Entry → ℕ) (y : ℕ) (f : ℕ → Entry) (p q r s : Bool)
    → found g y f (cond p (Some 0) (cond q (Some 1) (cond r (Some 2) (cond s (Some 3) None)))) ≡ cond p (g (f 0)) (cond q (g (f 1)) (cond r (g (f 2)) (cond s (g (f 3)) y)))
found_four g y f true q r s = refl
found_four g y f false true r s = refl
found_four g y f false false true s = refl
found_four g y f false false false true = refl
found_four g y f false false false false = refl

module _ (g : Entry → ℕ) (L : ℕ → ℕ) (a : ℕ) (f : ℕ → Entry) where
  -- entry i stands before what h says
  step : (i : ℕ) (h : ℕ → ℕ) (z : ℕ) → h a ≡ z → upd h (f i).address (g (f i)) a ≡ cond (eqb (f i).address a) (g (f i)) z
  step i h z e = upd_test h (f i).address (g (f i)) a ∙ ap (λ (y : ℕ). cond (eqb (f i).address a) (g (f i)) y) e

  at : ℕ → ℕ → Bool
  at c i = ltb i c && eqb (f i).address a

  chain_found : (c : ℕ) → c ≤ 4 → chain g (firsts c f) L a ≡ found g (L a) f (cond (at c 0) (Some 0) (cond (at c 1) (Some 1) (cond (at c 2) (Some 2) (cond (at c 3) (Some 3) None))))
  unfolding chain firsts at
  chain_found zero l = refl
  chain_found (suc zero) l = step 0 _ _ refl ∙ sym (found_four g (L a) f (eqb (f 0).address a) false false false)
  chain_found (suc (suc zero)) l = step 0 _ _ (step 1 _ _ refl) ∙ sym (found_four g (L a) f (eqb (f 0).address a) (eqb (f 1).address a) false false)
  chain_found (suc (suc (suc zero))) l = step 0 _ _ (step 1 _ _ (step 2 _ _ refl)) ∙ sym (found_four g (L a) f (eqb (f 0).address a) (eqb (f 1).address a) (eqb (f 2).address a) false)
  chain_found (suc (suc (suc (suc zero)))) l = step 0 _ _ (step 1 _ _ (step 2 _ _ (step 3 _ _ refl))) ∙ sym (found_four g (L a) f (eqb (f 0).address a) (eqb (f 1).address a) (eqb (f 2).address a) (eqb (f 3).address a))
  chain_found (suc (suc (suc (suc (suc c))))) l = absurd (omega arith)

module _ (m : Block) (d : ℕ) (small : count_in Persisted m d ≤ 4) where
  chain_for : (g : Entry → ℕ) (L : ℕ → ℕ) (a : ℕ) → chain g (body_in Persisted m d) L a ≡ found g (L a) (entry_in Persisted m d) (entry_for Persisted m d a)
  unfolding body_in entry_for at
  chain_for g L a = chain_found g L a (entry_in Persisted m d) (count_in Persisted m d) small

  -- the ledger with an operation's desired values, read from the block, is that of the cells
  pub entered_cells : (L : ℕ → ℕ) (a : ℕ) → entered m d L a ≡ put_all (body_in Persisted m d) L a
  unfolding entered
  entered_cells L a = go (entry_for Persisted m d a) ∙ sym (chain_for (λ e. e.desired) L a) ∙ ap (λ (f : ℕ → ℕ). f a) (sym (put_chain (body_in Persisted m d) L))
    where
      go : (o : Option ℕ) → desired_or m d (L a) o ≡ found (λ e. e.desired) (L a) (entry_in Persisted m d) o
      go (Some i) = refl
      go None = refl

  pub stands_cells : (a : ℕ) → found_value m d (entry_for Persisted m d a) ≡ stands (status_in Persisted m d) (body_in Persisted m d) a
  stands_cells a = rw (desired_chain (body_in Persisted m d), expected_chain (body_in Persisted m d), chain_for (λ e. e.desired) (λ a. 0) a, chain_for (λ e. e.expected) (λ a. 0) a)
      (go (entry_for Persisted m d a) (succeeded (status_in Persisted m d)) refl)
    where
      go : (o : Option ℕ) (t : Bool) → succeeded (status_in Persisted m d) ≡ t
          → found_value m d o ≡ cond (succeeded (status_in Persisted m d)) (found (λ e. e.desired) 0 (entry_in Persisted m d) o) (found (λ e. e.expected) 0 (entry_in Persisted m d) o)
      go (Some i) t e = refl
      go None true e = rw e
      go None false e = rw e

-- the value of a word is what its persisted cell means
pub value_cells : (m : Block) → ((d : ℕ) → count_in Persisted m d ≤ 4) → (a : ℕ) → value_of m a ≡ means (cells_of m) a (cell_of (word_in Persisted m a))
unfolding value_of
value_cells m small a = go (word_in Persisted m a)
  where
    go : (s : Sort) → sort_value m a s ≡ means (cells_of m) a (cell_of s)
    go (Plain v dirty) = refl
    go (Pointer d dirty) = stands_cells m d (small d) a
    go (Neither w) = refl
