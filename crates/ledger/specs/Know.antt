-- What a worker knows at each place of an operation d with the body b; it stays true while others take rules.
use Rattle.std.specs.Prelude.{◌≡◌, ◌≢◌, ℕ, suc, ◌≤◌, ◌<◌, length}
use Rattle.std.proofs.Common.{◌∙◌, arith}
use Rattle.std.proofs.Math.Decide.{ℕ_discrete}
use Rattle.word.specs.declared.Outcome.{Outcome}
use Rattle.word.specs.declared.Outcome.TheVariants.{Succeeded, Failed}
use Rattle.word.specs.declared.Status.TheVariants.{Free, Undecided}
use Rattle.steps.specs.declared.Place.{Place}
use Rattle.steps.specs.declared.Place.TheVariants.{BackBody, StoreUndecided, BackUndecided, Install, InstallClear, Persist, PersistClear, Decide, Settle, SettleClear, Swap, SwapBack, SwapClear, StoreFree, BackFree}
use Rattle.memory.specs.declared.Copy.{Copy}
use Rattle.memory.specs.declared.Copy.TheVariants.{Cached, Persisted}
use Rattle.ledger.specs.Update.{clash}
use Rattle.ledger.specs.Cells.{Belongs, Body, Cells}
use Rattle.ledger.specs.Seen.{entry_at, address_at}
use Rattle.ledger.specs.Meaning.{expected_of, desired_of}
use Rattle.ledger.specs.Rely.{Rely, Is}

-- P at the addresses of the first i entries
abbrev pub Upto : Body → ℕ → (ℕ → Type 0) → Type 0
Upto b i P = (j : ℕ) → j < i → P (address_at b j)

pub upto_suc : (b : Body) (i : ℕ) (P : ℕ → Type 0) → Upto b i P → P (address_at b i) → Upto b (suc i) P
upto_suc b i P u n j h = elim (ℕ_discrete j i) [ yes e ↦ rw e n | no q ↦ u j (omega arith) ]

-- the body has an entry, and no address twice
pub record Proper (b : Body) : Type 0 where
  pub some : 0 < length b
  pub expected : (i : ℕ) → i < length b → expected_of b (address_at b i) ≡ (entry_at b i).expected
  pub desired : (i : ℕ) → i < length b → desired_of b (address_at b i) ≡ (entry_at b i).desired

-- d is live, with the body b, in both copies
pub record Job (M : Cells) (b : Body) (d : ℕ) : Type 0 where
  pub live : (c : Copy) → M.status c d ≢ Free
  pub body : (c : Copy) → M.body c d ≡ b

-- decided, alike in both copies
abbrev pub Settled : Cells → ℕ → Type 0
Settled M d = (o : Outcome) × Is o (M.status Cached d) × Is o (M.status Persisted d)

-- while d is undecided, the words of the first i entries belong to it, of the first j in persisted memory too
pub record Installed (M : Cells) (b : Body) (d i j : ℕ) : Type 0 where
  pub cached : M.status Cached d ≡ Undecided → Upto b i (λ a. Belongs d (M.word Cached a))
  pub persisted : M.status Cached d ≡ Undecided → Upto b j (λ a. Belongs d (M.word Persisted a))
  pub order : j ≤ i

-- d is decided in both copies; the words of the first i entries no longer belong to it, of the first j in persisted memory neither
pub record Removed (M : Cells) (b : Body) (d i j : ℕ) : Type 0 where
  pub both : Settled M d
  pub cached : Upto b i (λ a. ¬ (Belongs d (M.word Cached a)))
  pub persisted : Upto b j (λ a. ¬ (Belongs d (M.word Persisted a)))
  pub order : j ≤ i

-- at each place that owner and helpers come to, and at the owner's StoreFree
abbrev pub Knows : Cells → Body → ℕ → Type 0 → Place → Type 0
Knows M b d Differed BackBody = ⊥
Knows M b d Differed StoreUndecided = ⊥
Knows M b d Differed BackUndecided = ⊥
Knows M b d Differed (Install i) = Installed M b d i 0 × (i < length b)
Knows M b d Differed (InstallClear i v) = Installed M b d i 0 × (i < length b)
Knows M b d Differed (Persist i) = Installed M b d (length b) i × (i < length b)
Knows M b d Differed (PersistClear i) = Installed M b d (length b) (suc i) × (i < length b)
Knows M b d Differed (Decide Succeeded) = Installed M b d (length b) (length b)
Knows M b d Differed (Decide Failed) = Differed
Knows M b d Differed Settle = (o : Outcome) × Is o (M.status Cached d)
Knows M b d Differed SettleClear = Settled M d
Knows M b d Differed (Swap i) = Removed M b d i i × (i < length b)
Knows M b d Differed (SwapBack i) = Removed M b d (suc i) i × (i < length b)
Knows M b d Differed (SwapClear i) = Removed M b d (suc i) (suc i) × (i < length b)
Knows M b d Differed StoreFree = Removed M b d (length b) (length b)
Knows M b d Differed (BackFree o) = ⊥

-- a place that owner and helpers come to
pub data Shared : Place → Type 0 where
  at_install : (i : ℕ) → Shared (Install i)
  at_install_clear : (i v : ℕ) → Shared (InstallClear i v)
  at_persist : (i : ℕ) → Shared (Persist i)
  at_persist_clear : (i : ℕ) → Shared (PersistClear i)
  at_decide : (o : Outcome) → Shared (Decide o)
  at_settle : Shared Settle
  at_settle_clear : Shared SettleClear
  at_swap : (i : ℕ) → Shared (Swap i)
  at_swap_back : (i : ℕ) → Shared (SwapBack i)
  at_swap_clear : (i : ℕ) → Shared (SwapClear i)

module _ {M new : Cells} {d : ℕ} (R : Rely d M new) where
  pub job_stable : {b : Body} → Job M b d → Job new b d
  job_stable j = record { live = lives; body = λ c. R.body c ∙ j.body c }
    where
      lives : (c : Copy) → new.status c d ≢ Free
      lives Cached = R.live
      lives Persisted = R.persisted (j.live Persisted)

  pub settled_stable : Settled M d → Settled new d
  settled_stable t = (t.0, R.decided t.0 t.1, R.settled t.0 t.1 t.2)

  pub installed_stable : {b : Body} {i j : ℕ} → Installed M b d i j → Installed new b d i j
  installed_stable s = record {
    cached = λ u x h. R.installed Cached _ u (s.cached (R.undecided u) x h) (s.cached (R.undecided u) x h);
    persisted = λ u x h. R.installed Persisted _ u (s.cached (R.undecided u) x (omega (arith, s.order))) (s.persisted (R.undecided u) x h);
    order = s.order;
  }

  pub removed_stable : {b : Body} {i j : ℕ} → Removed M b d i j → Removed new b d i j
  removed_stable s = record {
    both = settled_stable s.both;
    cached = λ x h. R.removed Cached _ over (s.cached x h) (s.cached x h);
    persisted = λ x h. R.removed Persisted _ over (s.cached x (omega (arith, s.order))) (s.persisted x h);
    order = s.order;
  }
    where
      over : M.status Cached d ≢ Undecided
      over e = let h = s.both.1.1 in clash (cc)

  pub know_stable : (b : Body) (D D' : Type 0) → (D → D') → (p : Place) → Knows M b d D p → Knows new b d D' p
  know_stable b D D' f BackBody k = k
  know_stable b D D' f StoreUndecided k = k
  know_stable b D D' f BackUndecided k = k
  know_stable b D D' f (Install i) k = (installed_stable k.0, k.1)
  know_stable b D D' f (InstallClear i v) k = (installed_stable k.0, k.1)
  know_stable b D D' f (Persist i) k = (installed_stable k.0, k.1)
  know_stable b D D' f (PersistClear i) k = (installed_stable k.0, k.1)
  know_stable b D D' f (Decide Succeeded) k = installed_stable k
  know_stable b D D' f (Decide Failed) k = f k
  know_stable b D D' f Settle k = (k.0, R.decided k.0 k.1)
  know_stable b D D' f SettleClear k = settled_stable k
  know_stable b D D' f (Swap i) k = (removed_stable k.0, k.1)
  know_stable b D D' f (SwapBack i) k = (removed_stable k.0, k.1)
  know_stable b D D' f (SwapClear i) k = (removed_stable k.0, k.1)
  know_stable b D D' f StoreFree k = removed_stable k
  know_stable b D D' f (BackFree o) k = k
