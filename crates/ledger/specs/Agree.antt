-- The invariant of memory against the ledger.
use Rattle.std.specs.Prelude.{◌≡◌, refl, ◌≢◌, Bool, true, false, ℕ}
use Rattle.word.specs.declared.Outcome.{Outcome}
use Rattle.word.specs.declared.Outcome.TheVariants.{Succeeded, Failed}
use Rattle.word.specs.declared.Status.{Status}
use Rattle.word.specs.declared.Status.TheVariants.{Free, Undecided, Decided}
use Rattle.memory.specs.declared.Copy.{Copy}
use Rattle.memory.specs.declared.Copy.TheVariants.{Cached, Persisted}
use Rattle.memory.specs.Value.{succeeded}
use Rattle.ledger.specs.Update.{clash}
use Rattle.ledger.specs.Cells.{Cell, Belongs, Cells}
use Rattle.ledger.specs.Meaning.{Has, means}

-- a cell at a belongs only to a descriptor that is live in persisted memory and has the address
abbrev pub Live : Cells → ℕ → Cell → Type 0
Live M a x = (d : ℕ) → Belongs d x → (M.status Persisted d ≢ Free) × Has (M.body Persisted d) a

-- every entry's word belongs to d, in both copies; no word does, in either copy
abbrev pub AllBelong : Cells → ℕ → Type 0
AllBelong M d = (c : Copy) (a : ℕ) → Has (M.body Persisted d) a → Belongs d (M.word c a)

abbrev pub NoneBelongs : Cells → ℕ → Type 0
NoneBelongs M d = (c : Copy) (a : ℕ) → ¬ (Belongs d (M.word c a))

-- what the cached and the persisted status of a descriptor may be together
pub data Pair (all none : Type 0) : Status → Status → Type 0 where
  equal : (s : Status) → Pair all none s s
  -- in step 1, between its store and its write-back
  begun : Pair all none Undecided Free
  -- decided and not yet persisted, so dirty; Succeeded only where every word is in place
  decided : (o : Outcome) → (o ≡ Succeeded → all) → Pair all none (Decided o true) Undecided
  -- decided in both copies, alike
  settled : (o : Outcome) (x y : Bool) → Pair all none (Decided o x) (Decided o y)
  -- Free stored, once no word belongs to it
  freed : (s : Status) → none → Pair all none Free s

-- L: the ledger. In: the operation of this descriptor is in the ledger. Differed: since its submission the ledger has differed from one of its expected values.
pub record Agrees (M : Cells) (L : ℕ → ℕ) (In : ℕ → Bool) (Differed : ℕ → Type 0) : Type 0 where
  -- every word, in either copy, means what the ledger holds
  pub value : (c : Copy) (a : ℕ) → means M a (M.word c a) ≡ L a
  pub live : (c : Copy) (a : ℕ) → Live M a (M.word c a)
  pub pair : (d : ℕ) → Pair (AllBelong M d) (NoneBelongs M d) (M.status Cached d) (M.status Persisted d)
  -- a descriptor that is live in a copy has the same body in both
  pub body : (c : Copy) (d : ℕ) → M.status c d ≢ Free → M.body Cached d ≡ M.body Persisted d
  pub failed : (c : Copy) (d : ℕ) (x : Bool) → M.status c d ≡ Decided Failed x → Differed d
  -- of a live descriptor, it is in the ledger exactly if its persisted status is Succeeded; an undecided one is not
  pub entered : (d : ℕ) → M.status Persisted d ≢ Free → In d ≡ succeeded (M.status Persisted d)
  pub waiting : (d : ℕ) → M.status Cached d ≡ Undecided → In d ≡ false

-- reading the table
module _ {all none : Type 0} where
  pub pair_map : {all' none' : Type 0} {c p : Status} → (c ≡ Decided Succeeded true → p ≡ Undecided → all → all') → (c ≡ Free → none → none')
      → Pair all none c p → Pair all' none' c p
  pair_map f h (equal s) = equal s
  pair_map f h begun = begun
  pair_map f h (decided o p) = decided o (λ e. f (rw e) refl (p e))
  pair_map f h (settled o x y) = settled o x y
  pair_map f h (freed s q) = freed s (h refl q)

  -- the persisted status of a live descriptor, by its cached one
  pub cached_undecided : {c p : Status} → Pair all none c p → c ≡ Undecided → p ≢ Free → p ≡ Undecided
  cached_undecided (equal s) e l = e
  cached_undecided begun e l = absurd (l refl)
  cached_undecided (decided o p) e l = refl
  cached_undecided (settled o x y) e l = clash (cc)
  cached_undecided (freed s q) e l = clash (cc)

  pub cached_clean : {c p : Status} → Pair all none c p → (o : Outcome) → c ≡ Decided o false → (y : Bool) × (p ≡ Decided o y)
  cached_clean (equal s) o e = (false, e)
  cached_clean begun o e = clash (cc)
  cached_clean (decided q p) o e = clash (cc)
  cached_clean (settled q x y) o e = (y, cc)
  cached_clean (freed s q) o e = clash (cc)

  pub cached_free : {c p : Status} → Pair all none c p → c ≡ Free → p ≢ Free → none
  cached_free (equal s) e l = absurd (l e)
  cached_free begun e l = clash (cc)
  cached_free (decided q p) e l = clash (cc)
  cached_free (settled q x y) e l = clash (cc)
  cached_free (freed s q) e l = q
