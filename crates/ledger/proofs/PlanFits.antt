-- Every plan of an operation, of a read and of recovery has an effect that fits, and leads to a descriptor below k.
use Rattle.std.specs.Prelude.{◌≡◌, refl, Bool, ◌&&◌, ℕ, suc, ◌<◌, ◌^◌, ◌/◌, ◌%◌, eqb, ltb, length}
use Rattle.std.proofs.Common.{subst, arith, eqb-true, None, Option, Some}
use Rattle.std.proofs.Math.Bool.{true, false}
use Rattle.word.specs.declared.Sort.{Sort}
use Rattle.word.specs.declared.Sort.TheVariants.{Plain, Pointer, Neither}
use Rattle.word.specs.declared.Outcome.{Outcome}
use Rattle.word.specs.declared.Outcome.TheVariants.{Succeeded, Failed}
use Rattle.word.specs.declared.Status.{Status}
use Rattle.word.specs.declared.Status.TheVariants.{Free, Undecided, Decided, Bad}
use Rattle.word.specs.Status.{status_cleared}
use Rattle.word.specs.StatusLaws.{Good}
use Rattle.steps.specs.declared.Place.{Place}
use Rattle.steps.specs.declared.Place.TheVariants.{BackBody, StoreUndecided, BackUndecided, Install, InstallClear, Persist, PersistClear, Decide, Settle, SettleClear, Swap, SwapBack, SwapClear, StoreFree, BackFree}
use Rattle.steps.specs.declared.Entry.{Entry}
use Rattle.steps.specs.declared.Seen.{Seen}
use Rattle.steps.specs.declared.Next.{Next}
use Rattle.steps.specs.declared.Next.TheVariants.{Go, Help, Over, Wait, Answer}
use Rattle.steps.specs.declared.ReadNext.{ReadNext}
use Rattle.steps.specs.declared.ReadNext.TheVariants.{Meet, Clear, Value}
use Rattle.steps.specs.declared.Plan.{Plan}
use Rattle.steps.specs.Plan.{points_to, is_dirty_pointer, is_dirty_plain, left_value, chosen, outcome_of, store_if, is_free}
use Rattle.codes.specs.Place.{place_entry}
use Rattle.memory.specs.declared.Copy.{Copy}
use Rattle.memory.specs.declared.Copy.TheVariants.{Cached}
use Rattle.events.specs.First.{and_first, and_second}
use Rattle.ledger.specs.Rules.{more_of, installed, install_word, install_by, install, install_clear, persisted, persist_clear, decide, settle, swap, swapped, swap_clear, store_free, plan_of, read_plan, read_clear_plan, entry_step, end_step, live_step, recovery_plan}
use Rattle.ledger.specs.Cond.{cond_if, cond_both}
use Rattle.ledger.specs.Cells.{cell_of, Cells}
use Rattle.ledger.specs.Seen.{Sees}
use Rattle.ledger.specs.Fits.{CellFits, EntryFits, CellsFit, EffectFits}

-- the entry that a place is at is below the count
abbrev pub Placed : Place → ℕ → Type 0
Placed BackBody c = Unit {0}
Placed StoreUndecided c = Unit {0}
Placed BackUndecided c = Unit {0}
Placed (Install i) c = i < c
Placed (InstallClear i v) c = i < c
Placed (Persist i) c = i < c
Placed (PersistClear i) c = i < c
Placed (Decide o) c = Unit {0}
Placed Settle c = Unit {0}
Placed SettleClear c = Unit {0}
Placed (Swap i) c = i < c
Placed (SwapBack i) c = i < c
Placed (SwapClear i) c = i < c
Placed StoreFree c = Unit {0}
Placed (BackFree o) c = Unit {0}

abbrev pub NextFits : ℕ → Next → Type 0
NextFits k (Go p) = Unit {0}
NextFits k (Help e) = e < k
NextFits k Over = Unit {0}
NextFits k Wait = Unit {0}
NextFits k (Answer o) = Unit {0}

abbrev pub ReadNextFits : ℕ → ReadNext → Type 0
ReadNextFits k (Meet e) = e < k
ReadNextFits k (Clear v) = Unit {0}
ReadNextFits k (Value v) = Unit {0}

-- what the tests of a word say of its cell
pub dirty_plain : (s : Sort) (v : ℕ) → is_dirty_plain s v ≡ true → s ≡ Plain v true
dirty_plain (Plain x dirty) v e = rw (eqb-true x v (and_second dirty (eqb x v) e), and_first dirty (eqb x v) e)
dirty_plain (Pointer d dirty) v e = let z : ◌≡◌ {A = Bool} false true = e in cc
dirty_plain (Neither w) v e = let z : ◌≡◌ {A = Bool} false true = e in cc

pub dirty_pointer : (s : Sort) (d : ℕ) → is_dirty_pointer s d ≡ true → s ≡ Pointer d true
dirty_pointer (Plain x dirty) d e = let z : ◌≡◌ {A = Bool} false true = e in cc
dirty_pointer (Pointer x dirty) d e = rw (eqb-true x d (and_second dirty (eqb x d) e), and_first dirty (eqb x d) e)
dirty_pointer (Neither w) d e = let z : ◌≡◌ {A = Bool} false true = e in cc

module _ (n k : ℕ) where
  abbrev pub PlanFits : Plan Next → Type 0
  PlanFits p = EffectFits n k p.effect × NextFits k p.next

  abbrev pub ReadPlanFits : Plan ReadNext → Type 0
  ReadPlanFits p = EffectFits n k p.effect × ReadNextFits k p.next

  -- a store that is made if a test holds
  store_fits : (t : Bool) (a : ℕ) (s : Sort) → (t ≡ true → (a < n) × CellFits n k (cell_of s)) → EffectFits n k (store_if t a s)
  store_fits true a s h = h refl
  store_fits false a s h = tt

  left_fits : (s : Status) (e : Entry) → EntryFits n k e → left_value s e < 2 ^ 61
  left_fits s e h = go (outcome_of s)
    where
      go : (o : Outcome) → chosen o e < 2 ^ 61
      go Succeeded = h.desired
      go Failed = h.expected

  next_fits : (i c : ℕ) (f : Option ℕ → Next) → ((j : ℕ) → NextFits k (f (Some j))) → NextFits k (f None) → NextFits k (f (more_of i c))
  unfolding more_of
  next_fits i c f a b = cond_if (λ (x : Option ℕ). NextFits k (f x)) (ltb (suc i) c) (Some (suc i)) None (λ _. a (suc i)) (λ _. b)

  module _ (d : ℕ) (dk : d < k) (x : Seen) (word : CellFits n k (cell_of x.word)) where
    -- by the status and the word alone, where the entry is in range
    module _ (entry : EntryFits n k x.entry) where
      word_fits : (s : Sort) → CellFits n k (cell_of s) → (i : ℕ) → PlanFits (install_word i d x s)
      word_fits (Plain v true) h i = (entry.address, tt)
      word_fits (Plain v false) h i = cond_if PlanFits (eqb v x.entry.expected) _ _ (λ _. ((entry.address, dk), next_fits i x.count installed (λ j. tt) tt)) (λ _. (tt, tt))
      word_fits (Pointer e dirty) h i = cond_if PlanFits (eqb e d) _ _ (λ _. (tt, next_fits i x.count installed (λ j. tt) tt)) (λ _. (tt, h))
      word_fits (Neither w) h i = (tt, tt)

      install_fits : (i : ℕ) (s : Status) → PlanFits (install_by i d x s)
      install_fits i Free = (tt, tt)
      install_fits i Undecided = word_fits x.word word i
      install_fits i (Decided o dirty) = (tt, tt)
      install_fits i (Bad y) = (tt, tt)

      plain_fits : (v : ℕ) (dirty : Bool) → is_dirty_plain x.word v ≡ true → (x.entry.address < n) × CellFits n k (cell_of (Plain v dirty))
      plain_fits v dirty e = (entry.address, subst (λ (s : Sort). CellFits n k (cell_of s)) (dirty_plain x.word v e) word)

      clear_fits : (i v : ℕ) → PlanFits (install_clear i v x)
      unfolding install_clear
      clear_fits i v = (store_fits (is_dirty_plain x.word v) x.entry.address (Plain v false) (plain_fits v false), tt)

      persist_fits : (i : ℕ) → PlanFits (persist_clear i d x)
      unfolding persist_clear
      persist_fits i = (store_fits (is_dirty_pointer x.word d) x.entry.address (Pointer d false) (λ _. (entry.address, dk)), next_fits i x.count persisted (λ j. tt) tt)

      swap_fits : (i : ℕ) → PlanFits (swap i d x)
      unfolding swap
      swap_fits i = (store_fits (points_to x.word d) x.entry.address (Plain (left_value x.status x.entry) true) (λ _. (entry.address, left_fits x.status x.entry entry)), tt)

      swap_clear_fits : (i : ℕ) (owner : Bool) → PlanFits (swap_clear i x owner)
      unfolding swap_clear
      swap_clear_fits i owner = (
        store_fits (is_dirty_plain x.word (left_value x.status x.entry)) x.entry.address (Plain (left_value x.status x.entry) false) (plain_fits (left_value x.status x.entry) false),
        next_fits i x.count (swapped owner) (λ j. tt) (end owner),
      )
        where
          end : (t : Bool) → NextFits k (swapped t None)
          end true = tt
          end false = tt

    decide_fits : (o : Outcome) (s : Status) → PlanFits (decide o s)
    decide_fits o Free = (tt, tt)
    decide_fits o Undecided = (tt, tt)
    decide_fits o (Decided q dirty) = (tt, tt)
    decide_fits o (Bad y) = (tt, tt)

    settle_fits : (s : Status) → PlanFits (settle s)
    settle_fits Free = (tt, tt)
    settle_fits Undecided = (tt, tt)
    settle_fits (Decided o true) = (tt, tt)
    settle_fits (Decided o false) = (tt, tt)
    settle_fits (Bad y) = (tt, tt)

    cleared_good : (s : Status) → Good s → Good (status_cleared s)
    cleared_good Free h = tt
    cleared_good Undecided h = tt
    cleared_good (Decided o dirty) h = tt
    cleared_good (Bad y) h = absurd h

    free_fits : (busy : Bool) (s : Status) → PlanFits (store_free busy s)
    free_fits true s = (tt, tt)
    free_fits false s = (tt, tt)

  -- a step of an operation
  module _ (M : Cells) (g : CellsFit n k M) (d : ℕ) (dk : d < k) (p : Place) (x : Seen) (v : Sees M Cached d (place_entry p) x) where
    seen_word : CellFits n k (cell_of x.word)
    seen_word = rw v.word (g.word Cached x.entry.address)

    seen_status : Good x.status
    seen_status = rw v.status (g.status Cached d)

    seen_entry : place_entry p < length (M.body Cached d) → EntryFits n k x.entry
    seen_entry h = rw (v.entry h) ((g.body Cached d).entry (place_entry p) h)

  pub plan_fits : (M : Cells) → CellsFit n k M → (d : ℕ) → d < k → (p : Place) (x : Seen) → Sees M Cached d (place_entry p) x → Placed p (length (M.body Cached d))
      → (busy owner : Bool) → PlanFits (plan_of p d x busy owner)
  unfolding install
  plan_fits M g d dk BackBody x v h busy owner = (tt, tt)
  plan_fits M g d dk StoreUndecided x v h busy owner = (tt, tt)
  plan_fits M g d dk BackUndecided x v h busy owner = (tt, tt)
  plan_fits M g d dk (Install i) x v h busy owner = install_fits d dk x (seen_word M g d dk (Install i) x v) (seen_entry M g d dk (Install i) x v h) i x.status
  plan_fits M g d dk (InstallClear i u) x v h busy owner = clear_fits d dk x (seen_word M g d dk (InstallClear i u) x v) (seen_entry M g d dk (InstallClear i u) x v h) i u
  plan_fits M g d dk (Persist i) x v h busy owner = ((seen_entry M g d dk (Persist i) x v h).address, tt)
  plan_fits M g d dk (PersistClear i) x v h busy owner = persist_fits d dk x (seen_word M g d dk (PersistClear i) x v) (seen_entry M g d dk (PersistClear i) x v h) i
  plan_fits M g d dk (Decide o) x v h busy owner = decide_fits d dk x (seen_word M g d dk (Decide o) x v) o x.status
  plan_fits M g d dk Settle x v h busy owner = settle_fits d dk x (seen_word M g d dk Settle x v) x.status
  plan_fits M g d dk SettleClear x v h busy owner = (cleared_good d dk x (seen_word M g d dk SettleClear x v) x.status (seen_status M g d dk SettleClear x v), tt)
  plan_fits M g d dk (Swap i) x v h busy owner = swap_fits d dk x (seen_word M g d dk (Swap i) x v) (seen_entry M g d dk (Swap i) x v h) i
  plan_fits M g d dk (SwapBack i) x v h busy owner = ((seen_entry M g d dk (SwapBack i) x v h).address, tt)
  plan_fits M g d dk (SwapClear i) x v h busy owner = swap_clear_fits d dk x (seen_word M g d dk (SwapClear i) x v) (seen_entry M g d dk (SwapClear i) x v h) i owner
  plan_fits M g d dk StoreFree x v h busy owner = free_fits d dk x (seen_word M g d dk StoreFree x v) busy x.status
  plan_fits M g d dk (BackFree o) x v h busy owner = (tt, tt)

  -- a step of a read
  module _ (a : ℕ) (an : a < n) where
    pub read_fits : (s : Sort) → CellFits n k (cell_of s) → ReadPlanFits (read_plan a s)
    read_fits (Plain v true) h = (an, tt)
    read_fits (Plain v false) h = (tt, tt)
    read_fits (Pointer e dirty) h = (tt, h)
    read_fits (Neither w) h = (tt, tt)

    pub read_clear_fits : (v : ℕ) (s : Sort) → CellFits n k (cell_of s) → ReadPlanFits (read_clear_plan a v s)
    read_clear_fits v s h = (store_fits (is_dirty_plain s v) a (Plain v false) (λ e. (an, subst (λ (t : Sort). CellFits n k (cell_of t)) (dirty_plain s v e) h)), tt)

  -- a step of recovery
  module _ (M : Cells) (g : CellsFit n k M) (d i : ℕ) (c : Copy) (x : Seen) (v : Sees M c d i x) where
    entry_step_fits : (done : ℕ) → i < length (M.body c d) → EffectFits n k (entry_step d done x).effect
    unfolding entry_step
    entry_step_fits done h = cond_if (λ (r : Plan (Option ℕ)). EffectFits n k r.effect) (eqb (done % 2) 0) _ _
        (λ _. store_fits (points_to x.word d) x.entry.address (Plain (left_value x.status x.entry) false) (λ _. (e.address, left_fits x.status x.entry e)))
        (λ _. e.address)
      where
        e : EntryFits n k x.entry
        e = rw (v.entry h) ((g.body c d).entry i h)

    end_step_fits : (done : ℕ) → EffectFits n k (end_step done).effect
    unfolding end_step
    end_step_fits done = cond_if (λ (r : Plan (Option ℕ)). EffectFits n k r.effect) (eqb (done % 2) 0) _ _ (λ _. tt) (λ _. tt)

    pub recovery_fits : (done : ℕ) → i ≡ done / 2 → EffectFits n k (recovery_plan d done x).effect
    unfolding recovery_plan live_step
    recovery_fits done q = cond_if (λ (r : Plan (Option ℕ)). EffectFits n k r.effect) (eqb done 0 && is_free x.status) _ _ (λ _. tt)
        (λ _. cond_both (λ (r : Plan (Option ℕ)). EffectFits n k r.effect) done 8 (done / 2) _ _ _ (λ _ l. entry_step_fits done (let c = v.count in omega arith)) (λ _. end_step_fits done))
