-- What is in range: words plain or pointers to descriptors below k, statuses never bad; bodies of at most four entries, ascending, for addresses below n and with
-- values below 2^61. (The checks 21 to 24 of an image look at this, and at what pointers point to.) An effect that fits acts on the block as it does on the cells.
use Rattle.std.specs.Prelude.{◌≡◌, refl, ℕ, suc, ◌<◌, ◌≤◌, ◌^◌, length}
use Rattle.std.proofs.Common.{arith}
use Rattle.word.specs.declared.Sort.{Sort}
use Rattle.word.specs.declared.Sort.TheVariants.{Plain, Pointer, Neither}
use Rattle.word.specs.declared.Status.{Status}
use Rattle.word.specs.declared.Status.TheVariants.{Free, Undecided, Decided, Bad}
use Rattle.word.specs.Laws.{Formed}
use Rattle.word.specs.StatusLaws.{StatusFormed, Good}
use Rattle.steps.specs.declared.Entry.{Entry}
use Rattle.steps.specs.declared.Effect.{Effect}
use Rattle.steps.specs.declared.Effect.TheVariants.{Nothing, StoreWord, BackWord, StoreStatus, BackStatus, BackBody}
use Rattle.memory.specs.declared.Copy.{Copy}
use Rattle.memory.specs.declared.Copy.TheVariants.{Cached, Persisted}
use Rattle.memory.specs.Block.{Block}
use Rattle.memory.specs.Fields.{Whole}
use Rattle.machine.specs.Step.{performed}
use Rattle.ledger.specs.Update.{in_frame}
use Rattle.ledger.specs.Cells.{Cell, plain, pointer, neither, cell_of, Body, Cells, applied, with_cells}
use Rattle.ledger.specs.View.{cells_of, view, view_put_word, view_back_word, view_put_status, view_back_status, view_back_body}
use Rattle.ledger.specs.Seen.{entry_at, address_at}

module _ (n k : ℕ) where
  abbrev pub CellFits : Cell → Type 0
  CellFits (plain v) = v < 2 ^ 61
  CellFits (pointer d) = d < k
  CellFits (neither w) = ⊥

  pub record EntryFits (e : Entry) : Type 0 where
    pub address : e.address < n
    pub expected : e.expected < 2 ^ 61
    pub desired : e.desired < 2 ^ 61

  pub record BodyFits (b : Body) : Type 0 where
    pub size : length b ≤ 4
    pub entry : (i : ℕ) → i < length b → EntryFits (entry_at b i)
    pub ascending : (i : ℕ) → suc i < length b → address_at b i < address_at b (suc i)

  pub record CellsFit (M : Cells) : Type 0 where
    pub word : (c : Copy) (a : ℕ) → CellFits (M.word c a)
    pub status : (c : Copy) (d : ℕ) → Good (M.status c d)
    pub body : (c : Copy) (d : ℕ) → BodyFits (M.body c d)

  abbrev pub EffectFits : Effect → Type 0
  EffectFits Nothing = Unit {0}
  EffectFits (StoreWord a s) = (a < n) × CellFits (cell_of s)
  EffectFits (BackWord a) = a < n
  EffectFits (StoreStatus s) = Good s
  EffectFits BackStatus = Unit {0}
  EffectFits BackBody = Unit {0}

  -- an effect that fits leaves cells that fit
  pub fit_applied : (M : Cells) → CellsFit M → (d : ℕ) (e : Effect) → EffectFits e → CellsFit (applied M d e)
  fit_applied M g d Nothing h = g
  fit_applied M g d (StoreWord a s) h = record { word = in_frame (λ c a x. CellFits x) Cached g.word h.1; status = g.status; body = g.body }
  fit_applied M g d (BackWord a) h = record { word = in_frame (λ c a x. CellFits x) Persisted g.word (g.word Cached a); status = g.status; body = g.body }
  fit_applied M g d (StoreStatus s) h = record { word = g.word; status = in_frame (λ c d x. Good x) Cached g.status h; body = g.body }
  fit_applied M g d BackStatus h = record { word = g.word; status = in_frame (λ c d x. Good x) Persisted g.status (g.status Cached d); body = g.body }
  fit_applied M g d BackBody h = record { word = g.word; status = g.status; body = in_frame (λ c d x. BodyFits x) Persisted g.body (g.body Cached d) }

  module _ (nn : n ≤ 64) (kk : k ≤ 16) where
    fit_formed : (s : Sort) → CellFits (cell_of s) → Formed s
    fit_formed (Plain v dirty) h = h
    fit_formed (Pointer d dirty) h = omega arith
    fit_formed (Neither w) h = absurd h

    good_formed : (s : Status) → Good s → StatusFormed s
    good_formed Free h = tt
    good_formed Undecided h = tt
    good_formed (Decided o dirty) h = tt
    good_formed (Bad x) h = absurd h

    -- the block's effect is the cells' effect
    pub view_performed : (m : Block) → Whole m → (d : ℕ) → d < k → (e : Effect) → EffectFits e → view (performed m d e) ≡ with_cells (view m) (applied (cells_of m) d e)
    view_performed m h d l Nothing f = refl
    view_performed m h d l (StoreWord a s) f = view_put_word m h a s (omega (arith, f.0)) (fit_formed s f.1)
    view_performed m h d l (BackWord a) f = view_back_word m h a (omega arith)
    view_performed m h d l (StoreStatus s) f = view_put_status m h d s (omega arith) (good_formed s f)
    view_performed m h d l BackStatus f = view_back_status m h d (omega arith)
    view_performed m h d l BackBody f = view_back_body m h d (omega arith)
