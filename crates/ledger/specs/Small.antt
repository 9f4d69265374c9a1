-- Every number of a word, of a status and of a body, in both copies and past a body's count, is below 2^64 in a fresh memory, and each event keeps it so: what
-- is stored is such a number, and what is written back or copied was one.
use Rattle.std.specs.Prelude.{◌≡◌, Bool, cond, ℕ, zero, suc, ◌+◌, ◌-◌, ◌*◌, ◌<◌, ◌^◌, eqb}
use Rattle.std.proofs.Math.Path.{refl}
use Rattle.std.proofs.Common.{ap, arith, None, Option, Some}
use Rattle.std.proofs.Math.Bool.{true, false}
use Rattle.std.proofs.Math.Dec.{ltb}
use borrow.Author.Tests.{eqb-true, eqb-false, ltb-true, ltb-false}
use Rattle.word.specs.declared.Sort.TheVariants.{Plain, Pointer, Neither}
use Rattle.word.specs.declared.Outcome.TheVariants.{Succeeded, Failed}
use Rattle.word.specs.declared.Status.{Status}
use Rattle.word.specs.declared.Status.TheVariants.{Free, Undecided, Decided, Bad}
use Rattle.word.specs.Word.{word_number}
use Rattle.word.specs.Status.{status_number}
use Rattle.word.specs.StatusLaws.{Good}
use Rattle.steps.specs.declared.Entry.{Entry}
use Rattle.steps.specs.declared.Worker.{Worker}
use Rattle.steps.specs.declared.RecoveryPlace.{RecoveryPlace}
use Rattle.steps.specs.declared.RecoveryPlace.TheVariants.{At}
use Rattle.steps.specs.declared.Effect.{Effect}
use Rattle.steps.specs.declared.Effect.TheVariants.{Nothing, StoreWord, BackWord, StoreStatus, BackStatus, BackBody}
use Rattle.codes.specs.Row.{row_of}
use Rattle.memory.specs.declared.Copy.{Copy}
use Rattle.memory.specs.declared.Copy.TheVariants.{Cached, Persisted}
use Rattle.memory.specs.Block.{Block, Field, nowhere, slot, get, put}
use Rattle.memory.specs.Block.Field.{word, status, body, worker, size, recovery}
use Rattle.memory.specs.Content.{count_in, entry_in, put_entry, cleared_to, back_body, crash_copied, idled, put_worker, put_recovery}
use Rattle.memory.specs.Fresh.{fresh_block}
use Rattle.memory.specs.Fields.{Whole, apart, whole_put, get_put, get_other, put_nowhere}
use Rattle.memory.specs.StoreLaws.{cleared_whole, entry_whole, row_other, recovery_other, idled_other}
use Rattle.memory.specs.CopyLaws.{body_backed, body_back_other, crash_copy_other}
use Rattle.memory.specs.FreshLaws.{fresh_zero}
use Rattle.events.specs.Build.{added, inserted, no_entry, moved_down, removed_entry, removed_at}
use Rattle.machine.specs.Step.{performed}
use Rattle.machine.specs.Whole.{inserted_whole, moved_whole}
use Rattle.machine.specs.Recover.{crashed}
use Rattle.image.specs.OfMemory.{Fits}
use Rattle.image.specs.Machine.{crash_begins}
use Rattle.ledger.specs.Update.{clash}
use Rattle.ledger.specs.View.{past_body}
use Rattle.ledger.specs.Fits.{EffectFits}

-- a number of a word, of a status, of a body
abbrev pub Held : Field → Type 0
Held (word c a) = Unit {0}
Held (status c d) = Unit {0}
Held (body c d j) = Unit {0}
Held (worker w j) = ⊥
Held (size j) = ⊥
Held (recovery j) = ⊥

abbrev pub Small : Block → Type 0
Small m = (f : Field) → Held f → get m f < 2 ^ 64

pub small_fits : (c : Copy) (m : Block) → Small m → Fits c m
small_fits c m s = record { words = λ a. s (word c a) tt; statuses = λ d. s (status c d) tt; bodies = λ d j. s (body c d j) tt }

no-worker : (f : Field) → Held f → (w j : ℕ) → worker w j ≡ f → ⊥
no-worker (word c a) q w j e = clash (cc)
no-worker (status c d) q w j e = clash (cc)
no-worker (body c d i) q w j e = clash (cc)
no-worker (worker v i) q w j e = absurd q
no-worker (size i) q w j e = absurd q
no-worker (recovery i) q w j e = absurd q

no_size : (f : Field) → Held f → (j : ℕ) → size j ≡ f → ⊥
no_size (word c a) q j e = clash (cc)
no_size (status c d) q j e = clash (cc)
no_size (body c d i) q j e = clash (cc)
no_size (worker v i) q j e = absurd q
no_size (size i) q j e = absurd q
no_size (recovery i) q j e = absurd q

no_place : (f : Field) → Held f → (j : ℕ) → recovery j ≡ f → ⊥
no_place (word c a) q j e = clash (cc)
no_place (status c d) q j e = clash (cc)
no_place (body c d i) q j e = clash (cc)
no_place (worker v i) q j e = absurd q
no_place (size i) q j e = absurd q
no_place (recovery i) q j e = absurd q

-- a fresh memory
pub fresh_small : (n k w : ℕ) → Small (fresh_block n k w)
fresh_small n k w f q = rw (fresh_zero n k w f (no_size f q)) (omega arith)

-- the three numbers of an entry
pub record EntrySmall (e : Entry) : Type 0 where
  pub address : e.address < 2 ^ 64
  pub expected : e.expected < 2 ^ 64
  pub desired : e.desired < 2 ^ 64

either_small : (t : Bool) (x y : Block) → Small x → Small y → Small (cond t x y)
either_small true x y h k = h
either_small false x y h k = k

module _ (m : Block) (s : Small m) where
  -- a worker, or recovery's place, is stored
  pub worker_small : (w : ℕ) (x : Worker) → Small (put_worker m w x)
  worker_small w x f q = rw (row_other m w (row_of x) f (λ j l. no-worker f q w j)) (s f q)

  pub place_small : (p : RecoveryPlace) → Small (put_recovery m p)
  place_small p f q = rw (recovery_other m p f (no_place f q)) (s f q)

  entry_read : (d i : ℕ) → EntrySmall (entry_in Cached m d i)
  unfolding entry_in
  entry_read d i = record { address = s (body Cached d (1 + 3 * i)) tt; expected = s (body Cached d (2 + 3 * i)) tt; desired = s (body Cached d (3 + 3 * i)) tt }

  module _ (h : Whole m) where
    -- one number is stored
    put_small : (f : Field) (v : ℕ) → v < 2 ^ 64 → Small (put m f v)
    put_small f v l g q = go (eqb (slot f) (slot g)) (ltb (slot f) nowhere) refl refl
      where
        go : (t u : Bool) → eqb (slot f) (slot g) ≡ t → ltb (slot f) nowhere ≡ u → get (put m f v) g < 2 ^ 64
        go true true e r = let z : f ≡ g = apart f g (ltb-true _ _ r) (eqb-true _ _ e) in rw (← z, get_put m f v h (ltb-true _ _ r)) l
        go true false e r = rw (put_nowhere m f (ltb-false _ _ r) v) (s g q)
        go false u e r = rw (get_other m f v g (λ z. eqb-false _ _ e (ap slot z))) (s g q)

    -- a body is written back
    back_small : (d : ℕ) → d < 16 → Small (back_body m d)
    back_small d l (word c a) q = rw (body_back_other m d (word c a) (λ j e. clash (cc))) (s (word c a) tt)
    back_small d l (status c e) q = rw (body_back_other m d (status c e) (λ j e. clash (cc))) (s (status c e) tt)
    back_small d l (body Cached e i) q = rw (body_back_other m d (body Cached e i) (λ j z. clash (cc))) (s (body Cached e i) tt)
    back_small d l (body Persisted e i) q = go (eqb d e) (ltb i 13) refl refl
      where
        go : (t u : Bool) → eqb d e ≡ t → ltb i 13 ≡ u → get (back_body m d) (body Persisted e i) < 2 ^ 64
        go true true p r = rw (← eqb-true d e p, body_backed m d i h l (ltb-true i 13 r)) (s (body Cached d i) tt)
        go true false p r = rw (past_body (back_body m d) Persisted e i (ltb-false i 13 r)) (omega arith)
        go false u p r = rw (body_back_other m d (body Persisted e i) (λ j z. eqb-false d e p (cc))) (s (body Persisted e i) tt)
    back_small d l (worker w j) q = absurd q
    back_small d l (size j) q = absurd q
    back_small d l (recovery j) q = absurd q

    -- a crash
    crash_same : (f : Field) → Held f → ((a : ℕ) → word Cached a ≡ f → ⊥) → ((d : ℕ) → status Cached d ≡ f → ⊥) → ((d j : ℕ) → body Cached d j ≡ f → ⊥) → get (crashed m) f < 2 ^ 64
    unfolding crashed
    crash_same f q p r t = rw (recovery_other (idled (crash_copied m) 8) (At 0 0) f (no_place f q), idled_other (crash_copied m) 8 f (no-worker f q), crash_copy_other m f p r t) (s f q)

    pub crash_small : Small (crashed m)
    crash_small (word Cached a) q = (crash_begins m h (small_fits Persisted m s)).fits.words a
    crash_small (word Persisted a) q = crash_same (word Persisted a) tt (λ b e. clash (cc)) (λ d e. clash (cc)) (λ d j e. clash (cc))
    crash_small (status Cached d) q = (crash_begins m h (small_fits Persisted m s)).fits.statuses d
    crash_small (status Persisted d) q = crash_same (status Persisted d) tt (λ b e. clash (cc)) (λ d e. clash (cc)) (λ d j e. clash (cc))
    crash_small (body Cached d j) q = (crash_begins m h (small_fits Persisted m s)).fits.bodies d j
    crash_small (body Persisted d j) q = crash_same (body Persisted d j) tt (λ b e. clash (cc)) (λ d e. clash (cc)) (λ d j e. clash (cc))
    crash_small (worker w j) q = absurd q
    crash_small (size j) q = absurd q
    crash_small (recovery j) q = absurd q

    -- the effect of a step
    pub performed_small : (n k d : ℕ) → d < 16 → (e : Effect) → EffectFits n k e → Small (performed m d e)
    performed_small n k d l Nothing f = s
    performed_small n k d l (StoreWord a (Plain v true)) f = put_small (word Cached a) (word_number (Plain v true)) (omega arith)
    performed_small n k d l (StoreWord a (Plain v false)) f = put_small (word Cached a) (word_number (Plain v false)) (omega arith)
    performed_small n k d l (StoreWord a (Pointer e true)) f = put_small (word Cached a) (word_number (Pointer e true)) (omega arith)
    performed_small n k d l (StoreWord a (Pointer e false)) f = put_small (word Cached a) (word_number (Pointer e false)) (omega arith)
    performed_small n k d l (StoreWord a (Neither x)) f = absurd f.1
    performed_small n k d l (BackWord a) f = put_small (word Persisted a) (get m (word Cached a)) (s (word Cached a) tt)
    performed_small n k d l (StoreStatus x) f = put_small (status Cached d) (status_number x) (number x f)
      where
        number : (x : Status) → Good x → status_number x < 2 ^ 64
        number Free g = omega arith
        number Undecided g = omega arith
        number (Decided Succeeded true) g = omega arith
        number (Decided Succeeded false) g = omega arith
        number (Decided Failed true) g = omega arith
        number (Decided Failed false) g = omega arith
        number (Bad y) g = absurd g
    performed_small n k d l BackStatus f = put_small (status Persisted d) (get m (status Cached d)) (s (status Cached d) tt)
    performed_small n k d l BackBody f = back_small d l

-- an entry is stored; a body becomes zeros; entries move up, and down
entry_small : (m : Block) → Small m → Whole m → (d i : ℕ) (e : Entry) → EntrySmall e → Small (put_entry m d i e)
entry_small m s h d i e f =
    let a = body Cached d (1 + 3 * i) in
    let b = body Cached d (2 + 3 * i) in
    let x = put m a e.address in
    let y = put x b e.expected in
    let hx = whole_put m a e.address h in
    put_small y (put_small x (put_small m s h a e.address f.address) hx b e.expected f.expected) (whole_put x b e.expected hx) (body Cached d (3 + 3 * i)) e.desired f.desired

pub cleared_small : (n : ℕ) (m : Block) (d : ℕ) → Small m → Whole m → Small (cleared_to n m d)
unfolding cleared_to
cleared_small zero m d s h = s
cleared_small (suc n) m d s h = put_small (cleared_to n m d) (cleared_small n m d s h) (cleared_whole m d n h) (body Cached d n) 0 (omega arith)

inserted_small : (i : ℕ) (m : Block) (d : ℕ) (e : Entry) → Small m → Whole m → EntrySmall e → Small (inserted i m d e)
unfolding inserted
inserted_small zero m d e s h f = entry_small m s h d 0 e f
inserted_small (suc i) m d e s h f = either_small (ltb e.address (entry_in Cached m d i).address) _ _
    (inserted_small i (put_entry m d (suc i) (entry_in Cached m d i)) d e (entry_small m s h d (suc i) (entry_in Cached m d i) (entry_read m s d i)) (entry_whole m d (suc i) (entry_in Cached m d i) h) f)
    (entry_small m s h d (suc i) e f)

moved_small : (i : ℕ) (m : Block) (d j : ℕ) → Small m → Whole m → Small (moved_down i m d j)
unfolding moved_down
moved_small zero m d j s h = entry_small m s h d j no_entry (record { address = omega arith; expected = omega arith; desired = omega arith })
moved_small (suc i) m d j s h = moved_small i (put_entry m d j (entry_in Cached m d (suc j))) d (suc j) (entry_small m s h d j (entry_in Cached m d (suc j)) (entry_read m s d (suc j))) (entry_whole m d j (entry_in Cached m d (suc j)) h)

-- 02 and 03
module _ (m : Block) (s : Small m) (h : Whole m) where
  pub added_small : (d : ℕ) (e : Entry) → EntrySmall e → Small (added m d e)
  unfolding added
  added_small d e f = go (ltb (count_in Cached m d) 4) refl
    where
      go : (t : Bool) → ltb (count_in Cached m d) 4 ≡ t → Small (cond t (put (inserted (count_in Cached m d) m d e) (body Cached d 0) (count_in Cached m d + 1)) m)
      go true q = let l = ltb-true (count_in Cached m d) 4 q in
          put_small (inserted (count_in Cached m d) m d e) (inserted_small (count_in Cached m d) m d e s h f) (inserted_whole (count_in Cached m d) m d e h) (body Cached d 0) (count_in Cached m d + 1) (omega arith)
      go false q = s

  pub removed_small : (d : ℕ) (f : Option ℕ) → Small (removed_at m d f)
  unfolding removed_entry
  removed_small d None = s
  removed_small d (Some i) = either_small (ltb i (count_in Cached m d)) _ m
      (let c = s (body Cached d 0) tt in put_small (moved_down (count_in Cached m d - 1 - i) m d i) (moved_small (count_in Cached m d - 1 - i) m d i s h) (moved_whole (count_in Cached m d - 1 - i) m d i h) (body Cached d 0) (count_in Cached m d - 1) (omega arith))
      s
