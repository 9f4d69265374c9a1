-- "Every persisted image the machine reaches passes" (document 01, "Images for the C runtime"): at every moment of every history, no check of `image` refuses the
-- image of persisted memory. Not 21 nor 23, as all numbers are in range; not 22, as a descriptor that is live in persisted memory has there the body that was
-- submitted, which was written back before the status was; not 24, as a pointer's descriptor is live in persisted memory and has the address there.
use Rattle.std.specs.Prelude.{◌≡◌, ◌≢◌, Bool, not, ◌&&◌, ◌||◌, List}
use Rattle.std.proofs.Math.Path.{refl}
use Rattle.std.proofs.Common.{sym, ap, ◌∙◌, arith}
use Rattle.std.proofs.Math.Bool.{true, false}
use Prim.Native.Nat.{ℕ, zero, suc, ◌<◌, ◌≤◌, ◌^◌}
use Rattle.std.proofs.Math.Dec.{eqb}
use Rattle.std.proofs.Math.ListN.{length}
use borrow.Author.Tests.{eqb-false, le-leb, lt-leb, lt-ltb}
use Rattle.word.specs.declared.Sort.{Sort}
use Rattle.word.specs.declared.Sort.TheVariants.{Plain, Pointer, Neither}
use Rattle.word.specs.declared.Status.{Status}
use Rattle.word.specs.declared.Status.TheVariants.{Free, Undecided, Decided, Bad}
use Rattle.word.specs.StatusLaws.{Good as GoodStatus}
use Rattle.steps.specs.declared.Entry.{Entry}
use Rattle.steps.specs.Plan.{is_free}
use Rattle.memory.specs.declared.Copy.TheVariants.{Persisted}
use Rattle.memory.specs.Block.{Block}
use Rattle.memory.specs.Content as C
use Rattle.memory.specs.Fresh.{within}
use Rattle.events.specs.First.{and_first, and_second}
use Rattle.image.specs.Layout.{word_of, part_of, count_in, entry_in}
use Rattle.image.specs.Check.{some_below, bad_sizes, is_bad, bad_status, bad_entry, bad_at, bad_body, is_neither, has_within, has_address, bad_target, bad_pointer, bad_pointer_at, image_refusal}
use Rattle.image.specs.CheckLaws.{none_below, below_all}
use Rattle.image.specs.Good.{good_back}
use Rattle.image.specs.OfMemory.{image_of, Fits, image_length, word_read, status_read, count_read, entry_read}
use Rattle.ledger.specs.Statement.{body_in, memory_at}
use Rattle.ledger.specs.Passes.{EveryImagePasses}
use Rattle.ledger.specs.Update.{clash}
use Rattle.ledger.specs.Cells.{cell_of, Body}
use Rattle.ledger.specs.View.{view}
use Rattle.ledger.specs.Seen.{entry_at, address_at, body_length, body_entry}
use Rattle.ledger.specs.Fits.{CellFits, EntryFits}
use Rattle.ledger.specs.Meaning.{Has, at_has}
use Rattle.ledger.specs.Invariant.{Invariant}
use Rattle.ledger.proofs.Instant.{inv}
use Rattle.ledger.specs.Ranges.{ranges}
use Rattle.ledger.specs.Small.{small_fits}
use Rattle.ledger.proofs.SmallKept.{always_small}

-- what is in range is what the checks ask of a status, of a word, of an entry
status_passes : (s : Status) → GoodStatus s → is_bad s ≡ false
status_passes Free g = refl
status_passes Undecided g = refl
status_passes (Decided o dirty) g = refl
status_passes (Bad x) g = absurd g

word_passes : (n k : ℕ) (s : Sort) → CellFits n k (cell_of s) → is_neither s ≡ false
word_passes n k (Plain v dirty) f = refl
word_passes n k (Pointer d dirty) f = refl
word_passes n k (Neither x) f = absurd f

entry_passes : (n k : ℕ) (e : Entry) → EntryFits n k e → bad_entry n e ≡ false
unfolding bad_entry
entry_passes n k e f = rw (lt-leb n e.address f.address, lt-leb (2 ^ 61) e.expected f.expected, lt-leb (2 ^ 61) e.desired f.desired)

is_live : (s : Status) → is_free s ≡ false → s ≢ Free
is_live s e z = let y : is_free s ≡ true = rw z in clash (cc)

live_is : (s : Status) → s ≢ Free → is_free s ≡ false
live_is Free l = absurd (l refl)
live_is Undecided l = refl
live_is (Decided o dirty) l = refl
live_is (Bad x) l = refl

module _ (n k : ℕ) (nn : n ≤ 64) (kk : k ≤ 16) (m : Block) (f : Fits Persisted m) {L : ℕ → ℕ} {In : ℕ → Bool} {Differed : ℕ → Type 0} {Sent : ℕ → Body}
    (I : Invariant n k (view m) L In Differed Sent) where
  abbrev x : List ℕ
  x = image_of Persisted m n k

  module _ (d : ℕ) (l : d < k) where
    abbrev p : List ℕ
    p = part_of x n d

    abbrev b : Body
    b = body_in Persisted m d

    pub count : count_in p ≡ length b
    count = count_read Persisted m n k f d l ∙ sym (body_length Persisted m d)

    pub entry : (i : ℕ) → i < length b → entry_in p i ≡ entry_at b i
    entry i q =
        let s = (I.fits.body Persisted d).size in
        let c : i < C.count_in Persisted m d = rw (body_length Persisted m d) at q in
        entry_read Persisted m n k f d i l (omega arith) ∙ sym (body_entry Persisted m d i c)

    address : (i : ℕ) → i < length b → (entry_in p i).address ≡ address_at b i
    address i q = ap (λ (e : Entry). e.address) (entry i q)

    -- 21
    status_good : bad_status p ≡ false
    status_good = rw (status_read Persisted m n k f d l) (status_passes (C.status_in Persisted m d) (I.fits.status Persisted d))

    -- 22
    entry_good : (i : ℕ) → i < length b → bad_entry n (entry_in p i) ≡ false
    entry_good i q = ap (bad_entry n) (entry i q) ∙ entry_passes n k (entry_at b i) ((I.fits.body Persisted d).entry i q)

    at_good : (i : ℕ) → i < count_in p → bad_at n p i ≡ false
    unfolding bad_at
    at_good zero q = let c : 0 < length b = rw count at q in entry_good 0 c
    at_good (suc i) q =
        let c : suc i < length b = rw count at q in
        let u = address (suc i) c in
        let v = address i (omega arith) in
        let l = (I.fits.body Persisted d).ascending i c in
        rw (entry_good (suc i) c, lt-leb (entry_in p (suc i)).address (entry_in p i).address (omega arith))

    few : C.status_in Persisted m d ≢ Free → within (count_in p) 4 ≡ true
    few s =
        let a : 0 < length b = (I.bodies Persisted d s).0.some in
        let z : length b ≤ 4 = (I.fits.body Persisted d).size in
        rw (count, lt-ltb 0 (length b) a, le-leb (length b) 4 z)

    body_good : bad_body n p ≡ false
    unfolding bad_body
    body_good = rw (status_read Persisted m n k f d l) (go (is_free (C.status_in Persisted m d)) refl)
      where
        go : (t : Bool) → is_free (C.status_in Persisted m d) ≡ t → (not t && (not (within (count_in p) 4) || some_below (count_in p) (λ i. bad_at n p i))) ≡ false
        go true e = refl
        go false e = rw (few (is_live (C.status_in Persisted m d) e), below_all (λ i. bad_at n p i) (count_in p) at_good)

    -- 24: the entry for an address that the body has
    has_good : (a : ℕ) → Has b a → has_address p a ≡ true
    unfolding has_within
    has_good a h = go (has_address p a) refl
      where
        go : (t : Bool) → has_address p a ≡ t → has_address p a ≡ true
        go true e = e
        go false e = absurd (at_has b a (λ y. y ≢ a) h
            (λ i q z. eqb-false (entry_in p i).address a (none_below (λ j. eqb (entry_in p j).address a) (count_in p) e i (rw count q)) (address i q ∙ z)) refl)

  -- 23
  word_good : (a : ℕ) → a < n → is_neither (word_of x a) ≡ false
  word_good a l = rw (word_read Persisted m n k f a l) (word_passes n k (C.word_in Persisted m a) (I.fits.word Persisted a))

  target_good : (a d : ℕ) (dirty : Bool) → C.word_in Persisted m a ≡ Pointer d dirty → CellFits n k (cell_of (C.word_in Persisted m a)) → bad_target n k x a d ≡ false
  unfolding bad_target
  target_good a d dirty e c =
      let l : d < k = rw e at c in
      let v = I.agrees.live Persisted a d (ap cell_of e) in
      rw (lt-leb k d l, status_read Persisted m n k f d l, live_is (C.status_in Persisted m d) v.0, has_good d l a v.1)

  pointer_good : (a : ℕ) → a < n → bad_pointer_at n k x a ≡ false
  unfolding bad_pointer_at
  pointer_good a l = rw (word_read Persisted m n k f a l) (go (C.word_in Persisted m a) refl)
    where
      go : (s : Sort) → C.word_in Persisted m a ≡ s → bad_pointer n k x a s ≡ false
      go (Plain v dirty) e = refl
      go (Pointer d dirty) e = target_good a d dirty e (I.fits.word Persisted a)
      go (Neither v) e = refl

  passes : bad_sizes n k ≡ false → image_refusal n k x ≡ 0
  passes e = good_back n k x e (record {
    sized = record { words = nn; descriptors = kk; bytes = image_length Persisted m n k };
    statuses = status_good;
    bodies = body_good;
    words = word_good;
    pointers = pointer_good;
  })

pub every_image_passes : EveryImagePasses
every_image_passes n k w e es i =
    let r = ranges n k w e in
    let f = small_fits Persisted (memory_at n k w es i) (always_small n k w r.words r.descriptors r.workers r.some es i) in
    passes n k r.words r.descriptors (memory_at n k w es i) f (inv n k w r.words r.descriptors r.workers r.some es i) sizes
  where
    sizes : bad_sizes n k ≡ false
    sizes =
        let a = and_first (within n 64) (within k 16 && within w 8) e in
        let b = and_first (within k 16) (within w 8) (and_second (within n 64) (within k 16 && within w 8) e) in
        rw (a, b)
