-- The image of persisted memory holds what the machine's memory holds: the value of a word read from its bytes is the value of the word; and what a crash leaves in
-- cached memory is that image.
use Rattle.std.specs.Prelude.{◌≡◌, Bool, cond, List, eqb, ltb, length}
use Rattle.std.proofs.Math.Path.{refl, sym}
use Rattle.std.proofs.Common.{ap, ◌∙◌, arith, eqb-true}
use Rattle.std.proofs.Math.Bool.{true, false}
use Prim.Native.Nat.{ℕ, zero, suc, ◌+◌, ◌-◌, ◌*◌, ◌/◌, ◌%◌, ◌<◌, ◌≤◌}
use Rattle.std.proofs.Math.Decide.{ℕ_discrete}
use Rattle.std.proofs.lemmas.Bool.{eqb-false}
use Rattle.word.specs.declared.Sort.{Sort}
use Rattle.word.specs.declared.Sort.TheVariants.{Plain, Pointer, Neither}
use Rattle.word.specs.declared.Status.{Status}
use Rattle.steps.specs.declared.Entry.{Entry}
use Rattle.steps.specs.declared.RecoveryPlace.TheVariants.{At}
use Rattle.memory.specs.declared.Copy.TheVariants.{Cached, Persisted}
use Rattle.memory.specs.Block.{Block, Field, get}
use Rattle.memory.specs.Block.Field.{word, status, body, worker, recovery}
use Rattle.memory.specs.Content.{word_in, crash_copied, idled}
use Rattle.memory.specs.Fields.{Whole}
use Rattle.memory.specs.StoreLaws.{recovery_other, idled_other}
use Rattle.memory.specs.CopyLaws.{crash_word, crash_status, crash_body}
use Rattle.memory.specs.Value.{succeeded, entry_value, value_of}
use Rattle.events.specs.declared.Event.TheVariants.{Crash}
use Rattle.events.specs.Refusal.{first_of, refusal_of}
use Rattle.machine.specs.Recover.{crashed}
use Rattle.machine.specs.Apply.{apply_of}
use Rattle.image.specs.Layout as X
use Rattle.image.specs.Flat.{flat_same}
use Rattle.image.specs.OfMemory.{in_descriptor, field_at, image_of, Fits, word_read, status_read}
use Rattle.image.specs.Values.{value_among, sort_value_in, value_in}
use Rattle.ledger.specs.Statement.{body_in}
use Rattle.ledger.specs.Update.{clash}
use Rattle.ledger.specs.Cells.{cell_of, Body}
use Rattle.ledger.specs.View.{cells_of, view}
use Rattle.ledger.specs.Seen.{entry_at, address_at, body_length}
use Rattle.ledger.specs.Meaning.{at_has, expected_of, desired_of, stands, means}
use Rattle.ledger.specs.Know.{Proper}
use Rattle.ledger.specs.Read.{value_cells}
use Rattle.ledger.specs.Invariant.{Invariant}
use Rattle.ledger.proofs.Passes.{count, entry}

-- of an entry, for its own address
own_value : (s : Status) (e : Entry) (b : Body) → desired_of b e.address ≡ e.desired → expected_of b e.address ≡ e.expected → entry_value s e ≡ stands s b e.address
own_value s e b p q = go (succeeded s)
  where
    go : (t : Bool) → cond t e.desired e.expected ≡ cond t (desired_of b e.address) (expected_of b e.address)
    go true = sym p
    go false = sym q

-- bytes whose first entries are those of a body in which no address stands twice
module _ (p : List ℕ) (b : Body) (same : (i : ℕ) → i < length b → X.entry_in p i ≡ entry_at b i) (proper : Proper b) (a i : ℕ) where
  among : (c : ℕ) → c ≤ length b → i < c → address_at b i ≡ a → value_among p c a ≡ stands (X.status_in p) b a
  unfolding value_among
  among zero l m e = absurd (omega arith)
  among (suc c) l m e = go (eqb (X.entry_in p c).address a) refl (λ q. among c (omega arith) q e)
    where
      at_c : X.entry_in p c ≡ entry_at b c
      at_c = same c (omega arith)

      go : (t : Bool) → eqb (X.entry_in p c).address a ≡ t → (i < c → value_among p c a ≡ stands (X.status_in p) b a)
          → cond t (entry_value (X.status_in p) (X.entry_in p c)) (value_among p c a) ≡ stands (X.status_in p) b a
      go true f rest =
          let z : address_at b c ≡ a = ap (λ (e : Entry). e.address) (sym at_c) ∙ eqb-true (X.entry_in p c).address a f in
          ap (entry_value (X.status_in p)) at_c ∙ own_value (X.status_in p) (entry_at b c) b (proper.desired c (omega arith)) (proper.expected c (omega arith)) ∙ ap (stands (X.status_in p) b) z
      go false f rest =
          let o = eqb-false (X.entry_in p c).address a f in
          elim (ℕ_discrete i c) [
            | yes q ↦ absurd (o (ap (λ (e : Entry). e.address) at_c ∙ (rw q at e)))
            | no q ↦ rest (omega arith)
          ]

module _ (n k : ℕ) (nn : n ≤ 64) (kk : k ≤ 16) (m : Block) (f : Fits Persisted m) {L : ℕ → ℕ} {In : ℕ → Bool} {Differed : ℕ → Type 0} {Sent : ℕ → Body}
    (I : Invariant n k (view m) L In Differed Sent) where
  abbrev x : List ℕ
  x = image_of Persisted m n k

  pointer-value : (a d : ℕ) (dirty : Bool) → word_in Persisted m a ≡ Pointer d dirty → value_among (X.part_of x n d) (X.count_in (X.part_of x n d)) a ≡ means (cells_of m) a (cell_of (Pointer d dirty))
  pointer-value a d dirty e =
      let v = I.agrees.live Persisted a d (ap cell_of e) in
      let z = I.bodies Persisted d v.0 in
      let l : d < k = z.2 in
      let b = body_in Persisted m d in
      rw (count n k nn kk m f I d l, ← status_read Persisted m n k f d l)
      (at_has b a (λ y. y ≡ a → value_among (X.part_of x n d) (length b) a ≡ stands (X.status_in (X.part_of x n d)) b a) v.1
      (λ i q h. among (X.part_of x n d) b (entry n k nn kk m f I d l) z.0 a i (length b) (omega arith) q h)
      refl)

  pub image_value : (a : ℕ) → a < n → value_in n x a ≡ value_of m a
  unfolding value_in
  image_value a l = rw (word_read Persisted m n k f a l) (go (word_in Persisted m a) refl)
      ∙ sym (value_cells m (λ d. rw (← body_length Persisted m d) (I.fits.body Persisted d).size) a)
    where
      go : (s : Sort) → word_in Persisted m a ≡ s → sort_value_in n x a s ≡ means (cells_of m) a (cell_of s)
      go (Plain v dirty) e = refl
      go (Pointer d dirty) e = pointer-value a d dirty e
      go (Neither v) e = refl

-- a crash
module _ (m : Block) (h : Whole m) where
  crash_kept : (o : Field) → ((j : ℕ) → recovery j ≡ o → ⊥) → ((v j : ℕ) → worker v j ≡ o → ⊥) → get (crashed m) o ≡ get (crash_copied m) o
  unfolding crashed
  crash_kept o p q = recovery_other (idled (crash_copied m) 8) (At 0 0) o p ∙ idled_other (crash_copied m) 8 o q

  crash_in : (d j : ℕ) → get (crashed m) (in_descriptor Cached d j) ≡ get m (in_descriptor Persisted d j)
  crash_in d zero = crash_kept (status Cached d) (λ j e. clash (cc)) (λ v j e. clash (cc)) ∙ crash_status m h d
  crash_in d (suc j) = crash_kept (body Cached d j) (λ i e. clash (cc)) (λ v i e. clash (cc)) ∙ crash_body m h d j

  crash_field : (n j : ℕ) → get (crashed m) (field_at Cached n j) ≡ get m (field_at Persisted n j)
  unfolding field_at
  crash_field n j = go (ltb j n)
    where
      go : (t : Bool) → get (crashed m) (cond t (word Cached j) (in_descriptor Cached ((j - n) / 14) ((j - n) % 14))) ≡ get m (cond t (word Persisted j) (in_descriptor Persisted ((j - n) / 14) ((j - n) % 14)))
      go true = crash_kept (word Cached j) (λ i e. clash (cc)) (λ v i e. clash (cc)) ∙ crash_word m h j
      go false = crash_in ((j - n) / 14) ((j - n) % 14)

  pub crash_image : (n k : ℕ) → image_of Cached (apply_of m Crash).memory n k ≡ image_of Persisted m n k
  unfolding apply_of refusal_of first_of image_of
  crash_image n k = flat_same (λ j. get (crashed m) (field_at Cached n j)) (λ j. get m (field_at Persisted n j)) (n + 14 * k) (λ j l. crash_field n j)
