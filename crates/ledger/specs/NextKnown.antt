-- What comes next after a step of an operation, and what is known of it; the tests of a word, by its cell.
use Rattle.std.specs.Prelude.{◌≡◌, refl, ◌≢◌, Bool, true, false, ℕ}
use Rattle.std.proofs.Common.{◌∙◌, ap, eqb-true}
use Rattle.std.proofs.Math.Path.{fun_ext}
use Rattle.std.proofs.lemmas.Bool.{eqb-false}
use Rattle.word.specs.declared.Sort.{Sort}
use Rattle.word.specs.declared.Sort.TheVariants.{Plain, Pointer, Neither}
use Rattle.word.specs.declared.Status.TheVariants.{Free}
use Rattle.steps.specs.declared.Place.{Place}
use Rattle.steps.specs.declared.Next.{Next}
use Rattle.steps.specs.declared.Next.TheVariants.{Go, Help, Over, Wait, Answer}
use Rattle.steps.specs.Plan.{points_to}
use Rattle.memory.specs.declared.Copy.{Copy}
use Rattle.memory.specs.declared.Copy.TheVariants.{Cached, Persisted}
use Rattle.ledger.specs.Update.{clash, upd_id, upd_in}
use Rattle.ledger.specs.Cells.{Cell, pointer, cell_of, Belongs, Body, Cells, set_word}
use Rattle.ledger.specs.Know.{Knows, Shared}

-- storing the cell that is there changes no cell: the dirty bit alone
pub same_cell : (M : Cells) (a : ℕ) (x : Cell) → M.word Cached a ≡ x → set_word M Cached a x ≡ M
same_cell M a x e = ap (λ (f : Copy → ℕ → Cell). record { word = f; status = M.status; body = M.body }) (fun_ext go)
  where
    go : (c : Copy) → upd_in M.word Cached a x c ≡ M.word c
    go Cached = upd_id (M.word Cached) a x e
    go Persisted = refl

-- the test of a pointer, by the cell
pub points : (s : Sort) (d : ℕ) (c : Cell) → c ≡ cell_of s → points_to s d ≡ true → Belongs d c
points (Plain v dirty) d c e t = clash (cc)
points (Pointer f dirty) d c e t = e ∙ ap pointer (eqb-true f d t)
points (Neither w) d c e t = clash (cc)

pub points_not : (s : Sort) (d : ℕ) (c : Cell) → c ≡ cell_of s → points_to s d ≡ false → ¬ (Belongs d c)
points_not (Plain v dirty) d c e t b = clash (cc)
points_not (Pointer f dirty) d c e t b = let z : f ≡ d = cc in eqb-false f d t z
points_not (Neither w) d c e t b = clash (cc)

-- a helper goes only to shared places; the owner to any
abbrev pub MayGo : Bool → Place → Type 0
MayGo true p = Unit {0}
MayGo false p = Shared p

pub may : (owner : Bool) {p : Place} → Shared p → MayGo owner p
may true h = tt
may false h = h

-- what comes next is known: at a place, what it needs; a descriptor to be helped is live in both copies
abbrev pub NextKnown : Bool → Cells → Body → ℕ → Type 0 → Next → Type 0
NextKnown owner M b d D (Go p) = Knows M b d D p × MayGo owner p
NextKnown owner M b d D (Help e) = (c : Copy) → M.status c e ≢ Free
NextKnown owner M b d D Over = Unit {0}
NextKnown owner M b d D Wait = ⊥
NextKnown owner M b d D (Answer o) = ⊥
