-- What a step may see of the cells. The dirty bit of the word is not there: a step may see either, and the plan of `steps` is run on whatever it sees.
use Rattle.std.specs.Prelude.{◌≡◌, refl, ℕ, zero, suc, ◌<◌, length, get_or}
use Rattle.std.proofs.Common.{sym, ap, arith}
use Rattle.steps.specs.declared.Entry.{Entry}
use Rattle.steps.specs.declared.Seen.{Seen}
use Rattle.memory.specs.declared.Copy.{Copy}
use Rattle.memory.specs.declared.Copy.TheVariants.{Cached}
use Rattle.memory.specs.Block.{Block}
use Rattle.memory.specs.Content.{count_in, entry_in}
use Rattle.events.specs.Build.{no_entry}
use Rattle.machine.specs.Step.{seen_in}
use Rattle.ledger.specs.Statement.{firsts, body_in}
use Rattle.ledger.specs.Cells.{cell_of, Body, Cells}
use Rattle.ledger.specs.View.{cells_of}

-- entry i of a body, and its address
abbrev pub entry_at : Body → ℕ → Entry
entry_at b i = get_or b i no_entry

abbrev pub address_at : Body → ℕ → ℕ
address_at b i = (entry_at b i).address

-- at entry i of d, with the status and the body of copy c
pub record Sees (M : Cells) (c : Copy) (d i : ℕ) (s : Seen) : Type 0 where
  pub status : s.status ≡ M.status c d
  pub count : s.count ≡ length (M.body c d)
  -- past the count an entry is whatever it is
  pub entry : i < length (M.body c d) → s.entry ≡ entry_at (M.body c d) i
  pub word : cell_of s.word ≡ M.word Cached s.entry.address

pub length_firsts : (n : ℕ) (f : ℕ → Entry) → length (firsts n f) ≡ n
unfolding firsts
length_firsts zero f = refl
length_firsts (suc n) f = ap suc (length_firsts n (λ i. f (suc i)))

pub firsts_at : (n : ℕ) (f : ℕ → Entry) (i : ℕ) → i < n → get_or (firsts n f) i no_entry ≡ f i
unfolding firsts
firsts_at zero f i h = absurd (omega arith)
firsts_at (suc n) f zero h = refl
firsts_at (suc n) f (suc i) h = firsts_at n (λ i. f (suc i)) i (omega arith)

pub body_length : (c : Copy) (m : Block) (d : ℕ) → length (body_in c m d) ≡ count_in c m d
unfolding body_in
body_length c m d = length_firsts (count_in c m d) (entry_in c m d)

pub body_entry : (c : Copy) (m : Block) (d i : ℕ) → i < count_in c m d → entry_at (body_in c m d) i ≡ entry_in c m d i
unfolding body_in
body_entry c m d i h = firsts_at (count_in c m d) (entry_in c m d) i h

-- a step of the block sees what its cells allow
pub block_sees : (c : Copy) (m : Block) (d i : ℕ) → Sees (cells_of m) c d i (seen_in c m d i)
unfolding seen_in
block_sees c m d i = record {
  status = refl;
  count = sym (body_length c m d);
  entry = λ h. sym (body_entry c m d i (rw (body_length c m d) at h));
  word = refl;
}
