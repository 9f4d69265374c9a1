-- For every public function: two results, or two final contents, that keep its promise coincide.
use Rattle.std.specs.Prelude.{◌≡◌, Bool, ℕ}
use Rattle.std.proofs.Common.{ap, Option}
use Rattle.word.specs.declared.Sort.{Sort}
use Rattle.word.specs.declared.Status.{Status}
use Rattle.word.specs.Coincide.{coincide}
use Rattle.steps.specs.declared.Own.{Own}
use Rattle.steps.specs.declared.Place.{Place}
use Rattle.steps.specs.declared.Worker.{Worker}
use Rattle.steps.specs.declared.Worker.TheVariants.{Working}
use Rattle.steps.specs.declared.RecoveryPlace.{RecoveryPlace}
use Rattle.codes.specs.declared.Row.{Row}
use Rattle.memory.specs.declared.Copy.{Copy}
use Rattle.steps.specs.declared.Entry.{Entry}
use Rattle.memory.specs.declared.Sizes.{Sizes}
use Rattle.memory.specs.Block.{Block}
use Rattle.memory.specs.Content.{word_in, put_word, back_word, status_in, put_status, back_status, count_in, put_count, entry_in, put_entry, clear_body, back_body, crash_copied, row_in, worker_in, put_worker, idled, recovery_in, put_recovery}
use Rattle.memory.specs.Fresh.{sizes_in, begun, fresh_of}
use Rattle.memory.specs.Value.{entry_for, value_of}

-- functions that only read
pub read_word : (m : Block) (c : Copy) (a : ℕ) (r s : Sort) → r ≡ word_in c m a → s ≡ word_in c m a → r ≡ s
read_word m c a r s = coincide

pub read_status : (m : Block) (c : Copy) (d : ℕ) (r s : Status) → r ≡ status_in c m d → s ≡ status_in c m d → r ≡ s
read_status m c d r s = coincide

pub read_count : (m : Block) (c : Copy) (d : ℕ) (r s : ℕ) → r ≡ count_in c m d → s ≡ count_in c m d → r ≡ s
read_count m c d r s = coincide

pub read_entry : (m : Block) (c : Copy) (d i : ℕ) (r s : Entry) → r ≡ entry_in c m d i → s ≡ entry_in c m d i → r ≡ s
read_entry m c d i r s = coincide

pub find_entry : (m : Block) (c : Copy) (d a : ℕ) (r s : Option ℕ) → r ≡ entry_for c m d a → s ≡ entry_for c m d a → r ≡ s
find_entry m c d a r s = coincide

pub read_row : (m : Block) (w : ℕ) (r s : Row) → r ≡ row_in m w → s ≡ row_in m w → r ≡ s
read_row m w r s = coincide

pub read_worker : (m : Block) (w : ℕ) (r s : Worker) → r ≡ worker_in m w → s ≡ worker_in m w → r ≡ s
read_worker m w r s = coincide

pub read_recovery : (m : Block) (r s : RecoveryPlace) → r ≡ recovery_in m → s ≡ recovery_in m → r ≡ s
read_recovery m r s = coincide

pub read_sizes : (m : Block) (r s : Sizes) → r ≡ sizes_in m → s ≡ sizes_in m → r ≡ s
read_sizes m r s = coincide

pub value-of : (m : Block) (a : ℕ) (r s : ℕ) → r ≡ value_of m a → s ≡ value_of m a → r ≡ s
value-of m a r s = coincide

-- functions that change the block and answer nothing: x and y are two final contents
pub put-word : (m : Block) (a : ℕ) (s : Sort) (x y : Block) → x ≡ put_word m a s → y ≡ put_word m a s → x ≡ y
put-word m a s x y = coincide

pub back-word : (m : Block) (a : ℕ) (x y : Block) → x ≡ back_word m a → y ≡ back_word m a → x ≡ y
back-word m a x y = coincide

pub put-status : (m : Block) (d : ℕ) (s : Status) (x y : Block) → x ≡ put_status m d s → y ≡ put_status m d s → x ≡ y
put-status m d s x y = coincide

pub back-status : (m : Block) (d : ℕ) (x y : Block) → x ≡ back_status m d → y ≡ back_status m d → x ≡ y
back-status m d x y = coincide

pub put-count : (m : Block) (d n : ℕ) (x y : Block) → x ≡ put_count m d n → y ≡ put_count m d n → x ≡ y
put-count m d n x y = coincide

pub put-entry : (m : Block) (d i : ℕ) (e : Entry) (x y : Block) → x ≡ put_entry m d i e → y ≡ put_entry m d i e → x ≡ y
put-entry m d i e x y = coincide

pub clear-body : (m : Block) (d : ℕ) (x y : Block) → x ≡ clear_body m d → y ≡ clear_body m d → x ≡ y
clear-body m d x y = coincide

pub back-body : (m : Block) (d : ℕ) (x y : Block) → x ≡ back_body m d → y ≡ back_body m d → x ≡ y
back-body m d x y = coincide

pub crash_copy : (m : Block) (x y : Block) → x ≡ crash_copied m → y ≡ crash_copied m → x ≡ y
crash_copy m x y = coincide

pub put-worker : (m : Block) (w : ℕ) (x : Worker) (p q : Block) → p ≡ put_worker m w x → q ≡ put_worker m w x → p ≡ q
put-worker m w x p q = coincide

pub put_working : (m : Block) (w : ℕ) (o : Own) (job : ℕ) (x : Place) (p q : Block) → p ≡ put_worker m w (Working o job x) → q ≡ put_worker m w (Working o job x) → p ≡ q
put_working m w o job x p q = coincide

pub idle_workers : (m : Block) (x y : Block) → x ≡ idled m 8 → y ≡ idled m 8 → x ≡ y
idle_workers m x y = coincide

pub put-recovery : (m : Block) (p : RecoveryPlace) (x y : Block) → x ≡ put_recovery m p → y ≡ put_recovery m p → x ≡ y
put-recovery m p x y = coincide

-- `fresh` changes the block and answers
pub fresh : (m : Block) (n k w : ℕ) (x y : Block) (r s : Bool) → begun x r ≡ fresh_of m n k w → begun y s ≡ fresh_of m n k w → (x ≡ y) × (r ≡ s)
fresh m n k w x y r s e f = (ap (λ b. b.memory) (coincide e f), ap (λ b. b.accepted) (coincide e f))
