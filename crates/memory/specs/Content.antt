-- What the block holds, in document 01's terms ("What the memory holds").
use Rattle.std.specs.Prelude.{ℕ, zero, suc, ◌+◌, ◌*◌}
use Rattle.word.specs.declared.Sort.{Sort}
use Rattle.word.specs.declared.Status.{Status}
use Rattle.word.specs.Word.{sort_of, word_number}
use Rattle.word.specs.Status.{status_of, status_number}
use Rattle.steps.specs.declared.Worker.{Worker}
use Rattle.steps.specs.declared.Worker.TheVariants.{Idle}
use Rattle.steps.specs.declared.RecoveryPlace.{RecoveryPlace}
use Rattle.codes.specs.declared.Row.{Row}
use Rattle.codes.specs.declared.RecoveryRow.{RecoveryRow}
use Rattle.codes.specs.Row.{worker_of, row_of, recovery_of, recovery_row}
use Rattle.memory.specs.declared.Copy.{Copy}
use Rattle.memory.specs.declared.Copy.TheVariants.{Cached, Persisted}
use Rattle.steps.specs.declared.Entry.{Entry}
use Rattle.memory.specs.Block.{Block, at, store, slot, get, put}
use Rattle.memory.specs.Block.Field.{word, status, body, worker, recovery}

-- a word; a store to its cached copy; its write-back
abbrev pub word_in : Copy → Block → ℕ → Sort
word_in c m a = sort_of (get m (word c a))

abbrev pub put_word : Block → ℕ → Sort → Block
put_word m a s = put m (word Cached a) (word_number s)

abbrev pub back_word : Block → ℕ → Block
back_word m a = put m (word Persisted a) (get m (word Cached a))

-- a status; a store to its cached copy; its write-back
abbrev pub status_in : Copy → Block → ℕ → Status
status_in c m d = status_of (get m (status c d))

abbrev pub put_status : Block → ℕ → Status → Block
put_status m d s = put m (status Cached d) (status_number s)

abbrev pub back_status : Block → ℕ → Block
back_status m d = put m (status Persisted d) (get m (status Cached d))

-- a body: its count, and its entries from 0
abbrev pub count_in : Copy → Block → ℕ → ℕ
count_in c m d = get m (body c d 0)

abbrev pub put_count : Block → ℕ → ℕ → Block
put_count m d n = put m (body Cached d 0) n

unfoldable pub entry_in : Copy → Block → ℕ → ℕ → Entry
entry_in c m d i =
    record { address = get m (body c d (1 + 3 * i)); expected = get m (body c d (2 + 3 * i)); desired = get m (body c d (3 + 3 * i)) }

abbrev pub put_entry : Block → ℕ → ℕ → Entry → Block
put_entry m d i e =
    put
    (put (put m (body Cached d (1 + 3 * i)) e.address) (body Cached d (2 + 3 * i)) e.expected)
    (body Cached d (3 + 3 * i))
    e.desired

-- its first n numbers become 0; all 13 of them do
unfoldable pub cleared_to : ℕ → Block → ℕ → Block
cleared_to zero m d = m
cleared_to (suc n) m d = put (cleared_to n m d) (body Cached d n) 0

abbrev pub clear_body : Block → ℕ → Block
clear_body m d = cleared_to 13 m d

-- n numbers from slot f on go to slot t on, one after the other
unfoldable pub copied : Block → ℕ → ℕ → ℕ → Block
copied m f t zero = m
copied m f t (suc n) = store (copied m f t n) (t + n) (at (copied m f t n) (f + n))

-- its write-back: the count and all four entries
abbrev pub back_body : Block → ℕ → Block
back_body m d = copied m (slot (body Cached d 0)) (slot (body Persisted d 0)) 13

-- a crash's copying: every cached word, status and body becomes the persisted one
abbrev pub crash_copied : Block → Block
crash_copied m = copied m 288 0 288

-- a worker, from the six numbers of its row
abbrev pub row_in : Block → ℕ → Row
row_in m w =
    record {
      tag = get m (worker w 0);
      own = get m (worker w 1);
      job = get m (worker w 2);
      place = get m (worker w 3);
      entry = get m (worker w 4);
      noted = get m (worker w 5);
    }

abbrev pub worker_in : Block → ℕ → Worker
worker_in m w = worker_of (row_in m w)

unfoldable pub put_row : Block → ℕ → Row → Block
put_row m w r =
    put
    (put
    (put
    (put (put (put m (worker w 0) r.tag) (worker w 1) r.own) (worker w 2) r.job)
    (worker w 3)
    r.place)
    (worker w 4)
    r.entry)
    (worker w 5)
    r.noted

abbrev pub put_worker : Block → ℕ → Worker → Block
put_worker m w x = put_row m w (row_of x)

-- the same six numbers from a slot on
abbrev pub row_from : Block → ℕ → Row
row_from m i =
    record {
      tag = at m i;
      own = at m (i + 1);
      job = at m (i + 2);
      place = at m (i + 3);
      entry = at m (i + 4);
      noted = at m (i + 5);
    }

abbrev pub row_stored : Block → ℕ → Row → Block
row_stored m i r =
    store
    (store
    (store (store (store (store m i r.tag) (i + 1) r.own) (i + 2) r.job) (i + 3) r.place)
    (i + 4)
    r.entry)
    (i + 5)
    r.noted

-- the first n workers become idle
unfoldable pub idled : Block → ℕ → Block
idled m zero = m
idled m (suc w) = put_worker (idled m w) w Idle

-- recovery's place
abbrev pub recovery_row_in : Block → RecoveryRow
recovery_row_in m = record { on = get m (recovery 0); descriptor = get m (recovery 1); done = get m (recovery 2) }

abbrev pub recovery_in : Block → RecoveryPlace
recovery_in m = recovery_of (recovery_row_in m)

abbrev pub put_recovery_row : Block → RecoveryRow → Block
put_recovery_row m s = put (put (put m (recovery 0) s.on) (recovery 1) s.descriptor) (recovery 2) s.done

abbrev pub put_recovery : Block → RecoveryPlace → Block
put_recovery m p = put_recovery_row m (recovery_row p)
