-- Words and statuses: reading what was stored or written back. Every thing: it is as it was where its fields are.
use Rattle.std.specs.Prelude.{◌≡◌, ℕ, ◌+◌, ◌*◌, ◌<◌, ◌≤◌}
use Rattle.std.proofs.Math.Path.{refl}
use Rattle.std.proofs.Common.{ap, ◌∙◌, arith, None, Option, Some}
use Rattle.word.specs.declared.Sort.{Sort}
use Rattle.word.specs.declared.Sort.TheVariants.{Plain, Pointer, Neither}
use Rattle.word.specs.declared.Status.{Status}
use Rattle.word.specs.Word.{sort_of, word_number}
use Rattle.word.specs.Status.{status_of, status_number}
use Rattle.word.specs.Laws.{Formed, word_made}
use Rattle.word.specs.StatusLaws.{StatusFormed, status_made}
use Rattle.memory.specs.declared.Copy.{Copy}
use Rattle.memory.specs.declared.Copy.TheVariants.{Cached, Persisted}
use Rattle.memory.specs.Block.{Block, get}
use Rattle.memory.specs.Block.Field.{word, status, body, worker, size, recovery}
use Rattle.memory.specs.Fresh.{sizes_in}
use Rattle.memory.specs.Value.{entry_for, found_value, pointer_value, sort_value, value_of}
use Rattle.memory.specs.Content.{word_in, put_word, back_word, status_in, put_status, back_status, entry_in, worker_in, recovery_in}
use Rattle.memory.specs.Fields.{Whole, word_somewhere, status_somewhere, get_put}

module _ (m : Block) (h : Whole m) where
  module _ (a : ℕ) (l : a < 64) where
    pub word_stored : (s : Sort) → Formed s → word_in Cached (put_word m a s) a ≡ s
    word_stored s k = ap sort_of (get_put m (word Cached a) (word_number s) h (word_somewhere Cached a l)) ∙ word_made s k

    pub word_backed : word_in Persisted (back_word m a) a ≡ word_in Cached m a
    word_backed = ap sort_of (get_put m (word Persisted a) (get m (word Cached a)) h (word_somewhere Persisted a l))

  module _ (d : ℕ) (l : d < 16) where
    pub status_stored : (s : Status) → StatusFormed s → status_in Cached (put_status m d s) d ≡ s
    status_stored s k = ap status_of (get_put m (status Cached d) (status_number s) h (status_somewhere Cached d l)) ∙ status_made s k

    pub status_backed : status_in Persisted (back_status m d) d ≡ status_in Cached m d
    status_backed = ap status_of (get_put m (status Persisted d) (get m (status Cached d)) h (status_somewhere Persisted d l))

-- two blocks that agree on a thing's fields agree on the thing
module _ (m x : Block) where
  pub same_word : (c : Copy) (a : ℕ) → get x (word c a) ≡ get m (word c a) → word_in c x a ≡ word_in c m a
  same_word c a e = ap sort_of e

  pub same_status : (c : Copy) (d : ℕ) → get x (status c d) ≡ get m (status c d) → status_in c x d ≡ status_in c m d
  same_status c d e = ap status_of e

  pub same_entry : (c : Copy) (d i : ℕ) → ((j : ℕ) → 3 * i < j → j ≤ 3 + 3 * i → get x (body c d j) ≡ get m (body c d j)) → entry_in c x d i ≡ entry_in c m d i
  unfolding entry_in
  same_entry c d i e =
      rw (e (1 + 3 * i) (omega arith) (omega arith), e (2 + 3 * i) (omega arith) (omega arith), e (3 + 3 * i) (omega arith) (omega arith))

  pub same_worker : (w : ℕ) → ((j : ℕ) → get x (worker w j) ≡ get m (worker w j)) → worker_in x w ≡ worker_in m w
  same_worker w e = rw (e 0, e 1, e 2, e 3, e 4, e 5)

  pub same_sizes : ((j : ℕ) → get x (size j) ≡ get m (size j)) → sizes_in x ≡ sizes_in m
  same_sizes e = rw (e 0, e 1, e 2)

  pub same_recovery : ((j : ℕ) → get x (recovery j) ≡ get m (recovery j)) → recovery_in x ≡ recovery_in m
  same_recovery e = rw (e 0, e 1, e 2)

-- the first entry for an address depends on the body's fields
pub same_found : (m x : Block) (c : Copy) (d a : ℕ) → ((j : ℕ) → get x (body c d j) ≡ get m (body c d j)) → entry_for c x d a ≡ entry_for c m d a
unfolding entry_for
same_found m x c d a e =
    let n = e 0 in
    rw (same_entry m x c d 0 (λ j h l. e j), same_entry m x c d 1 (λ j h l. e j), same_entry m x c d 2 (λ j h l. e j), same_entry m x c d 3 (λ j h l. e j), n)

-- the value of a word depends on persisted words, statuses and bodies alone
module _ (m x : Block) (words : (a : ℕ) → get x (word Persisted a) ≡ get m (word Persisted a)) (statuses : (d : ℕ) → get x (status Persisted d) ≡ get m (status Persisted d)) (bodies : (d j : ℕ) → get x (body Persisted d j) ≡ get m (body Persisted d j)) where
  same_pointer : (d a : ℕ) → pointer_value x d a ≡ pointer_value m d a
  same_pointer d a = rw (same_found m x Persisted d a (bodies d)) (go (entry_for Persisted m d a))
    where
      go : (o : Option ℕ) → found_value x d o ≡ found_value m d o
      go (Some i) = rw (statuses d, same_entry m x Persisted d i (λ j h l. bodies d j))
      go None = refl

  pub same_value : (a : ℕ) → value_of x a ≡ value_of m a
  unfolding value_of
  same_value a = rw (words a) (go (word_in Persisted m a))
    where
      go : (s : Sort) → sort_value x a s ≡ sort_value m a s
      go (Plain v dirty) = refl
      go (Pointer d dirty) = same_pointer d a
      go (Neither w) = refl
