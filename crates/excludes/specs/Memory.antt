-- The crate `memory`: what its promises rule out. The blocks are any that are whole; where a fault shows only in some, the premise says in which.
use Rattle.std.specs.Prelude.{◌≡◌, refl, ◌≢◌, Bool, true, false, cond, ◌&&◌, ℕ, zero, suc, ◌+◌, ◌<◌, ◌≤◌, eqb, ltb}
use Rattle.std.proofs.Common.{◌∙◌, arith, lt-ltb, le-ltb, eqb-true, None, Option, Some}
use Rattle.std.proofs.Math.Logic.{Ne-symm}
use Rattle.std.proofs.lemmas.Bool.{lt-leb, eqb-false}
use Rattle.word.specs.declared.Sort.{Sort}
use Rattle.word.specs.declared.Sort.TheVariants.{Plain, Pointer}
use Rattle.word.specs.declared.Outcome.TheVariants.{Succeeded}
use Rattle.word.specs.declared.Status.{Status}
use Rattle.word.specs.declared.Status.TheVariants.{Decided}
use Rattle.word.specs.Laws.{Formed}
use Rattle.word.specs.StatusLaws.{StatusFormed}
use Rattle.steps.specs.declared.Entry.{Entry}
use Rattle.steps.specs.declared.Own.{Own}
use Rattle.steps.specs.declared.Place.{Place}
use Rattle.steps.specs.declared.Worker.{Worker}
use Rattle.steps.specs.declared.Worker.TheVariants.{Idle, Working}
use Rattle.steps.specs.declared.RecoveryPlace.{RecoveryPlace}
use Rattle.steps.specs.declared.RecoveryPlace.TheVariants.{Outside, At}
use Rattle.codes.specs.Row.{worker_of, row_of}
use Rattle.codes.specs.Round.{worker_round}
use Rattle.memory.specs.declared.Copy.{Copy}
use Rattle.memory.specs.declared.Copy.TheVariants.{Cached, Persisted}
use Rattle.memory.specs.declared.Sizes.{Sizes}
use Rattle.memory.specs.Block.{Block, Field, slot, get, put}
use Rattle.memory.specs.Block.Field.{word, status, body, worker}
use Rattle.memory.specs.Content.{word_in, put_word, back_word, status_in, put_status, back_status, count_in, put_count, entry_in, put_entry, clear_body, copied, back_body, crash_copied, row_in, worker_in, put_worker, idled, recovery_in, put_recovery}
use Rattle.memory.specs.Fresh.{sizes_in, within, good_sizes, fresh_block, Begun, begun, fresh_of}
use Rattle.memory.specs.Value.{has_at, entry_for, value_of}
use Rattle.memory.specs.Fields.{Whole, Somewhere, word_somewhere, status_somewhere, body_somewhere, whole_put, get_put, get_other}
use Rattle.memory.specs.Laws.{word_stored, word_backed, status_stored, status_backed, same_word, same_status, same_entry, same_worker, same_value}
use Rattle.memory.specs.StoreLaws.{entry_stored, entry_other, cleared_zero, row_whole, row_other, workers_apart, worker_stored, idled_idle, recovery_stored}
use Rattle.memory.specs.CopyLaws.{copied_other, body_backed, crash_word, crash_status}
use Rattle.memory.specs.FreshLaws.{fresh_word, fresh_count, fresh_recovery, fresh_sizes}
use Rattle.excludes.specs.Differ.{clash, by, seen, picked}

-- one number: a store that is left out; one that goes to another number too
module _ (m : Block) (h : Whole m) (f : Field) (l : Somewhere f) (v : ℕ) where
  left_out : get m f ≢ v → m ≢ put m f v
  left_out n = seen (λ x. get x f) refl (get_put m f v h l) n

  elsewhere_too : (g : Field) (u : ℕ) → Somewhere g → f ≢ g → get m g ≢ u → put (put m f v) g u ≢ put m f v
  elsewhere_too g u k n o = seen (λ x. get x g) (get_put (put m f v) g u (whole_put m f v h) k) (get_other m f v g n) (Ne-symm o)

-- a store to the cached copy is not read in the persisted one
module _ (m : Block) (a d : ℕ) where
  word_kept : (s : Sort) → word_in Persisted (put_word m a s) a ≡ word_in Persisted m a
  word_kept s = same_word m (put_word m a s) Persisted a (get_other m (word Cached a) _ (word Persisted a) (λ e. clash (cc)))

  status_kept : (s : Status) → status_in Persisted (put_status m d s) d ≡ status_in Persisted m d
  status_kept s = same_status m (put_status m d s) Persisted d (get_other m (status Cached d) _ (status Persisted d) (λ e. clash (cc)))

pub read_word_not_the_cached_for_the_persisted : (m : Block) (a : ℕ) (s : Sort) → s ≢ word_in Persisted m a → s ≢ word_in Persisted (put_word m a s) a
read_word_not_the_cached_for_the_persisted m a s n = rw (word_kept m a 0 s) n

pub read_word_not_the_persisted_for_the_cached : (m : Block) (a : ℕ) (s : Sort) → Whole m → a < 64 → Formed s → word_in Persisted m a ≢ s → word_in Persisted m a ≢ word_in Cached (put_word m a s) a
read_word_not_the_persisted_for_the_cached m a s h l k n = rw (word_stored m h a l s k) n

pub put_word_not_nothing : (m : Block) (a : ℕ) (s : Sort) → Whole m → a < 64 → Formed s → word_in Cached m a ≢ s → m ≢ put_word m a s
put_word_not_nothing m a s h l k n = seen (λ x. word_in Cached x a) refl (word_stored m h a l s k) n

pub put_word_not_to_both_copies : (m : Block) (a : ℕ) (s : Sort) → Whole m → a < 64 → get (put_word m a s) (word Cached a) ≢ get m (word Persisted a) → back_word (put_word m a s) a ≢ put_word m a s
put_word_not_to_both_copies m a s h l n = elsewhere_too m h (word Cached a) (word_somewhere Cached a l) _ (word Persisted a) _ (word_somewhere Persisted a l) (λ e. clash (cc)) (Ne-symm n)

pub back_word_not_nothing : (m : Block) (a : ℕ) → Whole m → a < 64 → word_in Persisted m a ≢ word_in Cached m a → m ≢ back_word m a
back_word_not_nothing m a h l n = seen (λ x. word_in Persisted x a) refl (word_backed m h a l) n

-- the way of a crash: the cached copy is stored to
pub back_word_not_to_the_cached : (m : Block) (a : ℕ) → Whole m → a < 64 → word_in Persisted m a ≢ word_in Cached m a → put m (word Cached a) (get m (word Persisted a)) ≢ back_word m a
back_word_not_to_the_cached m a h l n =
    seen (λ x. word_in Persisted x a) (same_word m _ Persisted a (get_other m (word Cached a) _ (word Persisted a) (λ e. clash (cc)))) (word_backed m h a l) n

pub read_status_not_the_cached_for_the_persisted : (m : Block) (d : ℕ) (s : Status) → s ≢ status_in Persisted m d → s ≢ status_in Persisted (put_status m d s) d
read_status_not_the_cached_for_the_persisted m d s n = rw (status_kept m 0 d s) n

pub read_status_not_the_persisted_for_the_cached : (m : Block) (d : ℕ) (s : Status) → Whole m → d < 16 → StatusFormed s → status_in Persisted m d ≢ s → status_in Persisted m d ≢ status_in Cached (put_status m d s) d
read_status_not_the_persisted_for_the_cached m d s h l k n = rw (status_stored m h d l s k) n

pub put_status_not_nothing : (m : Block) (d : ℕ) (s : Status) → Whole m → d < 16 → StatusFormed s → status_in Cached m d ≢ s → m ≢ put_status m d s
put_status_not_nothing m d s h l k n = seen (λ x. status_in Cached x d) refl (status_stored m h d l s k) n

pub put_status_not_to_both_copies : (m : Block) (d : ℕ) (s : Status) → Whole m → d < 16 → get (put_status m d s) (status Cached d) ≢ get m (status Persisted d) → back_status (put_status m d s) d ≢ put_status m d s
put_status_not_to_both_copies m d s h l n = elsewhere_too m h (status Cached d) (status_somewhere Cached d l) _ (status Persisted d) _ (status_somewhere Persisted d l) (λ e. clash (cc)) (Ne-symm n)

pub back_status_not_nothing : (m : Block) (d : ℕ) → Whole m → d < 16 → status_in Persisted m d ≢ status_in Cached m d → m ≢ back_status m d
back_status_not_nothing m d h l n = seen (λ x. status_in Persisted x d) refl (status_backed m h d l) n

pub back_status_not_to_the_cached : (m : Block) (d : ℕ) → Whole m → d < 16 → status_in Persisted m d ≢ status_in Cached m d → put m (status Cached d) (get m (status Persisted d)) ≢ back_status m d
back_status_not_to_the_cached m d h l n =
    seen (λ x. status_in Persisted x d) (same_status m _ Persisted d (get_other m (status Cached d) _ (status Persisted d) (λ e. clash (cc)))) (status_backed m h d l) n

pub read_count_not_the_cached_for_the_persisted : (m : Block) (d n : ℕ) → n ≢ count_in Persisted m d → n ≢ count_in Persisted (put_count m d n) d
read_count_not_the_cached_for_the_persisted m d n h = rw (get_other m (body Cached d 0) n (body Persisted d 0) (λ e. clash (cc))) h

pub read_count_not_4_always : (c : Copy) (n k w d : ℕ) → 4 ≢ count_in c (fresh_block n k w) d
read_count_not_4_always c n k w d = rw (fresh_count n k w c d) (λ e. clash (cc))

pub put_count_not_nothing : (m : Block) (d n : ℕ) → Whole m → d < 16 → count_in Cached m d ≢ n → m ≢ put_count m d n
put_count_not_nothing m d n h l o = left_out m h (body Cached d 0) (body_somewhere Cached d 0 l (omega arith)) n o

pub put_count_not_to_both_copies : (m : Block) (d n : ℕ) → Whole m → d < 16 → count_in Persisted m d ≢ n → put (put_count m d n) (body Persisted d 0) n ≢ put_count m d n
put_count_not_to_both_copies m d n h l o =
    elsewhere_too m h (body Cached d 0) (body_somewhere Cached d 0 l (omega arith)) n (body Persisted d 0) n (body_somewhere Persisted d 0 l (omega arith)) (λ e. clash (cc)) o

pub read_entry_not_expected_for_desired : (m : Block) (d i : ℕ) (e : Entry) → Whole m → d < 16 → i < 4 → e.desired ≢ e.expected
    → record { address = e.address; expected = e.desired; desired = e.expected } ≢ entry_in Cached (put_entry m d i e) d i
read_entry_not_expected_for_desired m d i e h l k n = rw (entry_stored m d i e h l k) (by (λ (x : Entry). x.expected) n)

pub read_entry_not_the_cached_for_the_persisted : (m : Block) (d i : ℕ) (e : Entry) → e ≢ entry_in Persisted m d i → e ≢ entry_in Persisted (put_entry m d i e) d i
read_entry_not_the_cached_for_the_persisted m d i e n = rw (same_entry m (put_entry m d i e) Persisted d i (λ j h l. entry_other m d i e (body Persisted d j) (λ k p q o. clash (cc)))) n

pub put_entry_not_nothing : (m : Block) (d i : ℕ) (e : Entry) → Whole m → d < 16 → i < 4 → entry_in Cached m d i ≢ e → m ≢ put_entry m d i e
put_entry_not_nothing m d i e h l k n = seen (λ x. entry_in Cached x d i) refl (entry_stored m d i e h l k) n

pub put_entry_not_expected_for_desired : (m : Block) (d i : ℕ) (e : Entry) → Whole m → d < 16 → i < 4 → e.desired ≢ e.expected
    → put_entry m d i (record { address = e.address; expected = e.desired; desired = e.expected }) ≢ put_entry m d i e
put_entry_not_expected_for_desired m d i e h l k n =
    seen (λ x. entry_in Cached x d i) (entry_stored m d i _ h l k) (entry_stored m d i e h l k) (by (λ (x : Entry). x.expected) n)

pub clear_body_not_nothing : (m : Block) (d j : ℕ) → Whole m → d < 16 → j < 13 → get m (body Cached d j) ≢ 0 → m ≢ clear_body m d
clear_body_not_nothing m d j h l k n = seen (λ x. get x (body Cached d j)) refl (cleared_zero m d 13 j h l (omega arith) k) n

pub clear_body_not_the_count_alone : (m : Block) (d j : ℕ) → Whole m → d < 16 → 0 < j → j < 13 → get m (body Cached d j) ≢ 0 → put_count m d 0 ≢ clear_body m d
clear_body_not_the_count_alone m d j h l p k n =
    seen (λ x. get x (body Cached d j)) (get_other m (body Cached d 0) 0 (body Cached d j) (λ e. let z : 0 ≡ j = cc in omega arith)) (cleared_zero m d 13 j h l (omega arith) k) n

pub back_body_not_nothing : (m : Block) (d j : ℕ) → Whole m → d < 16 → j < 13 → get m (body Persisted d j) ≢ get m (body Cached d j) → m ≢ back_body m d
back_body_not_nothing m d j h l k n = seen (λ x. get x (body Persisted d j)) refl (body_backed m d j h l k) n

-- "a body goes to persisted memory in one write-back"
pub back_body_not_the_count_alone : (m : Block) (d j : ℕ) → Whole m → d < 16 → 0 < j → j < 13 → get m (body Persisted d j) ≢ get m (body Cached d j)
    → put m (body Persisted d 0) (count_in Cached m d) ≢ back_body m d
back_body_not_the_count_alone m d j h l p k n =
    seen (λ x. get x (body Persisted d j)) (get_other m (body Persisted d 0) _ (body Persisted d j) (λ e. let z : 0 ≡ j = cc in omega arith)) (body_backed m d j h l k) n

pub crash_copy_not_nothing : (m : Block) (a : ℕ) → Whole m → get m (word Cached a) ≢ get m (word Persisted a) → m ≢ crash_copied m
crash_copy_not_nothing m a h n = seen (λ x. get x (word Cached a)) refl (crash_word m h a) n

-- statuses and bodies are copied too
pub crash_copy_not_the_words_alone : (m : Block) (d : ℕ) → Whole m → d < 16 → get m (status Cached d) ≢ get m (status Persisted d) → copied m 288 0 64 ≢ crash_copied m
unfolding slot
crash_copy_not_the_words_alone m d h l n =
    let z : slot (status Cached d) ≡ 64 + d = simp (lt-ltb _ _ l) (omega arith) in
    seen (λ x. get x (status Cached d)) (copied_other m 288 0 64 (slot (status Cached d)) (λ i k e. omega arith)) (crash_status m h d) n

-- entries past the count are not looked at
pub find_entry_not_past_the_count : (c : Copy) (m : Block) (d a i : ℕ) → count_in c m d ≤ i → Some i ≢ entry_for c m d a
unfolding entry_for
find_entry_not_past_the_count c m d a i h = one 0 _ (one 1 _ (one 2 _ (one 3 _ (λ e. clash (cc)))))
  where
    one : (j : ℕ) (f : Option ℕ) → Some i ≢ f → Some i ≢ cond (has_at c m d a j) (Some j) f
    one j f n = go (eqb i j) refl
      where
        go : (t : Bool) → eqb i j ≡ t → Some i ≢ cond (has_at c m d a j) (Some j) f
        go true e = let z : i ≡ j = eqb-true i j e in rw (le-ltb j (count_in c m d) (rw z at h)) n
        go false e = picked (has_at c m d a j) (λ q. let z : i ≡ j = cc in eqb-false i j e z) n

pub find_entry_not_the_first_three_alone : (c : Copy) (m : Block) (d a : ℕ) → has_at c m d a 3 ≡ true → None ≢ entry_for c m d a
unfolding entry_for
find_entry_not_the_first_three_alone c m d a h =
    picked (has_at c m d a 0) (λ e. clash (cc)) (picked (has_at c m d a 1) (λ e. clash (cc)) (picked (has_at c m d a 2) (λ e. clash (cc)) (rw h (λ e. clash (cc)))))

-- another worker's row is as it was
other_worker : (m : Block) (w v : ℕ) (x : Worker) → w ≢ v → worker_in (put_worker m w x) v ≡ worker_in m v
other_worker m w v x n = same_worker m (put_worker m w x) v (λ j. row_other m w (row_of x) (worker v j) (λ i l. workers_apart w v i j n))

pub read_row_not_anothers : (m : Block) (w v : ℕ) (x : Worker) → w ≢ v → x ≢ worker_in m v → row_of x ≢ row_in (put_worker m w x) v
read_row_not_anothers m w v x n o = seen worker_of (worker_round x) (other_worker m w v x n) o

pub read_row_not_idle_always : (m : Block) (w : ℕ) (x : Worker) → Whole m → w < 8 → Idle ≢ x → row_of Idle ≢ row_in (put_worker m w x) w
read_row_not_idle_always m w x h l n = seen worker_of (worker_round Idle) (worker_stored m w x h l) n

pub read_worker_not_anothers : (m : Block) (w v : ℕ) (x : Worker) → w ≢ v → x ≢ worker_in m v → x ≢ worker_in (put_worker m w x) v
read_worker_not_anothers m w v x n o = rw (other_worker m w v x n) o

pub read_worker_not_idle_always : (m : Block) (w : ℕ) (x : Worker) → Whole m → w < 8 → Idle ≢ x → Idle ≢ worker_in (put_worker m w x) w
read_worker_not_idle_always m w x h l n = rw (worker_stored m w x h l) n

pub put_worker_not_nothing : (m : Block) (w : ℕ) (x : Worker) → Whole m → w < 8 → worker_in m w ≢ x → m ≢ put_worker m w x
put_worker_not_nothing m w x h l n = seen (λ y. worker_in y w) refl (worker_stored m w x h l) n

pub put_worker_not_anothers_too : (m : Block) (w v : ℕ) (x : Worker) → Whole m → v < 8 → w ≢ v → worker_in m v ≢ x → put_worker (put_worker m w x) v x ≢ put_worker m w x
put_worker_not_anothers_too m w v x h l n o =
    seen (λ y. worker_in y v) (worker_stored (put_worker m w x) v x (row_whole m w (row_of x) h) l) (other_worker m w v x n) (Ne-symm o)

pub put_working_not_nothing : (m : Block) (w job : ℕ) (o : Own) (p : Place) → Whole m → w < 8 → worker_in m w ≢ Working o job p → m ≢ put_worker m w (Working o job p)
put_working_not_nothing m w job o p h l n = put_worker_not_nothing m w (Working o job p) h l n

-- a worker that goes on is not put back where it was
pub put_working_not_at_another_place : (m : Block) (w job : ℕ) (o : Own) (p q : Place) → Whole m → w < 8 → q ≢ p → put_worker m w (Working o job q) ≢ put_worker m w (Working o job p)
put_working_not_at_another_place m w job o p q h l n =
    seen (λ y. worker_in y w) (worker_stored m w (Working o job q) h l) (worker_stored m w (Working o job p) h l) (λ e. let z : q ≡ p = cc in n z)

pub idle_workers_not_nothing : (m : Block) (w : ℕ) → Whole m → w < 8 → worker_in m w ≢ Idle → m ≢ idled m 8
idle_workers_not_nothing m w h l n = seen (λ y. worker_in y w) refl (idled_idle m 8 w h (omega arith) l) n

seven : (m : Block) (n : ℕ) → n ≤ 7 → worker_in (idled m n) 7 ≡ worker_in m 7
unfolding idled
seven m zero h = refl
seven m (suc n) h = other_worker (idled m n) n 7 Idle (λ e. omega arith) ∙ seven m n (omega arith)

pub idle_workers_not_the_first_seven_alone : (m : Block) → Whole m → worker_in m 7 ≢ Idle → idled m 7 ≢ idled m 8
idle_workers_not_the_first_seven_alone m h n = seen (λ y. worker_in y 7) (seven m 7 (omega arith)) (idled_idle m 8 7 h (omega arith) (omega arith)) n

pub read_recovery_not_outside_always : (m : Block) (d s : ℕ) → Whole m → Outside ≢ recovery_in (put_recovery m (At d s))
read_recovery_not_outside_always m d s h = rw (recovery_stored m (At d s) h) (λ e. clash (cc))

pub read_recovery_not_in_a_fresh_memory : (n k w d s : ℕ) → At d s ≢ recovery_in (fresh_block n k w)
read_recovery_not_in_a_fresh_memory n k w d s = rw (fresh_recovery n k w) (λ e. clash (cc))

pub put_recovery_not_nothing : (m : Block) (p : RecoveryPlace) → Whole m → recovery_in m ≢ p → m ≢ put_recovery m p
put_recovery_not_nothing m p h n = seen recovery_in refl (recovery_stored m p h) n

pub put_recovery_not_from_the_first_step : (m : Block) (d s : ℕ) → Whole m → 0 ≢ s → put_recovery m (At d 0) ≢ put_recovery m (At d s)
put_recovery_not_from_the_first_step m d s h n = seen recovery_in (recovery_stored m (At d 0) h) (recovery_stored m (At d s) h) (λ e. let z : 0 ≡ s = cc in n z)

pub read_sizes_not_the_room : (n k w : ℕ) → 64 ≢ n → record { n = 64; k = 16; w = 8 } ≢ sizes_in (fresh_block n k w)
read_sizes_not_the_room n k w h = rw (fresh_sizes n k w) (by (λ (x : Sizes). x.n) h)

pub read_sizes_not_n_and_k_exchanged : (n k w : ℕ) → k ≢ n → record { n = k; k = n; w = w } ≢ sizes_in (fresh_block n k w)
read_sizes_not_n_and_k_exchanged n k w h = rw (fresh_sizes n k w) (by (λ (x : Sizes). x.n) h)

-- sizes in range, and past it
pub fresh_not_nothing : (m : Block) (c : Copy) (n k w a : ℕ) (r : Bool) → good_sizes n k w ≡ true → word_in c m a ≢ Plain 0 false → begun m r ≢ fresh_of m n k w
unfolding fresh_of
fresh_not_nothing m c n k w a r h o = rw h (seen (λ (b : Begun). word_in c b.memory a) refl (fresh_word n k w c a) o)

pub fresh_not_refused_always : (m x : Block) (n k w : ℕ) → good_sizes n k w ≡ true → begun x false ≢ fresh_of m n k w
unfolding fresh_of
fresh_not_refused_always m x n k w h = rw h (by (λ (b : Begun). b.accepted) (λ e. clash (cc)))

pub fresh_not_65_words : (m x : Block) (n k w : ℕ) → 64 < n → begun x true ≢ fresh_of m n k w
unfolding fresh_of
fresh_not_65_words m x n k w h = rw (lt-leb n 64 h) (go (ltb 0 n))
  where
    go : (t : Bool) → begun x true ≢ cond (t && false && (within k 16 && within w 8)) (begun (fresh_block n k w) true) (begun m false)
    go true = by (λ (b : Begun). b.accepted) (λ e. clash (cc))
    go false = by (λ (b : Begun). b.accepted) (λ e. clash (cc))

pub fresh_not_changed_where_refused : (m x : Block) (n k w : ℕ) (r : Bool) → good_sizes n k w ≡ false → x ≢ m → begun x r ≢ fresh_of m n k w
unfolding fresh_of
fresh_not_changed_where_refused m x n k w r h o = rw h (by (λ (b : Begun). b.memory) o)

-- "read from persisted copies only"
pub value_of_not_the_cached : (m : Block) (a v : ℕ) (dirty : Bool) → v ≢ value_of m a → v ≢ value_of (put_word m a (Plain v dirty)) a
value_of_not_the_cached m a v dirty n =
    let o : (f : Field) → word Cached a ≢ f → get (put_word m a (Plain v dirty)) f ≡ get m f = λ f q. get_other m (word Cached a) _ f q in
    rw (same_value m (put_word m a (Plain v dirty)) (λ b. o _ (λ e. clash (cc))) (λ d. o _ (λ e. clash (cc))) (λ d j. o _ (λ e. clash (cc))) a) n

-- a dirty Succeeded counts
pub value_of_not_expected_where_succeeded : (m : Block) (a d i : ℕ) (x dirty : Bool) → word_in Persisted m a ≡ Pointer d x → entry_for Persisted m d a ≡ Some i
    → status_in Persisted m d ≡ Decided Succeeded dirty → (entry_in Persisted m d i).expected ≢ (entry_in Persisted m d i).desired
    → (entry_in Persisted m d i).expected ≢ value_of m a
unfolding value_of
value_of_not_expected_where_succeeded m a d i x dirty h l k n = rw (h, l, k) n
