-- The crate `events`: what its promises rule out.
use Rattle.std.specs.Prelude.{◌≡◌, refl, ◌≢◌, Bool, true, false, ◌&&◌, ◌||◌, List, [], ◌∷◌, ℕ, suc, ◌-◌, ◌^◌, ◌<◌, ◌≤◌, eqb, leb}
use Rattle.std.proofs.Common.{sym, ap, ◌∙◌, subst, arith, le-leb, lt-ltb, ne_eqb, None, Option, Some}
use Rattle.std.proofs.lemmas.Bool.{lt-leb, eqb-false}
use Rattle.steps.specs.declared.Entry.{Entry}
use Rattle.steps.specs.declared.Own.{Own}
use Rattle.steps.specs.declared.Own.TheVariants.{Operation, Read}
use Rattle.steps.specs.declared.Place.{Place}
use Rattle.steps.specs.declared.Worker.{Worker}
use Rattle.steps.specs.declared.Worker.TheVariants.{Idle, Building, Working}
use Rattle.steps.specs.declared.RecoveryPlace.TheVariants.{Outside, At}
use Rattle.steps.specs.Plan.{is_free}
use Rattle.codes.specs.Row.{row_of}
use Rattle.memory.specs.declared.Copy.TheVariants.{Cached, Persisted}
use Rattle.memory.specs.Block.{Block, get}
use Rattle.memory.specs.Block.Field.{body}
use Rattle.memory.specs.Content.{status_in, count_in, put_count, entry_in, put_entry, clear_body, worker_in, put_worker, recovery_in}
use Rattle.memory.specs.Fresh.{sizes_in}
use Rattle.memory.specs.Value.{entry_for}
use Rattle.memory.specs.Fields.{Whole, body_somewhere, get_put, get_other}
use Rattle.memory.specs.Laws.{same_entry}
use Rattle.memory.specs.StoreLaws.{entry_stored, entry_other, entry_whole, cleared_zero, cleared_whole, row_other, worker_stored}
use Rattle.events.specs.declared.Answer.{Answer}
use Rattle.events.specs.declared.Answer.TheVariants.{Opened, Refused}
use Rattle.events.specs.Left.{Left, left}
use Rattle.events.specs.Build.{owner_of, qualifies, lowest_below, opened, build_of, no_entry, inserted, added, moved_down, removed_entry, removed_at}
use Rattle.events.specs.Lowest.{Says, lowest_says}
use Rattle.events.specs.Refusal.{Check, first_of, is_idle, no_worker, in_recovery, owns_something, not_building, too_large, already_added, not_there, count_zero, open_checks, add_checks, remove_checks, submit_checks, discard_checks, read_checks, step_checks, no_address, no_descriptor, outside_recovery}
use Rattle.machine.specs.Whole.{inserted_whole, moved_whole}
use Rattle.excludes.specs.Differ.{clash, by, seen, picked}

pub build_of_not_0_always : (d : ℕ) → 0 ≢ d → 0 ≢ build_of (Building d)
build_of_not_0_always d n = n

pub build_of_not_the_job : (o : Own) (e : ℕ) (p : Place) → e ≢ 0 → e ≢ build_of (Working o e p)
build_of_not_the_job o e p n = n

pub owner_of_not_a_helper : (d e : ℕ) → e ≢ d → true ≢ owner_of (Operation e) d
owner_of_not_a_helper d e n = rw (ne_eqb e d n) (λ q. clash (cc))

pub owner_of_not_a_read : (a d : ℕ) → true ≢ owner_of (Read a) d
owner_of_not_a_read a d e = clash (cc)

-- "the lowest descriptor Free in both copies and owned by nobody"
pub lowest_not_a_higher_one : (m : Block) (k i d : ℕ) → i < d → qualifies m i ≡ true → Some d ≢ lowest_below m k
lowest_not_a_higher_one m k i d l h e =
    let z : qualifies m i ≡ false = (subst (λ (f : Option ℕ). Says m k f) (sym e) (lowest_says m k)).first i l in
    clash (cc)

pub lowest_not_free_in_the_cached_copy_alone : (m : Block) (k d : ℕ) → is_free (status_in Persisted m d) ≡ false → Some d ≢ lowest_below m k
unfolding qualifies
lowest_not_free_in_the_cached_copy_alone m k d h e =
    let z : qualifies m d ≡ true = (subst (λ (f : Option ℕ). Says m k f) (sym e) (lowest_says m k)).does in
    go (is_free (status_in Cached m d)) (rw h at z)
  where
    go : (t : Bool) → (t && false) ≡ true → ⊥
    go true q = clash (cc)
    go false q = clash (cc)

pub lowest_not_missing_always : (m : Block) (k d : ℕ) → d < k → qualifies m d ≡ true → None ≢ lowest_below m k
lowest_not_missing_always m k d l h e =
    let z : qualifies m d ≡ false = subst (λ (f : Option ℕ). Says m k f) (sym e) (lowest_says m k) d l in
    clash (cc)

-- "its cached body becomes zeros"
pub open_found_not_the_old_body : (m : Block) (w d j : ℕ) → Whole m → d < 16 → j < 13 → get m (body Cached d j) ≢ 0
    → left (put_worker m w (Building d)) (Opened d) ≢ opened m w (Some d)
open_found_not_the_old_body m w d j h l k n =
    seen (λ (x : Left). get x.memory (body Cached d j))
    (row_other m w (row_of (Building d)) (body Cached d j) (λ i p e. clash (cc)))
    (row_other (clear_body m d) w (row_of (Building d)) (body Cached d j) (λ i p e. clash (cc)) ∙ cleared_zero m d 13 j h l (omega arith) k)
    n

pub open_found_not_nothing : (m : Block) (w d : ℕ) (a : Answer) → Whole m → w < 8 → worker_in m w ≢ Building d → left m a ≢ opened m w (Some d)
open_found_not_nothing m w d a h l n =
    seen (λ (x : Left). worker_in x.memory w) refl (worker_stored (clear_body m d) w (Building d) (cleared_whole m d 13 h) l) n

pub open_found_not_refused_always : (m x : Block) (w d r : ℕ) → left x (Refused r) ≢ opened m w (Some d)
open_found_not_refused_always m x w d r = by (λ (y : Left). y.answer) (λ e. clash (cc))

-- the first entry is as it was, where the count alone changes or another entry is stored
first_kept : (m : Block) (d n : ℕ) → entry_in Cached (put_count m d n) d 0 ≡ entry_in Cached m d 0
first_kept m d n = same_entry m (put_count m d n) Cached d 0 (λ j h l. get_other m (body Cached d 0) n (body Cached d j) (λ e. let z : 0 ≡ j = cc in omega arith))

beside : (m : Block) (d i : ℕ) (e : Entry) → entry_in Cached (put_entry m d (suc i) e) d 0 ≡ entry_in Cached m d 0
beside m d i e = same_entry m (put_entry m d (suc i) e) Cached d 0 (λ j h l. entry_other m d (suc i) e (body Cached d j) (λ k p q o. let z : k ≡ j = cc in omega arith))

pub add_not_nothing : (m : Block) (d : ℕ) (e : Entry) → Whole m → d < 16 → count_in Cached m d < 4 → m ≢ added m d e
unfolding added
add_not_nothing m d e h l k =
    rw (lt-ltb (count_in Cached m d) 4 k)
    (seen (λ x. count_in Cached x d) refl
    (get_put (inserted (count_in Cached m d) m d e) (body Cached d 0) _ (inserted_whole (count_in Cached m d) m d e h) (body_somewhere Cached d 0 l (omega arith)))
    (λ q. omega arith))

-- "kept sorted"
pub add_not_at_the_end_always : (m : Block) (d : ℕ) (e : Entry) → Whole m → d < 16 → count_in Cached m d ≡ 1 → e.address < (entry_in Cached m d 0).address
    → put_count (put_entry m d 1 e) d 2 ≢ added m d e
unfolding added inserted
add_not_at_the_end_always m d e h l k o =
    rw (k, lt-ltb _ _ o)
    (seen (λ x. (entry_in Cached x d 0).address)
    (ap (λ (x : Entry). x.address) (first_kept _ d 2 ∙ beside m d 0 e))
    (ap (λ (x : Entry). x.address) (first_kept _ d 2 ∙ entry_stored _ d 0 e (entry_whole m d 1 _ h) l (omega arith)))
    (λ q. omega arith))

pub remove_not_nothing : (m : Block) (d i : ℕ) → Whole m → d < 16 → i < count_in Cached m d → m ≢ removed_at m d (Some i)
unfolding removed_entry
remove_not_nothing m d i h l k =
    let c = count_in Cached m d in
    rw (lt-ltb i c k)
    (seen (λ x. count_in Cached x d) refl
    (get_put (moved_down (c - 1 - i) m d i) (body Cached d 0) (c - 1) (moved_whole (c - 1 - i) m d i h) (body_somewhere Cached d 0 l (omega arith)))
    (λ q. omega arith))

-- "later entries move down, the place left over becomes zeros"
pub remove_not_the_last_for_the_first : (m : Block) (d : ℕ) → Whole m → d < 16 → count_in Cached m d ≡ 2 → entry_in Cached m d 0 ≢ entry_in Cached m d 1
    → put_count m d 1 ≢ removed_at m d (Some 0)
unfolding removed_entry moved_down
remove_not_the_last_for_the_first m d h l k n =
    rw k (seen (λ x. entry_in Cached x d 0) (first_kept m d 1) (first_kept _ d 1 ∙ beside _ d 0 no_entry ∙ entry_stored m d 0 _ h l (omega arith)) n)

pub remove_not_the_count_alone : (m : Block) (d : ℕ) → Whole m → d < 16 → count_in Cached m d ≡ 1 → entry_in Cached m d 0 ≢ no_entry → put_count m d 0 ≢ removed_at m d (Some 0)
unfolding removed_entry moved_down
remove_not_the_count_alone m d h l k n =
    rw k (seen (λ x. entry_in Cached x d 0) (first_kept m d 0) (first_kept _ d 0 ∙ entry_stored m d 0 no_entry h l (omega arith)) n)

-- along a table: a check of another number, which may hold or not; and one that holds, where the table ends
module _ (c : Check) (cs : List Check) {r : ℕ} (e : eqb r c.number ≡ false) where
  pub past : r ≢ first_of cs → r ≢ first_of (c ∷ cs)
  unfolding first_of
  past n = picked c.holds (eqb-false r c.number e) n

  pub up_to : c.holds ≡ true → r ≢ first_of (c ∷ cs)
  unfolding first_of
  up_to h = rw h (eqb-false r c.number e)

-- where nothing is wrong no number is given, and 9 not before 7
pub refuse_open_not_always : (m : Block) (w d r : ℕ) → w < (sizes_in m).w → recovery_in m ≡ Outside → r ≢ 0 → r ≢ first_of (open_checks m w Idle (Some d))
unfolding first_of
refuse_open_not_always m w d r h l n = rw (lt-leb _ _ h, l) n

pub refuse_open_not_9_before_7 : (m : Block) (w : ℕ) (x : Worker) (f : Option ℕ) → is_idle x ≡ false → 9 ≢ first_of (open_checks m w x f)
refuse_open_not_9_before_7 m w x f h = past (no_worker m w) _ refl (past (in_recovery m) _ refl (up_to (owns_something x) _ refl (rw h)))

leb_same : (n : ℕ) → leb n n ≡ true
leb_same n = le-leb n n (omega arith)

or_true : (t : Bool) → (t || true) ≡ true
or_true true = refl
or_true false = refl

pub refuse_add_not_the_desired_unseen : (m : Block) (w : ℕ) (x : Worker) (e : Entry) → 2 ^ 61 ≤ e.desired → 0 ≢ first_of (add_checks m w x e)
refuse_add_not_the_desired_unseen m w x e h =
    past (no_worker m w) _ refl
    (past (in_recovery m) _ refl
    (past (not_building x) _ refl
    (past (no_address m e.address) _ refl
    (up_to (too_large e) _ refl (rw (le-leb _ _ h) (or_true (leb (2 ^ 61) e.expected)))))))

pub refuse_add_not_12_before_13 : (m : Block) (w i : ℕ) (x : Worker) (e : Entry) → entry_for Cached m (build_of x) e.address ≡ Some i → 12 ≢ first_of (add_checks m w x e)
refuse_add_not_12_before_13 m w i x e h =
    past (no_worker m w) _ refl
    (past (in_recovery m) _ refl
    (past (not_building x) _ refl
    (past (no_address m e.address) _ refl
    (past (too_large e) _ refl
    (up_to (already_added m (build_of x) e.address) _ refl (rw h))))))

pub refuse_add_not_always : (m : Block) (w d r : ℕ) (e : Entry) → w < (sizes_in m).w → recovery_in m ≡ Outside → e.address < (sizes_in m).n → e.expected < 2 ^ 61 → e.desired < 2 ^ 61
    → entry_for Cached m d e.address ≡ None → count_in Cached m d < 4 → r ≢ 0 → r ≢ first_of (add_checks m w (Building d) e)
unfolding first_of
refuse_add_not_always m w d r e h l a x y f c n = rw (lt-leb _ _ h, l, lt-leb _ _ a, lt-leb _ _ x, lt-leb _ _ y, f, lt-leb _ _ c) n

pub refuse_remove_not_accepted_where_missing : (m : Block) (w a : ℕ) (x : Worker) → 0 ≢ first_of (remove_checks m w x a None)
refuse_remove_not_accepted_where_missing m w a x =
    past (no_worker m w) _ refl (past (in_recovery m) _ refl (past (not_building x) _ refl (past (no_address m a) _ refl (up_to (not_there None) _ refl refl))))

pub refuse_remove_not_14_before_8 : (m : Block) (w a : ℕ) (f : Option ℕ) → 14 ≢ first_of (remove_checks m w Idle a f)
refuse_remove_not_14_before_8 m w a f = past (no_worker m w) _ refl (past (in_recovery m) _ refl (up_to (not_building Idle) _ refl refl))

pub refuse_remove_not_always : (m : Block) (w d a i r : ℕ) → w < (sizes_in m).w → recovery_in m ≡ Outside → a < (sizes_in m).n → r ≢ 0 → r ≢ first_of (remove_checks m w (Building d) a (Some i))
unfolding first_of
refuse_remove_not_always m w d a i r h l k n = rw (lt-leb _ _ h, l, lt-leb _ _ k) n

pub refuse_submit_not_accepted_at_count_0 : (m : Block) (w : ℕ) (x : Worker) → count_in Cached m (build_of x) ≡ 0 → 0 ≢ first_of (submit_checks m w x)
refuse_submit_not_accepted_at_count_0 m w x h =
    past (no_worker m w) _ refl (past (in_recovery m) _ refl (past (not_building x) _ refl (up_to (count_zero m (build_of x)) _ refl (rw h))))

pub refuse_submit_not_15_before_8 : (m : Block) (w : ℕ) → 15 ≢ first_of (submit_checks m w Idle)
refuse_submit_not_15_before_8 m w = past (no_worker m w) _ refl (past (in_recovery m) _ refl (up_to (not_building Idle) _ refl refl))

pub refuse_submit_not_always : (m : Block) (w d r : ℕ) → w < (sizes_in m).w → recovery_in m ≡ Outside → count_in Cached m d ≢ 0 → r ≢ 0 → r ≢ first_of (submit_checks m w (Building d))
unfolding first_of
refuse_submit_not_always m w d r h l k n = rw (lt-leb _ _ h, l, ne_eqb _ _ k) n

pub refuse_discard_not_accepted_idle : (m : Block) (w : ℕ) → 0 ≢ first_of (discard_checks m w Idle)
refuse_discard_not_accepted_idle m w = past (no_worker m w) _ refl (past (in_recovery m) _ refl (up_to (not_building Idle) _ refl refl))

pub refuse_discard_not_always : (m : Block) (w d r : ℕ) → w < (sizes_in m).w → recovery_in m ≡ Outside → r ≢ 0 → r ≢ first_of (discard_checks m w (Building d))
unfolding first_of
refuse_discard_not_always m w d r h l n = rw (lt-leb _ _ h, l) n

pub refuse_read_not_accepted_at_n : (m : Block) (w : ℕ) (x : Worker) → 0 ≢ first_of (read_checks m w x (sizes_in m).n)
refuse_read_not_accepted_at_n m w x =
    past (no_worker m w) _ refl (past (in_recovery m) _ refl (past (owns_something x) _ refl (up_to (no_address m (sizes_in m).n) _ refl (leb_same (sizes_in m).n))))

pub refuse_read_not_10_before_7 : (m : Block) (w a : ℕ) (x : Worker) → is_idle x ≡ false → 10 ≢ first_of (read_checks m w x a)
refuse_read_not_10_before_7 m w a x h = past (no_worker m w) _ refl (past (in_recovery m) _ refl (up_to (owns_something x) _ refl (rw h)))

pub refuse_read_not_always : (m : Block) (w a r : ℕ) → w < (sizes_in m).w → recovery_in m ≡ Outside → a < (sizes_in m).n → r ≢ 0 → r ≢ first_of (read_checks m w Idle a)
unfolding first_of
refuse_read_not_always m w a r h l k n = rw (lt-leb _ _ h, l, lt-leb _ _ k) n

pub refuse_step_not_always : (m : Block) (w e r : ℕ) (o : Own) (p : Place) → w < (sizes_in m).w → recovery_in m ≡ Outside → r ≢ 0 → r ≢ first_of (step_checks m w (Working o e p))
unfolding first_of
refuse_step_not_always m w e r o p h l n = rw (lt-leb _ _ h, l) n

pub refuse_step_not_accepted_in_recovery : (m : Block) (w d s : ℕ) (x : Worker) → recovery_in m ≡ At d s → 0 ≢ first_of (step_checks m w x)
refuse_step_not_accepted_in_recovery m w d s x h = past (no_worker m w) _ refl (up_to (in_recovery m) _ refl (rw h))

-- "address n-1 accepted, n refused 10"; and so of descriptors
pub refuse_word_not_always : (m : Block) (a r : ℕ) → a < (sizes_in m).n → r ≢ 0 → r ≢ first_of (no_address m a ∷ [])
unfolding first_of
refuse_word_not_always m a r h n = rw (lt-leb _ _ h) n

pub refuse_word_not_accepted_at_n : (m : Block) → 0 ≢ first_of (no_address m (sizes_in m).n ∷ [])
refuse_word_not_accepted_at_n m = up_to (no_address m (sizes_in m).n) _ refl (leb_same (sizes_in m).n)

pub refuse_descriptor_not_always : (m : Block) (d r : ℕ) → d < (sizes_in m).k → r ≢ 0 → r ≢ first_of (no_descriptor m d ∷ [])
unfolding first_of
refuse_descriptor_not_always m d r h n = rw (lt-leb _ _ h) n

pub refuse_descriptor_not_accepted_at_k : (m : Block) → 0 ≢ first_of (no_descriptor m (sizes_in m).k ∷ [])
refuse_descriptor_not_accepted_at_k m = up_to (no_descriptor m (sizes_in m).k) _ refl (leb_same (sizes_in m).k)

pub refuse_recover_not_accepted_outside : 0 ≢ first_of (outside_recovery Outside ∷ [])
refuse_recover_not_accepted_outside = up_to (outside_recovery Outside) _ refl refl

pub refuse_recover_not_always : (d s r : ℕ) → r ≢ 0 → r ≢ first_of (outside_recovery (At d s) ∷ [])
unfolding first_of
refuse_recover_not_always d s r n = n
