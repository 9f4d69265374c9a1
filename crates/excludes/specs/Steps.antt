-- The crate `steps`: what its promises rule out. A plan is wrong by its effect or by what comes next; each is told for every other half.
use Rattle.std.specs.Prelude.{◌≡◌, refl, ◌≢◌, Bool, true, false, cond, ℕ, suc, ◌+◌, ◌*◌, ◌<◌, ◌≤◌, eqb, ltb}
use Rattle.std.proofs.Common.{ap, arith, lt-ltb, eq-eqb, None, Option, Some}
use Rattle.word.specs.declared.Sort.{Sort}
use Rattle.word.specs.declared.Sort.TheVariants.{Plain, Pointer, Neither}
use Rattle.word.specs.declared.Outcome.{Outcome}
use Rattle.word.specs.declared.Outcome.TheVariants.{Succeeded, Failed}
use Rattle.word.specs.declared.Status.{Status}
use Rattle.word.specs.declared.Status.TheVariants.{Free, Undecided, Decided, Bad}
use Rattle.steps.specs.declared.Place.{Place}
use Rattle.steps.specs.declared.Place.TheVariants.{Install, Decide, Swap, StoreFree, BackFree}
use Rattle.steps.specs.declared.Seen.{Seen}
use Rattle.steps.specs.declared.Entry.{Entry}
use Rattle.steps.specs.declared.Effect.{Effect}
use Rattle.steps.specs.declared.Effect.TheVariants.{Nothing, StoreWord, StoreStatus, BackStatus}
use Rattle.steps.specs.declared.Next.{Next}
use Rattle.steps.specs.declared.Next.TheVariants.{Go, Wait}
use Rattle.steps.specs.declared.Plan.{Plan}
use Rattle.steps.specs.declared.ReadNext.{ReadNext}
use Rattle.steps.specs.declared.ReadNext.TheVariants.{Value}
use Rattle.steps.specs.Plan.{planned, points_to, is_dirty_pointer, is_dirty_plain, is_free, left_value, read_plan, read_clear_plan}
use Rattle.steps.specs.Operation.{more_of, install_word, install_by, install, install_clear, persist_clear, decide, settle, settle_clear, swap, swapped, swap_clear, store_free}
use Rattle.steps.specs.Recovery.{recovery_step, recovery_plan}
use Rattle.image.specs.PlanLaws.{plan_cases}
use Rattle.excludes.specs.Differ.{clash, by, picked}

by_effect : {p q : Plan Next} → p.effect ≢ q.effect → p ≢ q
by_effect = by (λ (p : Plan Next). p.effect)

by_next : {p q : Plan Next} → p.next ≢ q.next → p ≢ q
by_next = by (λ (p : Plan Next). p.next)

pub planned_not_without_its_effect : (e : Effect) (n : Next) → Nothing ≢ e → planned Nothing n ≢ planned e n
planned_not_without_its_effect e n = by_effect

pub planned_not_another_next : (e : Effect) (n q : Next) → q ≢ n → planned e q ≢ planned e n
planned_not_another_next e n q = by_next

pub goes_not_without_its_effect : (e : Effect) (p : Place) → Nothing ≢ e → planned Nothing (Go p) ≢ planned e (Go p)
goes_not_without_its_effect e p = by_effect

pub goes_not_a_wait : (e : Effect) (p : Place) → planned e Wait ≢ planned e (Go p)
goes_not_a_wait e p = by_next (λ q. clash (cc))

-- "a slow helper overwrites a later swap"
pub install_not_although_decided : (i d a : ℕ) (s : Seen) (o : Outcome) (dirty : Bool) (w : Sort) (n : Next) → s.status ≡ Decided o dirty
    → planned (StoreWord a w) n ≢ install i d s
unfolding install
install_not_although_decided i d a s o dirty w n h = rw h (by_effect (λ e. clash (cc)))

-- an install stores no value, so nothing is swapped by it
at_word : (i d a v : ℕ) (x : Bool) (s : Seen) (n : Next) (w : Sort) → planned (StoreWord a (Plain v x)) n ≢ install_word i d s w
at_word i d a v x s n (Plain u true) = by_effect (λ e. clash (cc))
at_word i d a v x s n (Plain u false) = picked (eqb u s.entry.expected) (by_effect (λ e. clash (cc))) (by_effect (λ e. clash (cc)))
at_word i d a v x s n (Pointer e dirty) = picked (eqb e d) (by_effect (λ q. clash (cc))) (by_effect (λ q. clash (cc)))
at_word i d a v x s n (Neither u) = by_effect (λ e. clash (cc))

pub install_not_a_swap_at_once : (i d a v : ℕ) (x : Bool) (s : Seen) (n : Next) → planned (StoreWord a (Plain v x)) n ≢ install i d s
unfolding install
install_not_a_swap_at_once i d a v x s n = go s.status
  where
    go : (t : Status) → planned (StoreWord a (Plain v x)) n ≢ install_by i d s t
    go Free = by_effect (λ e. clash (cc))
    go Undecided = at_word i d a v x s n s.word
    go (Decided o dirty) = by_effect (λ e. clash (cc))
    go (Bad y) = by_effect (λ e. clash (cc))

-- a dirty Succeeded is a Succeeded; what is undecided leaves what was expected
pub left_value_not_expected_where_succeeded : (dirty : Bool) (e : Entry) → e.expected ≢ e.desired → e.expected ≢ left_value (Decided Succeeded dirty) e
left_value_not_expected_where_succeeded dirty e n = n

pub left_value_not_desired_where_undecided : (e : Entry) → e.desired ≢ e.expected → e.desired ≢ left_value Undecided e
left_value_not_desired_where_undecided e n = n

pub install_not_failed_always : (i d : ℕ) (s : Seen) → s.status ≡ Undecided → s.word ≡ Plain s.entry.expected false → planned Nothing (Go (Decide Failed)) ≢ install i d s
unfolding install
install_not_failed_always i d s h l = rw (h, l, eq-eqb s.entry.expected s.entry.expected refl) (by_effect (λ e. clash (cc)))

-- the bit is cleared "if the word still has that exact content, then this entry again"
pub install_clear_not_a_changed_word : (i v a : ℕ) (s : Seen) (w : Sort) (n : Next) → is_dirty_plain s.word v ≡ false → planned (StoreWord a w) n ≢ install_clear i v s
unfolding install_clear
install_clear_not_a_changed_word i v a s w n h = rw h (by_effect (λ e. clash (cc)))

pub install_clear_not_the_next_entry : (i v : ℕ) (s : Seen) (e : Effect) → planned e (Go (Install (suc i))) ≢ install_clear i v s
unfolding install_clear
install_clear_not_the_next_entry i v s e = by_next (λ q. let z : suc i ≡ i = cc in omega arith)

pub persist_clear_not_anothers_word : (i d a : ℕ) (s : Seen) (w : Sort) (n : Next) → is_dirty_pointer s.word d ≡ false → planned (StoreWord a w) n ≢ persist_clear i d s
unfolding persist_clear
persist_clear_not_anothers_word i d a s w n h = rw h (by_effect (λ e. clash (cc)))

-- "writing the status before the target words are written back"
pub persist_clear_not_decided_before_the_last : (i d : ℕ) (s : Seen) (e : Effect) (o : Outcome) → suc i < s.count → planned e (Go (Decide o)) ≢ persist_clear i d s
unfolding persist_clear more_of
persist_clear_not_decided_before_the_last i d s e o h = rw (lt-ltb _ _ h) (by_next (λ q. clash (cc)))

-- what is decided stays
pub decide_not_a_second_time : (o q : Outcome) (dirty : Bool) (t : Status) (n : Next) → planned (StoreStatus t) n ≢ decide o (Decided q dirty)
decide_not_a_second_time o q dirty t n = by_effect (λ e. clash (cc))

pub decide_not_failed_always : (dirty : Bool) (n : Next) → planned (StoreStatus (Decided Failed dirty)) n ≢ decide Succeeded Undecided
decide_not_failed_always dirty n = by_effect (λ e. clash (cc))

pub decide_not_clean : (o : Outcome) (n : Next) → planned (StoreStatus (Decided o false)) n ≢ decide o Undecided
decide_not_clean o n = by_effect (λ e. clash (cc))

-- a dirty status is written back before anything is swapped, and its bit is cleared in a step of its own
pub settle_not_on_while_dirty : (o : Outcome) (e : Effect) → planned e (Go (Swap 0)) ≢ settle (Decided o true)
settle_not_on_while_dirty o e = by_next (λ q. clash (cc))

pub settle_not_cleared_at_once : (o : Outcome) (dirty : Bool) (t : Status) (n : Next) → planned (StoreStatus t) n ≢ settle (Decided o dirty)
settle_not_cleared_at_once o true t n = by_effect (λ e. clash (cc))
settle_not_cleared_at_once o false t n = by_effect (λ e. clash (cc))

pub settle_clear_not_left_dirty : (o q : Outcome) (x : Bool) (n : Next) → planned (StoreStatus (Decided o true)) n ≢ settle_clear (Decided q x)
settle_clear_not_left_dirty o q x n = by_effect (λ e. clash (cc))

pub settle_clear_not_written_back_again : (t : Status) (n : Next) → planned BackStatus n ≢ settle_clear t
settle_clear_not_written_back_again t n = by_effect (λ e. clash (cc))

-- a dirty Succeeded is a Succeeded; and "here step 6 always sets" the dirty bit
pub swap_not_expected_where_succeeded : (i d a : ℕ) (dirty : Bool) (s : Seen) (n : Next) → s.status ≡ Decided Succeeded dirty → s.entry.expected ≢ s.entry.desired
    → planned (StoreWord a (Plain s.entry.expected true)) n ≢ swap i d s
unfolding swap
swap_not_expected_where_succeeded i d a dirty s n h l =
    rw h
    (by_effect
    (picked (points_to s.word d) (λ e. let z : s.entry.expected ≡ s.entry.desired = cc in l z) (λ e. clash (cc))))

pub swap_not_clean : (i d a v : ℕ) (s : Seen) (n : Next) → planned (StoreWord a (Plain v false)) n ≢ swap i d s
unfolding swap
swap_not_clean i d a v s n = by_effect (picked (points_to s.word d) (λ e. clash (cc)) (λ e. clash (cc)))

-- "storing Free before step 6 has written back every target"
pub swap_not_freed_before_the_write_back : (i d : ℕ) (s : Seen) (e : Effect) → planned e (Go StoreFree) ≢ swap i d s
unfolding swap
swap_not_freed_before_the_write_back i d s e = by_next (λ q. clash (cc))

pub swap_clear_not_freed_before_the_last : (i : ℕ) (s : Seen) (owner : Bool) (e : Effect) → suc i < s.count → planned e (Go StoreFree) ≢ swap_clear i s owner
unfolding swap_clear more_of
swap_clear_not_freed_before_the_last i s owner e h = rw (lt-ltb _ _ h) (by_next (λ q. clash (cc)))

pub swap_clear_not_freed_by_a_helper : (i : ℕ) (s : Seen) (e : Effect) → planned e (Go StoreFree) ≢ swap_clear i s false
unfolding swap_clear more_of
swap_clear_not_freed_by_a_helper i s e = by_next (go (ltb (suc i) s.count))
  where
    go : (t : Bool) → Go StoreFree ≢ swapped false (cond t (Some (suc i)) None)
    go true q = clash (cc)
    go false q = clash (cc)

pub store_free_not_while_another_is_on_it : (s t : Status) (n : Next) → planned (StoreStatus t) n ≢ store_free true s
store_free_not_while_another_is_on_it s t n = by_effect (λ e. clash (cc))

pub store_free_not_failed_always : (dirty : Bool) (e : Effect) → planned e (Go (BackFree Failed)) ≢ store_free false (Decided Succeeded dirty)
store_free_not_failed_always dirty e = by_next (λ q. clash (cc))

read_next : {p q : Plan ReadNext} → p.next ≢ q.next → p ≢ q
read_next = by (λ (p : Plan ReadNext). p.next)

-- a dirty word is not answered before it is written back, a pointer not at all
pub read_plan_not_a_dirty_word_at_once : (a v x : ℕ) (e : Effect) → record { effect = e; next = Value x } ≢ read_plan a (Plain v true)
read_plan_not_a_dirty_word_at_once a v x e = read_next (λ q. clash (cc))

pub read_plan_not_past_a_pointer : (a d x : ℕ) (dirty : Bool) (e : Effect) → record { effect = e; next = Value x } ≢ read_plan a (Pointer d dirty)
read_plan_not_past_a_pointer a d x dirty e = read_next (λ q. clash (cc))

-- it "answers the value first seen", and clears the bit only "if unchanged"
pub read_clear_plan_not_the_value_there_now : (a v x : ℕ) (dirty : Bool) (e : Effect) → x ≢ v → record { effect = e; next = Value x } ≢ read_clear_plan a v (Plain x dirty)
read_clear_plan_not_the_value_there_now a v x dirty e n = read_next (λ q. let z : x ≡ v = cc in n z)

pub read_clear_plan_not_a_changed_word : (a b v : ℕ) (s w : Sort) (n : ReadNext) → is_dirty_plain s v ≡ false → record { effect = StoreWord b w; next = n } ≢ read_clear_plan a v s
read_clear_plan_not_a_changed_word a b v s w n h = rw h (by (λ (p : Plan ReadNext). p.effect) (λ e. clash (cc)))

recovery_effect : {p q : Plan (Option ℕ)} → p.effect ≢ q.effect → p ≢ q
recovery_effect = by (λ (p : Plan (Option ℕ)). p.effect)

-- 2c+2 steps for count c: not done before
pub recovery_plan_not_done_early : (d done : ℕ) (s : Seen) (e : Effect) → is_free s.status ≡ false → s.count ≤ 4 → done < 2 * s.count + 1
    → recovery_step e None ≢ recovery_plan d done s
recovery_plan_not_done_early d done s e h l m =
    plan_cases d done s (λ p. recovery_step e None ≢ p)
    (λ z f q. clash (cc))
    (λ a b c f q. clash (cc (ap (λ (p : Plan (Option ℕ)). p.next) q)))
    (λ a b c f q. clash (cc (ap (λ (p : Plan (Option ℕ)). p.next) q)))
    (λ a b c q. clash (cc (ap (λ (p : Plan (Option ℕ)). p.next) q)))
    (λ a b c q. clash (cc (ap (λ (p : Plan (Option ℕ)). p.next) q)))
    (λ a b c q. b (omega arith) (omega arith))

-- and done then
pub recovery_plan_not_on_after_the_last : (d done n : ℕ) (s : Seen) (e : Effect) → s.count ≤ 4 → done ≡ 2 * s.count + 1 → recovery_step e (Some n) ≢ recovery_plan d done s
recovery_plan_not_on_after_the_last d done n s e l m =
    plan_cases d done s (λ p. recovery_step e (Some n) ≢ p)
    (λ z f q. omega arith)
    (λ a b c f q. omega (arith, b.1))
    (λ a b c f q. omega (arith, b.1))
    (λ a b c q. omega (arith, b.1))
    (λ a b c q. omega arith)
    (λ a b c q. clash (cc (ap (λ (p : Plan (Option ℕ)). p.next) q)))

-- nothing is freed while an entry is left, and no word is stored dirty
pub recovery_plan_not_freed_first : (d done : ℕ) (s : Seen) (n : Option ℕ) → done < 8 → done < 2 * s.count → recovery_step (StoreStatus Free) n ≢ recovery_plan d done s
recovery_plan_not_freed_first d done s n h l =
    plan_cases d done s (λ p. recovery_step (StoreStatus Free) n ≢ p)
    (λ z f. recovery_effect (λ q. clash (cc)))
    (λ a b c f. recovery_effect (λ q. clash (cc)))
    (λ a b c f. recovery_effect (λ q. clash (cc)))
    (λ a b c. recovery_effect (λ q. clash (cc)))
    (λ a b c q. b h (omega arith))
    (λ a b c. recovery_effect (λ q. clash (cc)))

pub recovery_plan_not_dirty : (d done a v : ℕ) (s : Seen) (n : Option ℕ) → recovery_step (StoreWord a (Plain v true)) n ≢ recovery_plan d done s
recovery_plan_not_dirty d done a v s n =
    plan_cases d done s (λ p. recovery_step (StoreWord a (Plain v true)) n ≢ p)
    (λ z f. recovery_effect (λ q. clash (cc)))
    (λ x b c f. recovery_effect (λ q. clash (cc)))
    (λ x b c f. recovery_effect (λ q. clash (cc)))
    (λ x b c. recovery_effect (λ q. clash (cc)))
    (λ x b c. recovery_effect (λ q. clash (cc)))
    (λ x b c. recovery_effect (λ q. clash (cc)))

-- a dirty Succeeded counts here too: "recovery disregards the status's dirty bit"
pub recovery_plan_not_expected_where_succeeded : (d done a : ℕ) (dirty : Bool) (s : Seen) (n : Option ℕ) → s.status ≡ Decided Succeeded dirty → s.entry.expected ≢ s.entry.desired
    → recovery_step (StoreWord a (Plain s.entry.expected false)) n ≢ recovery_plan d done s
recovery_plan_not_expected_where_succeeded d done a dirty s n h l =
    plan_cases d done s (λ p. recovery_step (StoreWord a (Plain s.entry.expected false)) n ≢ p)
    (λ z f. recovery_effect (λ q. clash (cc)))
    (λ x b c f. rw h (recovery_effect (λ q. let z : s.entry.expected ≡ s.entry.desired = cc in l z)))
    (λ x b c f. recovery_effect (λ q. clash (cc)))
    (λ x b c. recovery_effect (λ q. clash (cc)))
    (λ x b c. recovery_effect (λ q. clash (cc)))
    (λ x b c. recovery_effect (λ q. clash (cc)))
