-- The steps of an operation d (document 01): from what a step sees, at most one effect on memory and what comes next. In `A2 6`, 6 is the line of the paper's Algorithm 2; A1 is its Algorithm 1.
use Rattle.std.specs.Prelude.{Bool, true, false, cond, ℕ, suc, eqb, ltb, None, Option, Some}
use Rattle.word.specs.declared.Sort.{Sort}
use Rattle.word.specs.declared.Sort.TheVariants.{Plain, Pointer, Neither}
use Rattle.word.specs.declared.Outcome.{Outcome}
use Rattle.word.specs.declared.Outcome.TheVariants.{Succeeded, Failed}
use Rattle.word.specs.declared.Status.{Status}
use Rattle.word.specs.declared.Status.TheVariants.{Free, Undecided, Decided, Bad}
use Rattle.word.specs.Status.{status_cleared}
use Rattle.steps.specs.declared.Place.{Place}
use Rattle.steps.specs.declared.Place.TheVariants.{BackBody, StoreUndecided, BackUndecided, Install, InstallClear, Persist, PersistClear, Decide, Settle, SettleClear, Swap, SwapBack, SwapClear, StoreFree, BackFree}
use Rattle.steps.specs.declared.Seen.{Seen}
use Rattle.steps.specs.declared.Effect as E
use Rattle.steps.specs.declared.Effect.TheVariants.{Nothing, StoreWord, BackWord, StoreStatus, BackStatus}
use Rattle.steps.specs.declared.Next.{Next}
use Rattle.steps.specs.declared.Next.TheVariants.{Go, Help, Over, Wait, Answer}
use Rattle.steps.specs.declared.Plan.{Plan}
use Rattle.steps.specs.Plan.{planned, points_to, is_dirty_pointer, is_dirty_plain, outcome_of, left_value, store_if}

-- the entry after i, of `count`
unfoldable pub more_of : ℕ → ℕ → Option ℕ
more_of i count = cond (ltb (suc i) count) (Some (suc i)) None

-- 2. Install, entry by entry (A2 3-17). After an entry: the next one, or step 3
abbrev pub installed : Option ℕ → Next
installed (Some j) = Go (Install j)
installed None = Go (Persist 0)

-- a dirty plain word: write it back (A1 13); a clean word equal to expected: store a pointer to d, dirty; another clean word: go to 4 with Failed
abbrev pub install_plain : ℕ → ℕ → Seen → ℕ → Bool → Plan Next
install_plain i d s v true = planned (BackWord s.entry.address) (Go (InstallClear i v))
install_plain i d s v false =
    cond (eqb v s.entry.expected) (planned (StoreWord s.entry.address (Pointer d true)) (installed (more_of i s.count)))
    (planned Nothing (Go (Decide Failed)))

-- a pointer to d: next entry; a pointer to e: the current job becomes e at its install 0. (A number that is no word would fail d; there is none.)
abbrev pub install_word : ℕ → ℕ → Seen → Sort → Plan Next
install_word i d s (Plain v dirty) = install_plain i d s v dirty
install_word i d s (Pointer e dirty) = cond (eqb e d) (planned Nothing (installed (more_of i s.count))) (planned Nothing (Help e))
install_word i d s (Neither w) = planned Nothing (Go (Decide Failed))

-- if the cached status is not Undecided, go to 5 (it is then decided: Free and Bad are never met here)
abbrev pub install_by : ℕ → ℕ → Seen → Status → Plan Next
install_by i d s Free = planned Nothing (Go Settle)
install_by i d s Undecided = install_word i d s s.word
install_by i d s (Decided o dirty) = planned Nothing (Go Settle)
install_by i d s (Bad x) = planned Nothing (Go Settle)

unfoldable pub install : ℕ → ℕ → Seen → Plan Next
install i d s = install_by i d s s.status

-- the next step clears the dirty bit if the word still has that exact content (A1 14); then this entry again (A2 4)
unfoldable pub install_clear : ℕ → ℕ → Seen → Plan Next
install_clear i v s = planned (store_if (is_dirty_plain s.word v) s.entry.address (Plain v false)) (Go (Install i))

-- 3. For each entry two steps (A2 20-22): write back the word; clear its dirty bit if it is exactly d's dirty pointer
abbrev pub persisted : Option ℕ → Next
persisted (Some j) = Go (Persist j)
persisted None = Go (Decide Succeeded)

unfoldable pub persist_clear : ℕ → ℕ → Seen → Plan Next
persist_clear i d s = planned (store_if (is_dirty_pointer s.word d) s.entry.address (Pointer d false)) (persisted (more_of i s.count))

-- 4. If the cached status is Undecided, store the outcome, dirty (A2 25); any other is left as it is
abbrev pub decide : Outcome → Status → Plan Next
decide o Free = planned Nothing (Go Settle)
decide o Undecided = planned (StoreStatus (Decided o true)) (Go Settle)
decide o (Decided q dirty) = planned Nothing (Go Settle)
decide o (Bad x) = planned Nothing (Go Settle)

-- 5. If the status is dirty, write it back, and the next step clears the bit; if clean, this one step goes on to 6 (A2 26-28). Only a decided status is met here
abbrev pub settle_by : Bool → Plan Next
settle_by true = planned BackStatus (Go SettleClear)
settle_by false = planned Nothing (Go (Swap 0))

abbrev pub settle : Status → Plan Next
settle Free = planned Nothing (Go (Swap 0))
settle Undecided = planned Nothing (Go (Swap 0))
settle (Decided o dirty) = settle_by dirty
settle (Bad x) = planned Nothing (Go (Swap 0))

abbrev pub settle_clear : Status → Plan Next
settle_clear s = planned (StoreStatus (status_cleared s)) (Go (Swap 0))

-- 6. For each entry three steps (A2 31-37): a pointer to d, dirty or clean, becomes desired (Succeeded) or expected (Failed), dirty;
-- write back the word; clear the bit if the word is exactly that value, dirty
unfoldable pub swap : ℕ → ℕ → Seen → Plan Next
swap i d s = planned (store_if (points_to s.word d) s.entry.address (Plain (left_value s.status s.entry) true)) (Go (SwapBack i))

-- after an entry: the next one; then the owner goes to 7, and a helper's last step puts it at its own job's start
abbrev pub swap_done : Bool → Next
swap_done true = Go StoreFree
swap_done false = Over

abbrev pub swapped : Bool → Option ℕ → Next
swapped owner (Some j) = Go (Swap j)
swapped owner None = swap_done owner

unfoldable pub swap_clear : ℕ → Seen → Bool → Plan Next
swap_clear i s owner =
    planned
    (store_if
    (is_dirty_plain s.word (left_value s.status s.entry))
    s.entry.address
    (Plain (left_value s.status s.entry) false))
    (swapped owner (more_of i s.count))

-- 7 (A2 38; section 5.1). The owner, who alone comes here (`swap_done`), stores Free, answering W and changing nothing while another worker's current job is d
abbrev pub store_free : Bool → Status → Plan Next
store_free true s = planned Nothing Wait
store_free false s = planned (StoreStatus Free) (Go (BackFree (outcome_of s)))

-- every step of an operation; 1 (section 4.4) is the owner's only, since a helper begins at Install 0; 3 and 6 write back in a step of their own
abbrev pub plan_of : Place → ℕ → Seen → Bool → Bool → Plan Next
plan_of BackBody d s busy owner = planned E.TheVariants.BackBody (Go StoreUndecided)
plan_of StoreUndecided d s busy owner = planned (StoreStatus Undecided) (Go BackUndecided)
plan_of BackUndecided d s busy owner = planned BackStatus (Go (Install 0))
plan_of (Install i) d s busy owner = install i d s
plan_of (InstallClear i v) d s busy owner = install_clear i v s
plan_of (Persist i) d s busy owner = planned (BackWord s.entry.address) (Go (PersistClear i))
plan_of (PersistClear i) d s busy owner = persist_clear i d s
plan_of (Decide o) d s busy owner = decide o s.status
plan_of Settle d s busy owner = settle s.status
plan_of SettleClear d s busy owner = settle_clear s.status
plan_of (Swap i) d s busy owner = swap i d s
plan_of (SwapBack i) d s busy owner = planned (BackWord s.entry.address) (Go (SwapClear i))
plan_of (SwapClear i) d s busy owner = swap_clear i s owner
plan_of StoreFree d s busy owner = store_free busy s.status
plan_of (BackFree o) d s busy owner = planned BackStatus (Answer o)
