-- Wrong rules: each is ours but for the one clause that its comment names. Nothing runs them: an edit of must-fail/ puts one into Rules.antt, in place of ours, and a fact is missing in the proof.
use Rattle.std.specs.Prelude.{◌≡◌, refl, Bool, true, false, cond, ◌&&◌, ℕ, suc, ◌/◌, ◌%◌, eqb, ltb, None, Option, Some}
use Rattle.word.specs.declared.Sort.{Sort}
use Rattle.word.specs.declared.Sort.TheVariants.{Plain, Pointer, Neither}
use Rattle.word.specs.declared.Outcome.TheVariants.{Succeeded, Failed}
use Rattle.word.specs.declared.Status.{Status}
use Rattle.word.specs.declared.Status.TheVariants.{Free, Undecided, Decided, Bad}
use Rattle.steps.specs.declared.Place.{Place}
use Rattle.steps.specs.declared.Place.TheVariants.{BackBody, StoreUndecided, BackUndecided, Install, InstallClear, Persist, PersistClear, Decide, Settle, SettleClear, Swap, SwapBack, SwapClear, StoreFree, BackFree}
use Rattle.steps.specs.declared.Entry.{Entry}
use Rattle.steps.specs.declared.Seen.{Seen}
use Rattle.steps.specs.declared.Effect as E
use Rattle.steps.specs.declared.Effect.{Effect}
use Rattle.steps.specs.declared.Effect.TheVariants.{Nothing, BackWord, StoreStatus, BackStatus}
use Rattle.steps.specs.declared.Next.TheVariants.{Go, Answer}
use Rattle.steps.specs.declared.Plan.{Plan}
use Rattle.steps.specs.Plan.{planned, points_to, outcome_of, is_free, store_if}
use Rattle.steps.specs.Operation.{more_of, installed, install_plain, install_word, install, install_clear, persist_clear, decide, settle, settle_clear, swap, swap_clear, store_free, plan_of}
use Rattle.steps.specs.Recovery.{recovery_step, entry_step, end_step}
use Rattle.steps.specs.declared.Next.{Next}

-- every step of an operation, with the clauses that go wrong below left open: the three effects of 1; 2; the write-back of 3; 5; the write-back of 6; 7
module _ (first second third : Effect) (two : ℕ → ℕ → Seen → Plan Next) (three : ℕ → Effect) (five : Status → Plan Next) (six : ℕ → Effect) (seven : Bool → Status → Plan Next) where
  abbrev pub plan_with : Place → ℕ → Seen → Bool → Bool → Plan Next
  plan_with BackBody d s busy owner = planned first (Go StoreUndecided)
  plan_with StoreUndecided d s busy owner = planned second (Go BackUndecided)
  plan_with BackUndecided d s busy owner = planned third (Go (Install 0))
  plan_with (Install i) d s busy owner = two i d s
  plan_with (InstallClear i v) d s busy owner = install_clear i v s
  plan_with (Persist i) d s busy owner = planned (three s.entry.address) (Go (PersistClear i))
  plan_with (PersistClear i) d s busy owner = persist_clear i d s
  plan_with (Decide o) d s busy owner = decide o s.status
  plan_with Settle d s busy owner = five s.status
  plan_with SettleClear d s busy owner = settle_clear s.status
  plan_with (Swap i) d s busy owner = swap i d s
  plan_with (SwapBack i) d s busy owner = planned (six s.entry.address) (Go (SwapClear i))
  plan_with (SwapClear i) d s busy owner = swap_clear i s owner
  plan_with StoreFree d s busy owner = seven busy s.status
  plan_with (BackFree o) d s busy owner = planned BackStatus (Answer o)

-- with our clauses it is our rule
ours : (p : Place) (d : ℕ) (s : Seen) (busy owner : Bool) → plan_with E.TheVariants.BackBody (StoreStatus Undecided) BackStatus install BackWord settle BackWord store_free p d s busy owner ≡ plan_of p d s busy owner
ours BackBody d s busy owner = refl
ours StoreUndecided d s busy owner = refl
ours BackUndecided d s busy owner = refl
ours (Install i) d s busy owner = refl
ours (InstallClear i v) d s busy owner = refl
ours (Persist i) d s busy owner = refl
ours (PersistClear i) d s busy owner = refl
ours (Decide o) d s busy owner = refl
ours Settle d s busy owner = refl
ours SettleClear d s busy owner = refl
ours (Swap i) d s busy owner = refl
ours (SwapBack i) d s busy owner = refl
ours (SwapClear i) d s busy owner = refl
ours StoreFree d s busy owner = refl
ours (BackFree o) d s busy owner = refl

-- (1) a decided status does not stop the install
abbrev pub late_by : ℕ → ℕ → Seen → Status → Plan Next
late_by i d s Free = planned Nothing (Go Settle)
late_by i d s Undecided = install_word i d s s.word
late_by i d s (Decided o dirty) = install_word i d s s.word
late_by i d s (Bad x) = planned Nothing (Go Settle)

unfoldable pub late_install : ℕ → ℕ → Seen → Plan Next
late_install i d s = late_by i d s s.status

abbrev pub late_plan : Place → ℕ → Seen → Bool → Bool → Plan Next
late_plan = plan_with E.TheVariants.BackBody (StoreStatus Undecided) BackStatus late_install BackWord settle BackWord store_free

-- (2) step 3 writes no target back: the status is persisted before the targets
abbrev pub early_plan : Place → ℕ → Seen → Bool → Bool → Plan Next
early_plan = plan_with E.TheVariants.BackBody (StoreStatus Undecided) BackStatus install (λ a. Nothing) settle BackWord store_free

-- (3) step 6 writes no target back: Free is stored before the targets are persisted
abbrev pub kept_plan : Place → ℕ → Seen → Bool → Bool → Plan Next
kept_plan = plan_with E.TheVariants.BackBody (StoreStatus Undecided) BackStatus install BackWord settle (λ a. Nothing) store_free

-- (4) the owner does not wait for the other workers whose current job is d
abbrev pub hasty_free : Bool → Status → Plan Next
hasty_free true s = planned (StoreStatus Free) (Go (BackFree (outcome_of s)))
hasty_free false s = planned (StoreStatus Free) (Go (BackFree (outcome_of s)))

abbrev pub hasty_plan : Place → ℕ → Seen → Bool → Bool → Plan Next
hasty_plan = plan_with E.TheVariants.BackBody (StoreStatus Undecided) BackStatus install BackWord settle BackWord hasty_free

-- (5) recovery tests a status for equality with Succeeded: a dirty one is taken for Failed
abbrev pub equal_value : Status → Entry → ℕ
equal_value Free e = e.expected
equal_value Undecided e = e.expected
equal_value (Decided Succeeded true) e = e.expected
equal_value (Decided Succeeded false) e = e.desired
equal_value (Decided Failed dirty) e = e.expected
equal_value (Bad x) e = e.expected

unfoldable pub equal_entry : ℕ → ℕ → Seen → Plan (Option ℕ)
equal_entry d done s =
    cond (eqb (done % 2) 0)
    (recovery_step (store_if (points_to s.word d) s.entry.address (Plain (equal_value s.status s.entry) false)) (Some (suc done)))
    (recovery_step (BackWord s.entry.address) (Some (suc done)))

unfoldable pub equal_live : ℕ → ℕ → Seen → Plan (Option ℕ)
equal_live d done s = cond (ltb done 8 && ltb (done / 2) s.count) (equal_entry d done s) (end_step done)

unfoldable pub equal_recovery : ℕ → ℕ → Seen → Plan (Option ℕ)
equal_recovery d done s = cond (eqb done 0 && is_free s.status) (recovery_step Nothing None) (equal_live d done s)

-- (6) recovery takes a live descriptor for one without entries: it stores Free first
unfoldable pub first_live : ℕ → ℕ → Seen → Plan (Option ℕ)
first_live d done s = cond (ltb done 8 && ltb (done / 2) 0) (entry_step d done s) (end_step done)

unfoldable pub first_recovery : ℕ → ℕ → Seen → Plan (Option ℕ)
first_recovery d done s = cond (eqb done 0 && is_free s.status) (recovery_step Nothing None) (first_live d done s)

-- (7) a pointer to another operation makes d fail: no difference has been seen
abbrev pub rash_word : ℕ → ℕ → Seen → Sort → Plan Next
rash_word i d s (Plain v dirty) = install_plain i d s v dirty
rash_word i d s (Pointer e dirty) = cond (eqb e d) (planned Nothing (installed (more_of i s.count))) (planned Nothing (Go (Decide Failed)))
rash_word i d s (Neither w) = planned Nothing (Go (Decide Failed))

abbrev pub rash_by : ℕ → ℕ → Seen → Status → Plan Next
rash_by i d s Free = planned Nothing (Go Settle)
rash_by i d s Undecided = rash_word i d s s.word
rash_by i d s (Decided o dirty) = planned Nothing (Go Settle)
rash_by i d s (Bad x) = planned Nothing (Go Settle)

unfoldable pub rash_install : ℕ → ℕ → Seen → Plan Next
rash_install i d s = rash_by i d s s.status

abbrev pub rash_plan : Place → ℕ → Seen → Bool → Bool → Plan Next
rash_plan = plan_with E.TheVariants.BackBody (StoreStatus Undecided) BackStatus rash_install BackWord settle BackWord store_free

-- (8) a dirty decided status is cleared without having been written back
abbrev pub bare_settle : Status → Plan Next
bare_settle Free = planned Nothing (Go (Swap 0))
bare_settle Undecided = planned Nothing (Go (Swap 0))
bare_settle (Decided o true) = planned Nothing (Go SettleClear)
bare_settle (Decided o false) = planned Nothing (Go (Swap 0))
bare_settle (Bad x) = planned Nothing (Go (Swap 0))

abbrev pub bare_plan : Place → ℕ → Seen → Bool → Bool → Plan Next
bare_plan = plan_with E.TheVariants.BackBody (StoreStatus Undecided) BackStatus install BackWord bare_settle BackWord store_free

-- (9) step 1 stores and persists Undecided, and then writes the body back
abbrev pub empty_plan : Place → ℕ → Seen → Bool → Bool → Plan Next
empty_plan = plan_with (StoreStatus Undecided) BackStatus E.TheVariants.BackBody install BackWord settle BackWord store_free
