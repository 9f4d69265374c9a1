-- The crate `machine`: what its promises rule out. The useless versions of document 01 that answer or change by steps are among them.
use Rattle.std.specs.Prelude.{◌≡◌, ◌≢◌, false, ℕ, ◌+◌, ◌*◌, ◌/◌, ◌<◌, ◌≤◌}
use Rattle.std.proofs.Math.Path.{refl}
use Rattle.std.proofs.Common.{ap, ◌∙◌, sym, arith, None, Option, Some}
use Rattle.std.proofs.lemmas.Bool.{lt-leb}
use Rattle.word.specs.declared.Outcome.{Outcome}
use Rattle.word.specs.declared.Outcome.TheVariants.{Succeeded, Failed}
use Rattle.steps.specs.declared.Own.{Own}
use Rattle.steps.specs.declared.Own.TheVariants.{Operation}
use Rattle.steps.specs.declared.Place.{Place}
use Rattle.steps.specs.declared.Place.TheVariants.{BackBody, StoreUndecided, BackFree}
use Rattle.steps.specs.declared.Worker.{Worker}
use Rattle.steps.specs.declared.Worker.TheVariants.{Working}
use Rattle.steps.specs.declared.Next.{Next}
use Rattle.steps.specs.declared.Next.TheVariants.{Go, Help, Over, Wait, Answer}
use Rattle.steps.specs.declared.RecoveryPlace.{RecoveryPlace}
use Rattle.steps.specs.declared.RecoveryPlace.TheVariants.{Outside, At}
use Rattle.steps.specs.Plan.{is_free}
use Rattle.steps.specs.Recovery.{recovery_step}
use Rattle.memory.specs.declared.Copy.TheVariants.{Cached, Persisted}
use Rattle.memory.specs.declared.Sizes.{Sizes}
use Rattle.memory.specs.Block.{Block}
use Rattle.memory.specs.Block.Field.{word, size, recovery}
use Rattle.memory.specs.Content.{word_in, status_in, count_in, back_body, worker_in, put_worker, recovery_in}
use Rattle.memory.specs.Fresh.{sizes_in, fresh_block}
use Rattle.memory.specs.Fields.{Whole}
use Rattle.memory.specs.Laws.{same_word, same_sizes, same_recovery}
use Rattle.memory.specs.StoreLaws.{row_whole, row_other, worker_stored}
use Rattle.memory.specs.CopyLaws.{body_back_whole, body_back_other}
use Rattle.memory.specs.FreshLaws.{fresh_whole, fresh_sizes, fresh_recovery}
use Rattle.events.specs.declared.Event.{Event}
use Rattle.events.specs.declared.Event.TheVariants.{Step, Recover}
use Rattle.events.specs.declared.Answer as A
use Rattle.events.specs.declared.Answer.TheVariants.{Moved, Answered, Recovered, Refused}
use Rattle.events.specs.Left.{Left, left}
use Rattle.events.specs.Refusal.{first_of, refusal_of}
use Rattle.machine.specs.Step.{seen_in, answer_of, plan_at, work_step, step_of}
use Rattle.machine.specs.Recover.{place_after, recovery_answer, recovery_plan_at, recovery_step_at, recover_of}
use Rattle.machine.specs.Apply.{apply_of}
use Rattle.machine.specs.Refused.{refused_unchanged}
use Rattle.excludes.specs.Differ.{clash, by, seen}
use Rattle.excludes.specs.Steps.{recovery_plan_not_done_early}
use Rattle.steps.specs.declared.Plan.{Plan}

-- the premises of the theorems on steps are met: by a fresh memory in which worker v runs an operation
module _ (n k w v : ℕ) (o : Own) (e : ℕ) (p : Place) (inside : v < w) (row : v < 8) where
  abbrev such : Block
  such = put_worker (fresh_block n k w) v (Working o e p)

  pub met : Whole such × (v < (sizes_in such).w) × (recovery_in such ≡ Outside) × (worker_in such v ≡ Working o e p)
  met =
      let m = fresh_block n k w in
      let s : sizes_in such ≡ sizes_in m = same_sizes m such (λ j. row_other m v _ (size j) (λ i l q. clash (cc))) in
      let q : (sizes_in such).w ≡ w = ap (λ (z : Sizes). z.w) (s ∙ fresh_sizes n k w) in
      let r : recovery_in such ≡ recovery_in m = same_recovery m such (λ j. row_other m v _ (recovery j) (λ i l q. clash (cc))) in (
        row_whole m v _ (fresh_whole n k w),
        omega (arith, q),
        r ∙ fresh_recovery n k w,
        worker_stored m v (Working o e p) (fresh_whole n k w) row,
      )

-- a step that none of the checks refuses
module _ (m : Block) (w : ℕ) (o : Own) (e : ℕ) (p : Place) (below : w < (sizes_in m).w) (outside : recovery_in m ≡ Outside) (runs : worker_in m w ≡ Working o e p) where
  taken : apply_of m (Step w) ≡ work_step m w o e p
  unfolding apply_of refusal_of first_of
  taken = rw (lt-leb _ _ below, outside, runs) (ap (λ (x : Worker). step_of m w x) runs)

  not_refused : (r : ℕ) (n : Next) → Refused r ≢ answer_of n
  not_refused r (Go q) f = clash (cc)
  not_refused r (Help d) f = clash (cc)
  not_refused r Over f = clash (cc)
  not_refused r Wait f = clash (cc)
  not_refused r (Answer q) f = clash (cc)

  pub apply_not_refusing_every_step : (x : Block) (r : ℕ) → left x (Refused r) ≢ apply_of m (Step w)
  unfolding work_step
  apply_not_refusing_every_step x r = rw taken (by (λ (y : Left). y.answer) (not_refused r (plan_at m w o e p).next))

-- at its last step an operation that succeeded does not answer F, and none answers M
module _ (m x : Block) (w d : ℕ) (below : w < (sizes_in m).w) (outside : recovery_in m ≡ Outside) where
  pub apply_not_failed_always : worker_in m w ≡ Working (Operation d) d (BackFree Succeeded) → left x (Answered Failed) ≢ apply_of m (Step w)
  unfolding work_step plan_at
  apply_not_failed_always h = rw (taken m w (Operation d) d (BackFree Succeeded) below outside h) (by (λ (y : Left). y.answer) (λ e. clash (cc)))

  pub apply_not_moved_always : (o : Outcome) → worker_in m w ≡ Working (Operation d) d (BackFree o) → left x Moved ≢ apply_of m (Step w)
  unfolding work_step plan_at
  apply_not_moved_always o h = rw (taken m w (Operation d) d (BackFree o) below outside h) (by (λ (y : Left). y.answer) (λ e. clash (cc)))

-- the first step of an operation: it is taken, and no cached word changes by it
module _ (m : Block) (w d : ℕ) (below : w < (sizes_in m).w) (outside : recovery_in m ≡ Outside) (runs : worker_in m w ≡ Working (Operation d) d BackBody) where
  first_step : apply_of m (Step w) ≡ left (put_worker (back_body m d) w (Working (Operation d) d StoreUndecided)) Moved
  unfolding work_step plan_at
  first_step = taken m w (Operation d) d BackBody below outside runs

  pub apply_not_nothing : (a : A.Answer) → Whole m → w < 8 → left m a ≢ apply_of m (Step w)
  apply_not_nothing a h l =
      rw first_step
      (seen (λ (y : Left). worker_in y.memory w) runs (worker_stored (back_body m d) w (Working (Operation d) d StoreUndecided) (body_back_whole m d h) l) (λ e. clash (cc)))

  pub apply_not_swapped_on_the_first_step : (x : Block) (a : ℕ) (r : A.Answer) → word_in Cached x a ≢ word_in Cached m a → left x r ≢ apply_of m (Step w)
  apply_not_swapped_on_the_first_step x a r n =
      rw first_step
      (seen (λ (y : Left). word_in Cached y.memory a) refl
      (same_word m _ Cached a (row_other (back_body m d) w _ (word Cached a) (λ j p e. clash (cc)) ∙ body_back_other m d (word Cached a) (λ j e. clash (cc))))
      n)

-- "a refusal changes no word, status, body, worker or place in recovery"
pub apply_not_changed_where_refused : (m x : Block) (e : Event) (r : ℕ) → x ≢ m → left x (Refused r) ≢ apply_of m e
apply_not_changed_where_refused m x e r n f = n (ap (λ (y : Left). y.memory) f ∙ refused_unchanged m e r (sym (ap (λ (y : Left). y.answer) f)))

-- an invented number of steps: no Z while the live descriptor at which recovery stands has some of its 2c+2 left
module _ (m x : Block) (d s : ℕ) (inside : recovery_in m ≡ At d s) (live : is_free (status_in Persisted m d) ≡ false) (few : count_in Persisted m d ≤ 4) (early : s < 2 * count_in Persisted m d + 1) where
  a_step : apply_of m Recover ≡ recovery_step_at m (sizes_in m).k d s
  unfolding apply_of refusal_of first_of
  a_step = rw inside (ap (λ (p : RecoveryPlace). recover_of m (sizes_in m).k p) inside)

  not_done : (q : Plan (Option ℕ)) → q ≡ recovery_plan_at m d s → Recovered ≢ recovery_answer (place_after (sizes_in m).k d q.next)
  unfolding recovery_plan_at seen_in
  not_done q e = go q.next refl
    where
      go : (n : Option ℕ) → q.next ≡ n → Recovered ≢ recovery_answer (place_after (sizes_in m).k d n)
      go (Some t) f g = clash (cc)
      go None f g = recovery_plan_not_done_early d s (seen_in Persisted m d (s / 2)) q.effect live few early (ap (λ (n : Option ℕ). recovery_step q.effect n) (sym f) ∙ e)

  pub apply_not_recovered_early : left x Recovered ≢ apply_of m Recover
  unfolding recovery_step_at
  apply_not_recovered_early = rw a_step (by (λ (y : Left). y.answer) (not_done (recovery_plan_at m d s) refl))
