-- Every event keeps the block whole, so that what was stored can be read after any events.
use Rattle.std.specs.Prelude.{Bool, true, false, cond, List, [], ◌∷◌, ℕ, zero, suc, ◌-◌, ltb, None, Option, Some}
use Rattle.steps.specs.declared.Entry.{Entry}
use Rattle.steps.specs.declared.Worker.{Worker}
use Rattle.steps.specs.declared.Worker.TheVariants.{Idle, Building, Working, Reading, ReadClear}
use Rattle.steps.specs.declared.Effect as E
use Rattle.steps.specs.declared.Effect.{Effect}
use Rattle.steps.specs.declared.Effect.TheVariants.{Nothing, StoreWord, StoreStatus}
use Rattle.steps.specs.declared.RecoveryPlace.{RecoveryPlace}
use Rattle.steps.specs.declared.RecoveryPlace.TheVariants.{Outside, At}
use Rattle.steps.specs.Plan.{read_plan, read_clear_plan}
use Rattle.codes.specs.Row.{row_of}
use Rattle.memory.specs.declared.Copy.TheVariants.{Cached}
use Rattle.memory.specs.Block.{Block}
use Rattle.memory.specs.Block.Field.{body}
use Rattle.memory.specs.Content.{word_in, entry_in, put_entry, count_in, crash_copied, clear_body, worker_in, recovery_in}
use Rattle.memory.specs.Fresh.{sizes_in}
use Rattle.memory.specs.Value.{entry_for}
use Rattle.memory.specs.Fields.{Whole, whole_put}
use Rattle.memory.specs.StoreLaws.{entry_whole, cleared_whole, row_whole, idled_whole, recovery_whole}
use Rattle.memory.specs.CopyLaws.{body_back_whole, crash_whole}
use Rattle.events.specs.declared.Event.{Event}
use Rattle.events.specs.declared.Event.TheVariants.{Open, Add, Remove, Submit, Discard, Read, Step, BackWord, BackStatus, BackBody, Crash, Recover}
use Rattle.events.specs.Refusal.{refusal_of}
use Rattle.events.specs.Build.{lowest_below, opened, build_of, inserted, added, no_entry, moved_down, removed_entry, removed_at}
use Rattle.machine.specs.Step.{performed, plan_at, work_step, read_step, read_clear_step, step_of}
use Rattle.machine.specs.Recover.{crashed, place_after, recovery_plan_at, recovery_step_at, recover_of}
use Rattle.machine.specs.Apply.{acted, unless_refused, apply_of, after_of}

pub performed_whole : (m : Block) (d : ℕ) (e : Effect) → Whole m → Whole (performed m d e)
performed_whole m d Nothing h = h
performed_whole m d (StoreWord a s) h = whole_put m _ _ h
performed_whole m d (E.TheVariants.BackWord a) h = whole_put m _ _ h
performed_whole m d (StoreStatus s) h = whole_put m _ _ h
performed_whole m d E.TheVariants.BackStatus h = whole_put m _ _ h
performed_whole m d E.TheVariants.BackBody h = body_back_whole m d h

pub inserted_whole : (i : ℕ) (m : Block) (d : ℕ) (e : Entry) → Whole m → Whole (inserted i m d e)
unfolding inserted
inserted_whole zero m d e h = entry_whole m d 0 e h
inserted_whole (suc i) m d e h = go (ltb e.address (entry_in Cached m d i).address) (λ x k. inserted_whole i x d e k)
  where
    go : (t : Bool) → ((x : Block) → Whole x → Whole (inserted i x d e))
        → Whole (cond t (inserted i (put_entry m d (suc i) (entry_in Cached m d i)) d e) (put_entry m d (suc i) e))
    go true r = r (put_entry m d (suc i) (entry_in Cached m d i)) (entry_whole m d (suc i) (entry_in Cached m d i) h)
    go false r = entry_whole m d (suc i) e h

pub moved_whole : (k : ℕ) (m : Block) (d i : ℕ) → Whole m → Whole (moved_down k m d i)
unfolding moved_down
moved_whole zero m d i h = entry_whole m d i no_entry h
moved_whole (suc k) m d i h = moved_whole k (put_entry m d i (entry_in Cached m d (suc i))) d (suc i) (entry_whole m d i (entry_in Cached m d (suc i)) h)

either_whole : (t : Bool) (x y : Block) → Whole x → Whole y → Whole (cond t x y)
either_whole true x y h k = h
either_whole false x y h k = k

added_whole : (m : Block) (d : ℕ) (e : Entry) → Whole m → Whole (added m d e)
unfolding added
added_whole m d e h = either_whole (ltb (count_in Cached m d) 4) _ m (whole_put _ (body Cached d 0) _ (inserted_whole (count_in Cached m d) m d e h)) h

removed_whole : (m : Block) (d : ℕ) (f : Option ℕ) → Whole m → Whole (removed_at m d f)
unfolding removed_entry
removed_whole m d None h = h
removed_whole m d (Some i) h = either_whole (ltb i (count_in Cached m d)) _ m (whole_put _ (body Cached d 0) _ (moved_whole (count_in Cached m d - 1 - i) m d i h)) h

opened_whole : (m : Block) (w : ℕ) (f : Option ℕ) → Whole m → Whole (opened m w f).memory
opened_whole m w (Some d) h = row_whole (clear_body m d) w (row_of (Building d)) (cleared_whole m d 13 h)
opened_whole m w None h = h

step_whole : (m : Block) (w : ℕ) (x : Worker) → Whole m → Whole (step_of m w x).memory
unfolding work_step read_step read_clear_step
step_whole m w Idle h = h
step_whole m w (Building d) h = h
step_whole m w (Working o e p) h = row_whole _ w _ (performed_whole m e (plan_at m w o e p).effect h)
step_whole m w (Reading a) h = row_whole _ w _ (performed_whole m 0 (read_plan a (word_in Cached m a)).effect h)
step_whole m w (ReadClear a v) h = row_whole _ w _ (performed_whole m 0 (read_clear_plan a v (word_in Cached m a)).effect h)

recover_whole : (m : Block) (k : ℕ) (p : RecoveryPlace) → Whole m → Whole (recover_of m k p).memory
unfolding recovery_step_at
recover_whole m k Outside h = h
recover_whole m k (At d s) h = recovery_whole _ (place_after k d (recovery_plan_at m d s).next) (performed_whole m d (recovery_plan_at m d s).effect h)

crashed_whole : (m : Block) → Whole m → Whole (crashed m)
unfolding crashed
crashed_whole m h = recovery_whole _ (At 0 0) (idled_whole (crash_copied m) 8 (crash_whole m h))

acted_whole : (m : Block) (e : Event) → Whole m → Whole (acted m e).memory
acted_whole m (Open w) h = opened_whole m w (lowest_below m (sizes_in m).k) h
acted_whole m (Add w a x y) h = added_whole m (build_of (worker_in m w)) (record { address = a; expected = x; desired = y }) h
acted_whole m (Remove w a) h = removed_whole m (build_of (worker_in m w)) (entry_for Cached m (build_of (worker_in m w)) a) h
acted_whole m (Submit w) h = row_whole m w _ h
acted_whole m (Discard w) h = row_whole m w _ h
acted_whole m (Read w a) h = row_whole m w _ h
acted_whole m (Step w) h = step_whole m w (worker_in m w) h
acted_whole m (BackWord a) h = whole_put m _ _ h
acted_whole m (BackStatus d) h = whole_put m _ _ h
acted_whole m (BackBody d) h = body_back_whole m d h
acted_whole m Crash h = crashed_whole m h
acted_whole m Recover h = recover_whole m (sizes_in m).k (recovery_in m) h

pub apply_whole : (m : Block) (e : Event) → Whole m → Whole (apply_of m e).memory
unfolding apply_of
apply_whole m e h = go (refusal_of m e)
  where
    go : (r : ℕ) → Whole (unless_refused r m e).memory
    go zero = acted_whole m e h
    go (suc r) = h

pub after_whole : (m : Block) (es : List Event) → Whole m → Whole (after_of m es).memory
after_whole m [] h = h
after_whole m (e ∷ es) h = after_whole (apply_of m e).memory es (apply_whole m e h)
