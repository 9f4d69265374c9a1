-- One step of recovery at descriptor d, `done` of its steps done (document 01, "Recovery visits descriptors in order"; the paper's section 4.4).
use Rattle.std.specs.Prelude.{false, cond, ◌&&◌, ℕ, suc, ◌/◌, ◌%◌, eqb, ltb, None, Option, Some}
use Rattle.word.specs.declared.Sort.TheVariants.{Plain}
use Rattle.word.specs.declared.Status.TheVariants.{Free}
use Rattle.steps.specs.declared.Seen.{Seen}
use Rattle.steps.specs.declared.Effect.{Effect}
use Rattle.steps.specs.declared.Effect.TheVariants.{Nothing, BackWord, StoreStatus, BackStatus}
use Rattle.steps.specs.Plan.{points_to, left_value, is_free, store_if}
use Rattle.steps.specs.declared.Plan.{Plan}

abbrev pub recovery_step : Effect → Option ℕ → Plan (Option ℕ)
recovery_step e n = record { effect = e; next = n }

-- an entry's two steps: a word pointing to d becomes desired or expected, not dirty, by the persisted status; write back
unfoldable pub entry_step : ℕ → ℕ → Seen → Plan (Option ℕ)
entry_step d done s =
    cond (eqb (done % 2) 0)
    (recovery_step
    (store_if (points_to s.word d) s.entry.address (Plain (left_value s.status s.entry) false))
    (Some (suc done)))
    (recovery_step (BackWord s.entry.address) (Some (suc done)))

-- then store Free, then write back status
unfoldable pub end_step : ℕ → Plan (Option ℕ)
end_step done = cond (eqb (done % 2) 0) (recovery_step (StoreStatus Free) (Some (suc done))) (recovery_step BackStatus None)

-- two steps per entry, of at most four, and those two: 2c + 2 for count c
unfoldable pub live_step : ℕ → ℕ → Seen → Plan (Option ℕ)
live_step d done s = cond (ltb done 8 && ltb (done / 2) s.count) (entry_step d done s) (end_step done)

-- Free: one step
unfoldable pub recovery_plan : ℕ → ℕ → Seen → Plan (Option ℕ)
recovery_plan d done s = cond (eqb done 0 && is_free s.status) (recovery_step Nothing None) (live_step d done s)
