-- Opening, adding, removing, submitting, discarding, beginning a read: records 01 to 06 (the paper's section 2.2 and 5.1).
use Rattle.std.specs.Prelude.{Bool, false, cond, not, ◌&&◌, ◌||◌, ℕ, zero, suc, ◌+◌, ◌-◌, eqb, ltb, None, Option, Some}
use Rattle.steps.specs.declared.Own.{Own}
use Rattle.steps.specs.declared.Own.TheVariants.{Operation, Read}
use Rattle.steps.specs.declared.Place.TheVariants.{BackBody}
use Rattle.steps.specs.declared.Worker.{Worker}
use Rattle.steps.specs.declared.Worker.TheVariants.{Idle, Building, Working, Reading, ReadClear}
use Rattle.steps.specs.declared.Entry.{Entry}
use Rattle.steps.specs.Plan.{is_free}
use Rattle.memory.specs.declared.Copy.TheVariants.{Cached, Persisted}
use Rattle.memory.specs.Block.{Block}
use Rattle.memory.specs.Content.{status_in, count_in, put_count, entry_in, put_entry, clear_body, worker_in, put_worker}
use Rattle.events.specs.declared.Answer.TheVariants.{Opened, Refused}
use Rattle.events.specs.Left.{Left, left}

-- the worker owns descriptor d
abbrev pub owner_of : Own → ℕ → Bool
owner_of (Operation e) d = eqb e d
owner_of (Read a) d = false

abbrev pub owns : Worker → ℕ → Bool
owns Idle d = false
owns (Building e) d = eqb e d
owns (Working o e p) d = owner_of o d
owns (Reading a) d = false
owns (ReadClear a v) d = false

-- one of the first n workers does
unfoldable pub owned_below : Block → ℕ → ℕ → Bool
owned_below m d zero = false
owned_below m d (suc n) = owned_below m d n || owns (worker_in m n) d

-- 01: Free in both copies and owned by nobody
unfoldable pub qualifies : Block → ℕ → Bool
qualifies m d = is_free (status_in Cached m d) && (is_free (status_in Persisted m d) && not (owned_below m d 8))

-- the lowest below k that qualifies
abbrev pub found_or : Option ℕ → Option ℕ → Option ℕ
found_or (Some d) f = Some d
found_or None f = f

unfoldable pub lowest_below : Block → ℕ → Option ℕ
lowest_below m zero = None
lowest_below m (suc d) = found_or (lowest_below m d) (cond (qualifies m d) (Some d) None)

-- open it; its cached body becomes zeros (where none qualifies, the table has refused 9 before)
abbrev pub opened : Block → ℕ → Option ℕ → Left
opened m w (Some d) = left (put_worker (clear_body m d) w (Building d)) (Opened d)
opened m w None = left m (Refused 9)

-- the descriptor that a worker is building; 0 where it is building none
abbrev pub build_of : Worker → ℕ
build_of Idle = 0
build_of (Building d) = d
build_of (Working o e p) = 0
build_of (Reading a) = 0
build_of (ReadClear a v) = 0

-- 02: add a word, kept sorted: from entry i down, those for a higher address move up by one
unfoldable pub inserted : ℕ → Block → ℕ → Entry → Block
inserted zero m d e = put_entry m d 0 e
inserted (suc i) m d e =
    cond (ltb e.address (entry_in Cached m d i).address)
    (inserted i (put_entry m d (suc i) (entry_in Cached m d i)) d e)
    (put_entry m d (suc i) e)

-- (a body has room for four)
unfoldable pub added : Block → ℕ → Entry → Block
added m d e = cond (ltb (count_in Cached m d) 4) (put_count (inserted (count_in Cached m d) m d e) d (count_in Cached m d + 1)) m

-- 03: remove a word: the later entries, n of them, move down; the place left over becomes zeros
abbrev pub no_entry : Entry
no_entry = record { address = 0; expected = 0; desired = 0 }

unfoldable pub moved_down : ℕ → Block → ℕ → ℕ → Block
moved_down zero m d i = put_entry m d i no_entry
moved_down (suc n) m d i = moved_down n (put_entry m d i (entry_in Cached m d (suc i))) d (suc i)

unfoldable pub removed_entry : Block → ℕ → ℕ → Block
removed_entry m d i = cond (ltb i (count_in Cached m d)) (put_count (moved_down (count_in Cached m d - 1 - i) m d i) d (count_in Cached m d - 1)) m

abbrev pub removed_at : Block → ℕ → Option ℕ → Block
removed_at m d (Some i) = removed_entry m d i
removed_at m d None = m

-- 04: submit; 05: discard, the worker is idle, the body stays; 06: begin a read
abbrev pub submitted : Block → ℕ → ℕ → Block
submitted m w d = put_worker m w (Working (Operation d) d BackBody)

abbrev pub discarded : Block → ℕ → Block
discarded m w = put_worker m w Idle

abbrev pub reading : Block → ℕ → ℕ → Block
reading m w a = put_worker m w (Reading a)
