-- Every row of the table holds, by computation.
use Rattle.std.specs.Prelude.{refl}
use Rattle.word.specs.Word.{sort_of}
use Rattle.word.specs.Status.{status_of}
use Rattle.little.specs.Number.{number_at}
use Rattle.steps.specs.Operation.{more_of, install, persist_clear, swap, swap_clear}
use Rattle.steps.specs.Recovery.{entry_step, end_step, live_step, recovery_plan}
use Rattle.codes.specs.Place.{place_of}
use Rattle.codes.specs.Row.{worker_of, recovery_of}
use Rattle.memory.specs.Block.{slot, at, store}
use Rattle.memory.specs.Content.{entry_in, cleared_to, copied, put_row, idled}
use Rattle.memory.specs.Fresh.{fresh_of}
use Rattle.memory.specs.Value.{entry_for, value_of}
use Rattle.events.specs.Refusal.{first_of, refusal_of}
use Rattle.events.specs.Build.{owned_below, qualifies, lowest_below, inserted, added}
use Rattle.machine.specs.Step.{seen_in, other_on, others_on, plan_at, work_step, read_step}
use Rattle.machine.specs.Recover.{crashed, visit_after, recovery_plan_at, recovery_step_at}
use Rattle.machine.specs.Apply.{apply_of}
use Rattle.schedule.specs.Record.{length_of, known, verdict_of, head_of, body_of}
use Rattle.schedule.specs.Content.{event_of}
use Rattle.answers.specs.Decimal.{digits_of, decimal_of}
use Rattle.answers.specs.Line.{line_of, values_below, last_line}
use Rattle.play.specs.Tick.{number_after, play_of}
use Rattle.runs.specs.Row.{Every}
use Rattle.runs.specs.Test.{every_holds}
use Rattle.runs.specs.Table.{table}

pub runs_hold : Every table
unfolding sort_of status_of number_at more_of install persist_clear swap swap_clear entry_step end_step live_step recovery_plan place_of worker_of recovery_of
    slot at store entry_in cleared_to copied put_row idled fresh_of entry_for value_of
    first_of refusal_of owned_below qualifies lowest_below inserted added
    seen_in other_on others_on plan_at work_step read_step crashed visit_after recovery_plan_at recovery_step_at apply_of
    length_of known verdict_of head_of body_of event_of digits_of decimal_of line_of values_below last_line number_after play_of
runs_hold = every_holds table refl
