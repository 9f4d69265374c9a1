use Rattle.std.proofs.Common.{rules, refl, sym, ◌∙◌}
use Rattle.play.proofs.RunLaws.{fits, turn_record, turn_unknown, turn_rests, turn_over}
use Rattle.play.proofs.run.turn.Goals as goal

pub returns-then-is_over : goal.returns-then-is_over
returns-then-is_over c = turn_over _ _ _ _ _ _ (sym c.is_over.ensures ∙ c.if-is_over.true)

pub returns-in-Record : goal.returns-in-Record
returns-in-Record c =
    turn_record _ _ c.has_begun.result _ _ _ _ c.head_at.result (sym c.is_over.ensures ∙ c.if-is_over.false) c.has_begun.ensures c.head_at.ensures.0 _ _ _ _ _ _ c.in-Record.is c.body_at.ensures c.record_turn.ensures

pub returns-in-Unknown : goal.returns-in-Unknown
returns-in-Unknown c = search (rules, turn_unknown)

pub returns-in-Short : goal.returns-in-Short
returns-in-Short c = search (rules, turn_rests)

pub overflow_add-p : goal.overflow_add-p
overflow_add-p c =
    let f = fits _ _ _ _ _ _ c.in-Record.ensures.0 refl in
    search rules

pub overflow_add-p-in-Record : goal.overflow_add-p-in-Record
overflow_add-p-in-Record c =
    let f = fits _ _ _ _ _ _ c.in-Record.ensures.0 refl in
    search rules
