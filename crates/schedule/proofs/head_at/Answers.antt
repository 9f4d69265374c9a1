use Rattle.std.proofs.Common.{rules}
use Rattle.schedule.proofs.CodeLaws.{head_end, head_unknown, head_short, head_record}
use Rattle.schedule.proofs.head_at.Goals as goal

pub returns-in_default : goal.returns-in_default
returns-in_default c = search (rules, head_end, c.in_default.ensures.lookup)

pub returns-then-not-is_known : goal.returns-then-not-is_known
returns-then-not-is_known c = head_unknown _ _ _ c.in-Some.field-0 c.in-Some.ensures.lookup (search rules)

pub returns-then-s-at : goal.returns-then-s-at
returns-then-s-at c = head_short _ _ _ c.in-Some.field-0 c.in-Some.ensures.lookup c.length_of-n.result (search rules) (search rules) (search rules)

pub returns : goal.returns
returns c = head_record _ _ _ c.in-Some.field-0 c.in-Some.ensures.lookup c.length_of-n.result (search rules) (search rules) (search rules)
