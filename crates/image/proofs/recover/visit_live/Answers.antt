use Rattle.std.proofs.Common.{rules, arith}
use Rattle.image.proofs.VisitLaws.{going_in, going_stops, address_fits, value_fits, going_halts, going_on, going_over}
use Rattle.image.proofs.recover.visit_live.Goals as goal

pub loop-i-init : goal.loop-i-init
loop-i-init c = search (rules, going_in)

pub returns-in_err-left : goal.returns-in_err-left
returns-in_err-left c = rw c.from_residual.ensures (going_stops _ _ _ _ _ _ _ _ _ c.loop-i.invariant (omega (arith, c.in_err-left.ensures)))

pub replace-requires : goal.replace-requires
replace-requires c = (search (rules, address_fits), (search rules, search (rules, value_fits)))

pub returns-in_err-left-2 : goal.returns-in_err-left-2
returns-in_err-left-2 c =
    let l = c.in_ok-left.ensures in
    rw c.from_residual-in_err-left-2.ensures
    (going_halts _ _ _ _ _ _ _ _ _ c.loop-i.invariant c.loop-i-test.true _ _ c.part-in-loop-i.ensures c.entry_in-e.ensures _ (search rules) _ l.0 c.replace.ensures _ l.1 c.in_err-left-2.ensures)

pub loop-i-preserved : goal.loop-i-preserved
loop-i-preserved c =
    let l = c.in_ok-left.ensures in
    rw c.in_ok-left-2.ensures.1
    (going_on _ _ _ _ _ _ _ _ _ c.loop-i.invariant c.loop-i-test.true _ _ c.part-in-loop-i.ensures c.entry_in-e.ensures _ (search rules) _ l.0 c.replace.ensures _ l.1)

pub returns : goal.returns
returns c = search (rules, going_over)
