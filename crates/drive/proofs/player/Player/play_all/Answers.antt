use Rattle.std.proofs.Common.{◌≤◌, ◌-◌, length, drop, arith, rules, length-drop, ◌≡◌}
use Rattle.std.proofs.lemmas.List.{take_rest}
use Rattle.drive.specs.Playing.Calls.{none, more}
use Rattle.drive.proofs.CallLaws.{stops, uses_up}
use Rattle.drive.proofs.player.Player.play_all.Goals as goal

pub loop-used-init : goal.loop-used-init
loop-used-init g c = (omega arith, none)

pub loop-used-preserved : goal.loop-used-preserved
loop-used-preserved g c =
    let s = c.args.input.now in
    let h : c.play_on.result ≤ length s - c.loop-used.used = grind (arith, length-drop) in
    let p : g.Self.Player.plays c.loop-used.self (drop c.loop-used.used s) c.play_on.new.self c.play_on.result = search (rules, take_rest) in
    (omega (arith, c.loop-used-test.true, h), more c.loop-used.invariant.1 p (search rules))

pub returns-in-0-clause-played : goal.returns-in-0-clause-played
returns-in-0-clause-played g c =
    let s = c.args.input.now in
    let p : g.Self.Player.plays c.loop-used.self (drop c.loop-used.used s) c.play_on.new.self c.play_on.result = search (rules, take_rest) in
    stops g.Self.Player.plays _ _ _ s c.loop-used.used c.play_on.result c.loop-used.invariant.1 p c.in-0.is

pub returns-clause-played : goal.returns-clause-played
returns-clause-played g c =
    let e : c.loop-used.used ≡ length c.args.input.now = omega (arith, c.loop-used-test.false, c.loop-used.invariant.0) in
    uses_up g.Self.Player.plays _ _ c.args.input.now c.loop-used.used c.loop-used.invariant.1 e
