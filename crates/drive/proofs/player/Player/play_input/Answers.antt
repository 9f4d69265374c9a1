use Rattle.std.proofs.Common.{arith, rules, sym, ap, ◌∙◌, inl, inr, true≢false}
use Rattle.std.specs.Prelude.{take}
use Rattle.std.proofs.lemmas.Bool.{le-leb}
use Rattle.play.specs.Reading.{over_in}
use Rattle.drive.specs.Playing.{PlaysAll}
use Rattle.drive.specs.Playing.Rounds.{none, more}
use Rattle.drive.specs.Playing.Drives.{ended}
use Rattle.drive.proofs.InputLaws.{one_round, something_comes, nothing_comes, all_rounds}
use Rattle.drive.proofs.player.Player.play_input.Goals as goal
use Rattle.drive.proofs.player.Player.play_input.Goals.{then-more-have, else-more-have}

pub loop-init : goal.loop-init
loop-init g c = (omega arith, none)

pub loop-preserved : goal.loop-preserved
loop-preserved g c =
    let e = c.read_on-more.ensures in
    let b = c.read_on-more.new.buf in
    let p : PlaysAll g.Self.Player.plays c.loop.self (take c.read_on-more.result c.read_on-more.new.buf) c.play_all-used.new.self c.play_all-used.result = search rules in
    let r = one_round g.Self.Player.plays g.Self.Player.flushes (λ (s : g.row.Self.Denot). over_in (g.Self.Player.stage_of s)) _ _ _ c.loop.have c.read_on-more.result
    c.play_all-used.result c.keep-have.result c.loop.buf b c.keep-have.new.buf
    (e.no_fewer c.loop.invariant.0) e.what_was_kept.1.0 e.what_was_kept.1.1 p c.flush.ensures c.keep-have.ensures.moved in (
      omega (arith, c.keep-have.ensures.inside, c.keep-have.auto.buf),
      elim c.if-more-have.branch [
        | then-more-have w ↦ absurd (true≢false (sym (le-leb _ _ (omega (arith, w.if-more-have.true))) ∙ (sym w.ended-is ∙ c.if-ended.false)))
        | else-more-have w ↦ more c.loop.invariant.1 r (something_comes c.loop.have c.read_on-more.result b e.what_was_kept.1.0 (omega (arith, w.if-more-have.false)))
            (ap over_in (sym w.stage.ensures) ∙ (sym w.is_over-ended.ensures ∙ (sym w.ended-is ∙ c.if-ended.false)))
      ],
    )

pub returns-after-loop-clause-driven : goal.returns-after-loop-clause-driven
returns-after-loop-clause-driven g c =
    all_rounds g.Self.Player.plays g.Self.Player.flushes (λ (s : g.row.Self.Denot). over_in (g.Self.Player.stage_of s)) _ _ c.loop.counter _
    (omega (arith, c.loop-test.false, c.loop.auto.counter-end)) c.loop.invariant.1

pub returns-then-ended-clause-driven : goal.returns-then-ended-clause-driven
returns-then-ended-clause-driven g c =
    let e = c.read_on-more.ensures in
    let b = c.read_on-more.new.buf in
    let p : PlaysAll g.Self.Player.plays c.loop.self (take c.read_on-more.result c.read_on-more.new.buf) c.play_all-used.new.self c.play_all-used.result = search rules in
    let r = one_round g.Self.Player.plays g.Self.Player.flushes (λ (s : g.row.Self.Denot). over_in (g.Self.Player.stage_of s)) _ _ _ c.loop.have c.read_on-more.result
    c.play_all-used.result c.keep-have.result c.loop.buf b c.keep-have.new.buf
    (e.no_fewer c.loop.invariant.0) e.what_was_kept.1.0 e.what_was_kept.1.1 p c.flush.ensures c.keep-have.ensures.moved in
    elim c.if-more-have.branch [
      | then-more-have w ↦ ended c.loop.invariant.1 r (inl (nothing_comes c.loop.have c.read_on-more.result b e.what_was_kept.1.0 (omega (arith, w.if-more-have.true))))
      | else-more-have w ↦ ended c.loop.invariant.1 r (inr (ap over_in (sym w.stage.ensures) ∙ (sym w.is_over-ended.ensures ∙ (sym w.ended-is ∙ c.if-ended.true))))
    ]
