use Rattle.std.proofs.Common.{arith, refl, inl, ap, ◌∙◌, ◌≡◌, ◌-◌, length, drop}
use Rattle.std.proofs.lemmas.Grind.{common_steps}
use Rattle.std.proofs.lemmas.List.{take_rest}
use borrow.Rule.Slice.PartMut.{put_mid}
use Rattle.play.specs.Done.{played_into}
use Rattle.vectors.proofs.output.OutputPlayer.play_on.Goals as goal

pub returns-clause-played : goal.returns-clause-played
returns-clause-played c =
    let s = c.args.self.now in
    let e : drop s.written (put_mid s.written (length s.bytes.now - s.written) s.bytes.now c.play-r.new.out) ≡ c.play-r.new.out = grind (arith, common_steps) in
    let p = c.play-r.ensures.played ∙ ap (played_into s.memory s.stage c.args.input.now) (take_rest s.bytes.now s.written) in
    (grind (arith, common_steps), record { progress = c.play-r.result; played = rw e p; used = refl; stage = inl refl }, refl, omega arith)
