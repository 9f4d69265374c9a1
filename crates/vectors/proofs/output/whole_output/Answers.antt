use Rattle.std.proofs.Common.{length, ◌≡◌, ◌+◌, ◌-◌, arith, List, ℕ}
use Rattle.std.proofs.lemmas.Grind.{common_steps}
use borrow.Rule.Slice.PartMut.{put_mid}
use Rattle.drive.specs.PlayingLaws.{all_keep}
use Rattle.vectors.proofs.OutputLaws.{front_fits}
use Rattle.vectors.proofs.output.whole_output.Goals as goal

pub returns : goal.returns
returns c =
    let s = c.play_all-used.new.self in
    let h : length c.play_all-used.new.self.bytes.now ≡ length c.args.out.now = all_keep _ (λ s. length s.bytes.now) (λ s t x n p. p.0) _ _ _ _ c.play_all-used.ensures.played in
    let z : List ℕ = put_mid s.written (length s.bytes.now - s.written) s.bytes.now c.finish-n.new.out in
    let l : length z ≡ length c.play_all-used.new.self.bytes.now = grind (arith, common_steps) in
    omega (arith, front_fits (s.written + c.min.result) z, l, h)
