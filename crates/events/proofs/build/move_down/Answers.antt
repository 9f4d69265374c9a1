use Rattle.std.proofs.Common.{◌≡◌, ◌+◌, ◌-◌, suc, arith}
use Rattle.events.specs.Build.{moved_down}
use Rattle.events.proofs.build.move_down.Goals as goal

pub loop-j-preserved : goal.loop-j-preserved
unfolding moved_down
loop-j-preserved c =
    let n : c.args.i + c.args.n - c.loop-j.j ≡ suc (c.args.i + c.args.n - (c.loop-j.j + 1)) = omega arith in
    let k : c.loop-j.j + 1 ≡ suc c.loop-j.j = omega arith in
    rw (c.put_entry.ensures, c.read_entry-x.ensures, k) (rw (n, k) at c.loop-j.invariant)
