use lib.Bits.{and_mask}
use Rattle.word.specs.Word.{sort_of}
use Rattle.word.proofs.Masks.{clear, raised, tested}
use Rattle.word.proofs.sort_of.Goals as goal

pub returns-then-w-ne0 : goal.returns-then-w-ne0
unfolding sort_of
returns-then-w-ne0 c = let w = c.args.w in simp (raised 61 w c.if-w-ne0.true)

pub returns-then-w-ne0-2 : goal.returns-then-w-ne0-2
unfolding sort_of
returns-then-w-ne0-2 c =
    let w = c.args.w in
    simp (clear 61 w c.if-w-ne0.false, raised 62 w c.if-w-ne0-2.true, tested 63 w, and_mask w 61)

pub returns : goal.returns
unfolding sort_of
returns c =
    let w = c.args.w in
    simp (clear 61 w c.if-w-ne0.false, clear 62 w c.if-w-ne0-2.false, tested 63 w, and_mask w 61)
