use Rattle.feed.proofs.KeepLaws.{keep_some}
use Rattle.feed.proofs.keep.Goals as goal

pub returns-clause-moved : goal.returns-clause-moved
returns-clause-moved c =
    let copy = c.copy_within.ensures in
    keep_some _ _ _ _ c.if-buf-to.false c.if-to-from.false copy.len copy.by_index.0 copy.by_index.2
