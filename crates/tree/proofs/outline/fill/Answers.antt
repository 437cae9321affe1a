-- `outline::fill` meets its contract.
use Rattle.tree.proofs.Outlines.{filled-cut}
use Rattle.tree.proofs.outline.fill.Goals as goal

pub returns : goal.returns
returns c = rw c.copy_from_slice.ensures.after (filled-cut c.args.from.now c.args.to.now c.min-n.result c.min-n.ensures)
