-- `outline::find_ends` meets its contract: `Ending` is the loop's invariant.
use Rattle.tree.proofs.Outlines.{ending-more, ending-ends}
use Rattle.tree.proofs.outline.find_ends.Goals as goal

pub loop-at-preserved : goal.loop-at-preserved
loop-at-preserved c = ending-more c.loop-at.invariant c.loop-at-test.true c.end_of-end.ensures c.put.ensures

pub returns : goal.returns
returns c = ending-ends c.loop-at.invariant c.loop-at-test.false
