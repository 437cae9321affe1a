use Rattle.tree.proofs.Outlines.{Ending}
use Rattle.tree.proofs.outline.find_ends.Given as goal

abbrev pub invariant-loop-at : goal.invariant-loop-at
invariant-loop-at l = Ending l.words l.kinds l.initial.ends l.ends l.at
