-- What is written and what the frames stand for are together the root's words; each turn leaves less weight.
use Rattle.std.proofs.Common.{length}
use Rattle.tree.specs.Stack.{items}
use Rattle.reading.proofs.flat.Frames.{weight}
use Rattle.reading.proofs.flat.Walk.{Walks, Places}
use Rattle.reading.proofs.writer.Writer.tree.Given as goal

abbrev pub invariant-loop-frame : goal.invariant-loop-frame
invariant-loop-frame l =
    record {
      places : Places l.stack (length l.fn.places);
      walks : Walks l.arena l.root (items l.stack) l.fn.self l.self;
    }

abbrev pub decreases-loop-frame : goal.decreases-loop-frame
decreases-loop-frame l = weight (items l.stack)
