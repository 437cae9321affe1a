-- A line end and the indent.
use Rattle.rendering.proofs.Writing.Bytes.{puts-then}
use Rattle.rendering.proofs.printer.Printer.space.Goals as goal

pub returns-in-MultipleLines : goal.returns-in-MultipleLines
returns-in-MultipleLines c = rw c.in-MultipleLines.is (puts-then c.put-in-MultipleLines.ensures c.indent.ensures)
