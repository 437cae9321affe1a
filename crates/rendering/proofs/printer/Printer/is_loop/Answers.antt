-- Word 34.
use Rattle.rendering.proofs.StmtPrints.Tests.{tells-loop}
use Rattle.rendering.proofs.printer.Printer.is_loop.Goals as goal

pub returns : goal.returns
returns c = tells-loop c.ahead.ensures
