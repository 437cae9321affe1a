-- A name's two words give its part of the text.
use Rattle.std.proofs.Common.{arith}
use Rattle.rendering.proofs.Walk.{prints, printed-name}
use Rattle.rendering.proofs.printer.Printer.name.Goals as goal

pub returns : goal.returns
returns c =
    prints (cc) (cc) (omega arith)
    (printed-name c.word-start.ensures c.word-size.ensures c.name.ensures c.put.ensures)
