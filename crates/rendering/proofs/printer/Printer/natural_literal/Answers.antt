-- A natural's two words give its value.
use Rattle.std.proofs.Common.{arith}
use Rattle.rendering.proofs.Walk.{prints, printed-natural}
use Rattle.rendering.proofs.printer.Printer.natural_literal.Goals as goal

pub returns : goal.returns
returns c =
    prints (cc) (cc) (omega arith)
    (printed-natural c.natural-value.ensures c.word.ensures c.word-2.ensures c.decimal.ensures)
