-- A block on lines of its own.
use Rattle.std.proofs.Common.{arith}
use Rattle.rendering.proofs.Walk.{prints, ready, begin, text, part, done}
use Rattle.rendering.proofs.printer.Printer.body.Goals as goal

pub returns : goal.returns
returns c =
    prints (cc) (cc) (omega arith)
    (λ s rest g d. done (text (part c.block.ensures s (ready g.0 (omega arith) (omega arith), g.1) (begin d)) c.put.ensures))
