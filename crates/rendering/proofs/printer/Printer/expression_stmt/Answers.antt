-- The word and the expression.
use Rattle.std.proofs.Common.{arith}
use Rattle.rendering.proofs.Walk.{prints, ready, begin, text, part, done}
use Rattle.rendering.proofs.printer.Printer.expression_stmt.Goals as goal

pub returns : goal.returns
returns c = prints (cc) (cc) (omega arith) (λ e rest g d. done (text (part c.inline.ensures e (ready g.0 (omega arith) (omega arith), g.1) (text (begin d) c.put.ensures)) c.put-2.ensures))
