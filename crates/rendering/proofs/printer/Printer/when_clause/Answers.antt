-- The indent, the word and the expression.
use Rattle.std.proofs.Common.{arith}
use Rattle.rendering.proofs.Walk.{prints, ready, begin, text, part, done}
use Rattle.rendering.proofs.printer.Printer.when_clause.Goals as goal

pub returns : goal.returns
returns c =
    prints (cc) (cc) (omega arith)
    (λ e rest g d.
    let start = text (text (begin d) c.indent.ensures) c.put.ensures in
    done (text (part c.inline.ensures e (ready g.0 (omega arith) (omega arith), g.1) start) c.put-2.ensures))
