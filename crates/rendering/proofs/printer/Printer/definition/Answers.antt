-- The clauses and the body.
use Rattle.std.proofs.Common.{arith}
use Rattle.rendering.proofs.Walk.{prints, ready, begin, text, part, done}
use Rattle.rendering.proofs.printer.Printer.definition.Goals as goal

pub returns : goal.returns
returns c =
    prints (cc) (cc) (omega arith)
    (λ a rest g d.
    let clauses = part c.whens.ensures a.when (ready g.0 (omega arith) (omega arith), g.1.1) (begin d) in
    done (text (part c.indented.ensures a.body (ready g.0 (omega arith) (omega arith), g.1.2) (text clauses c.put.ensures)) c.put-2.ensures))
