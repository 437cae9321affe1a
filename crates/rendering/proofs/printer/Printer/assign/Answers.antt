-- The name and the value.
use Rattle.std.proofs.Common.{arith}
use Rattle.layout.specs.Statements.{shown}
use Rattle.rendering.proofs.Walk.{prints, ready, begin, text, part, done}
use Rattle.rendering.proofs.printer.Printer.assign.Goals as goal

pub returns : goal.returns
unfolding shown
returns c =
    prints (cc) (cc) (omega arith)
    (λ a rest g d. done (text (part c.inline.ensures a.1 (ready g.0 (omega arith) (omega arith), g.1) (part c.name_then.ensures a.0 tt (begin d))) c.put.ensures))
