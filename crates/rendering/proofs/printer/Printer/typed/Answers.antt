-- A name, a colon and its type.
use Rattle.std.proofs.Common.{arith}
use Rattle.rendering.proofs.Walk.{prints, begin, part, done}
use Rattle.rendering.proofs.printer.Printer.typed.Goals as goal

pub returns : goal.returns
returns c =
    prints (cc) (cc) (omega arith)
    (λ a rest g d. done (part c.name.ensures a.1 tt (part c.name_then.ensures a.0 tt (begin d))))
