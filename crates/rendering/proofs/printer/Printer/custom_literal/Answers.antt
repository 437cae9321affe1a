-- A custom literal's text and type between bars.
use Rattle.std.proofs.Common.{arith}
use Rattle.rendering.proofs.Walk.{prints, begin, text, part, done}
use Rattle.rendering.proofs.printer.Printer.custom_literal.Goals as goal

pub returns : goal.returns
returns c =
    prints (cc) (cc) (omega arith)
    (λ a rest g d. done (text (part c.typed.ensures a tt (text (begin d) c.put.ensures)) c.put-2.ensures))
