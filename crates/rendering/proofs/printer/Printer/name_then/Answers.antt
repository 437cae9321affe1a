-- A name, and text.
use Rattle.std.proofs.Common.{arith}
use Rattle.rendering.proofs.Walk.{prints, begin, text, part, done}
use Rattle.rendering.proofs.printer.Printer.name_then.Goals as goal

pub returns : goal.returns
returns c = prints (cc) (cc) (omega arith) (λ n rest g d. done (text (part c.name.ensures n tt (begin d)) c.put.ensures))
