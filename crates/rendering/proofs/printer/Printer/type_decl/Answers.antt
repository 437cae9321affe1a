-- The word and the name.
use Rattle.std.proofs.Common.{arith}
use Rattle.rendering.proofs.Walk.{prints, begin, text, part, done}
use Rattle.rendering.proofs.printer.Printer.type_decl.Goals as goal

pub returns : goal.returns
returns c = prints (cc) (cc) (omega arith) (λ n rest g d. done (part c.name_then.ensures n tt (text (begin d) c.put.ensures)))
