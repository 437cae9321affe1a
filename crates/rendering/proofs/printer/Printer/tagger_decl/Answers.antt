-- The words and the two names.
use Rattle.std.proofs.Common.{arith}
use Rattle.rendering.proofs.Walk.{prints, begin, text, part, done}
use Rattle.rendering.proofs.printer.Printer.tagger_decl.Goals as goal

pub returns : goal.returns
returns c =
    prints (cc) (cc) (omega arith)
    (λ a rest g d. done (part c.name_then-2.ensures a.typ tt (part c.name_then.ensures a.name tt (text (begin d) c.put.ensures))))
