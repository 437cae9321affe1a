-- A name, a colon, and the type after a word.
use Rattle.std.proofs.Common.{arith}
use Rattle.rendering.proofs.Walk.{prints, begin, word, part, done}
use Rattle.rendering.proofs.printer.Printer.typed_apart.Goals as goal

pub returns : goal.returns
returns c = prints (cc) (cc) (omega arith) (λ a rest g d. done (part c.name.ensures a.2 tt (word (part c.name_then.ensures a.0 tt (begin d)) c.word.ensures)))
