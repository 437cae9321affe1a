-- The word and the label.
use Rattle.std.proofs.Common.{arith, rules}
use Rattle.layout.specs.Statements.{shown}
use Rattle.rendering.specs.Parts.{a_name}
use Rattle.rendering.specs.StmtParts.{a_named}
use Rattle.rendering.proofs.Walk.{prints, ready, begin, text, part, done}
use Rattle.rendering.proofs.Sequences.{by-one-call, plainly, option-counted, printed-option}
use Rattle.rendering.proofs.printer.Printer.exit.Goals as goal

pub returns : goal.returns
unfolding shown
returns c =
    let label = printed-option a_named (λ s s' r. plainly a_named (by-one-call a_name r (search rules))) c.optional.ensures in
    prints (cc) (cc) (let f = label.forward in omega arith)
    (λ o rest g d. done (text (part label o (ready g.0 (omega arith) (omega arith), option-counted o _) (text (begin d) c.put.ensures)) c.put-2.ensures))
