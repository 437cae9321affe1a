-- Word 24 and a 0 after it.
use Rattle.std.proofs.Common.{subst, sym, Bool}
use borrow.Author.Tests.{ne_eqb}
use Rattle.rendering.specs.StmtParts.{Tells}
use Rattle.rendering.proofs.StmtPrints.Tests.{tells-empty, tells-other}
use Rattle.rendering.proofs.printer.Printer.is_empty_block.Goals as goal

pub returns-then-ahead : goal.returns-then-ahead
returns-then-ahead c = tells-empty c.ahead.ensures c.if-ahead.true c.ahead-then-ahead.ensures

pub returns-else-ahead : goal.returns-else-ahead
returns-else-ahead c =
    subst (λ (r : Bool). Tells c.args.self.now (λ s. s.is_empty_block) r) (sym (ne_eqb c.ahead.result 24 c.if-ahead.false)) (tells-other c.ahead.ensures c.if-ahead.false)
