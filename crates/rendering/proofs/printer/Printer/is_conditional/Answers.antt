-- Word 32 or 33.
use Rattle.rendering.proofs.StmtPrints.Tests.{tells-if, tells-case}
use Rattle.rendering.proofs.printer.Printer.is_conditional.Goals as goal

pub returns-then-tag : goal.returns-then-tag
returns-then-tag c = rw c.if-tag.true (tells-if c.ahead-tag.ensures c.if-tag.true)

pub returns-else-tag : goal.returns-else-tag
returns-else-tag c = tells-case c.ahead-tag.ensures c.if-tag.false
