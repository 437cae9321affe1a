-- The print of the root's tree.
use Rattle.rendering.proofs.EntryAnswers.{prints-by, prints-expression, prints-program}
use Rattle.rendering.proofs.Root.print.Goals as goal

pub returns-in-AnExpression : goal.returns-in-AnExpression
returns-in-AnExpression c = prints-by c.in-AnExpression.is (prints-expression (rw (c.outermost.ensures, c.at.ensures) at c.expr.ensures))

pub returns-in-AProgram : goal.returns-in-AProgram
returns-in-AProgram c = prints-by c.in-AProgram.is (prints-program c.program.ensures)
