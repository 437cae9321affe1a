-- The check of the root's trees.
use Rattle.rendering.proofs.EntryAnswers.{checked-by}
use Rattle.rendering.proofs.Root.count.Goals as goal

pub returns-in-AnExpression : goal.returns-in-AnExpression
returns-in-AnExpression c =
    checked-by c.args.text.now c.args.words.now c.args.counts.now c.in-AnExpression.is
    c.count_expression.ensures

pub returns-in-AProgram : goal.returns-in-AProgram
returns-in-AProgram c =
    checked-by c.args.text.now c.args.words.now c.args.counts.now c.in-AProgram.is c.count_program.ensures
