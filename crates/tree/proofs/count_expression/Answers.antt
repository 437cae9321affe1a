-- `count_expression` meets its contract: its row is the kind `expr`, by computation.
use mathlib.Core.Path.{ap}
use Rattle.tree.specs.Check.{check_expression, expression_refusal, refusal}
use Rattle.tree.specs.Tally.{expression_counts}
use Rattle.tree.proofs.count_expression.Goals as goal

pub returns : goal.returns
unfolding check_expression expression_refusal expression_counts
returns c = (ap refusal c.count.ensures.0, c.count.ensures.1)
