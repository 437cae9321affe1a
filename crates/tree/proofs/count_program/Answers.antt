-- `count_program` meets its contract: its row is the kinds of a program's fields, by computation.
use mathlib.Core.Path.{ap}
use Rattle.tree.specs.Check.{check_program, program_refusal, refusal}
use Rattle.tree.specs.Tally.{program_counts}
use Rattle.tree.proofs.count_program.Goals as goal

pub returns : goal.returns
unfolding check_program program_refusal program_counts
returns c = (ap refusal c.count.ensures.0, c.count.ensures.1)
