use Rattle.parsing.proofs.Folds.{Folding}
use Rattle.parsing.proofs.parser.Parser.fold.Given as goal

abbrev pub invariant-loop-self : goal.invariant-loop-self
invariant-loop-self l = Folding l.fn.self l.first l.last l.self l.link l.e

abbrev pub decreases-loop-self : goal.decreases-loop-self
decreases-loop-self l = l.link
