use Rattle.std.proofs.Common.{refl}
use Rattle.grammar.specs.Declarations.{TopLevel}
use Rattle.grammar.specs.OperatorTrees.{most_depth}
use Rattle.parsing.specs.Code.{inner, opening}
use Rattle.parsing.proofs.Entries.{run-reads, must-reads}
use Rattle.parsing.proofs.parser.Parser.whole.Goals as goal

pub returns-in-Expression : goal.returns-in-Expression
returns-in-Expression c = rw c.in-Expression.is (run-reads _ (inner most_depth) 1 0 0 9 _ _ _ refl refl c.need_expr.ensures)

pub returns-in-Program : goal.returns-in-Program
returns-in-Program c = rw c.in-Program.is (run-reads _ (opening TopLevel most_depth) 0 9 0 9 _ _ _ refl refl (must-reads _ _ 0 9 _ _ _ c.program.ensures))
