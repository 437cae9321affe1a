use Rattle.std.proofs.Common.{refl}
use Rattle.tree.specs.Ast.{Assign}
use Rattle.grammar.specs.Statements.{after_assign}
use Rattle.parsing.specs.Contract.{span}
use Rattle.parsing.proofs.Places.{begin_with, said, read, three-made, paired, done}
use Rattle.parsing.proofs.StatementEquations.{expr-needed}
use Rattle.parsing.proofs.parser.Parser.assign_stmt.Goals as goal

pub returns : goal.returns
unfolding after_assign
returns c =
    done _ (paired c.pair.ensures (read _ _ c.in_ok-e.ensures (three-made c.push-head.ensures
    (said (expr-needed (Assign (span c.args.name)) _ c.args.depth _) (begin_with c.requires)) refl) refl) refl) refl refl
