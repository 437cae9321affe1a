use Rattle.std.proofs.Common.{refl}
use Rattle.lexing.specs.Bytes.{bytes}
use Rattle.tree.specs.Ast.{Call}
use Rattle.grammar.specs.Statements.{after_call}
use Rattle.parsing.specs.Contract.{span}
use Rattle.parsing.specs.Expressions.{list_rule}
use Rattle.parsing.specs.declared.expr.seq.Kind.TheVariants.{Arguments}
use Rattle.parsing.proofs.Places.{begin_with, said, three-made, paired, done}
use Rattle.parsing.proofs.StatementPlaces.{read-all}
use Rattle.parsing.proofs.StatementEquations.{must-need}
use Rattle.parsing.proofs.parser.Parser.call_stmt.Goals as goal

pub returns : goal.returns
unfolding after_call
returns c =
    done _ (paired c.pair.ensures (read-all (list_rule Arguments (bytes ")") c.args.depth) _ c.in_ok-arguments.ensures (three-made c.push-head.ensures
    (said (must-need (Call (span c.args.name)) _ _) (begin_with c.requires)) refl) refl) refl) refl refl
