use Rattle.std.proofs.Common.{refl}
use Rattle.grammar.specs.Declarations.{after_axiom, parse_explains}
use Rattle.parsing.specs.Code.{opening}
use Rattle.parsing.proofs.Places.{said, begin_with, read, read_if, paired, done}
use Rattle.parsing.proofs.StatementEquations.{expr-needed}
use Rattle.parsing.proofs.parser.Parser.axiom_decl.Goals as goal

pub returns : goal.returns
unfolding after_axiom
returns c =
    done _ (paired c.pair.ensures (read _ _ c.in_ok-e.ensures (said (expr-needed _ _ c.args.depth _) (read_if (opening parse_explains c.args.depth) _ _ c.in_ok-names.ensures
    (begin_with c.requires) refl)) refl) refl) refl refl
