use Rattle.std.proofs.Common.{refl}
use Rattle.tree.specs.Ast.{Reinit}
use Rattle.parsing.proofs.Places.{begin_with, said, read, headed, done}
use Rattle.parsing.proofs.StatementEquations.{must-need}
use Rattle.parsing.proofs.parser.Parser.reinit.Goals as goal

pub returns : goal.returns
returns c =
    done _ (headed c.push.ensures (read _ _ c.in_ok-names.ensures (said (must-need Reinit _ _) (begin_with c.requires)) refl) refl) refl refl
