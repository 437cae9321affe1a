use Rattle.std.proofs.Common.{refl}
use Rattle.lexing.specs.Bytes.{bytes}
use Rattle.grammar.specs.Declarations.{parse_when_clause}
use Rattle.parsing.specs.Contract.{word}
use Rattle.parsing.proofs.Places.{begin, said, taken, stood, read}
use Rattle.parsing.proofs.StatementPlaces.{ends}
use Rattle.parsing.proofs.StatementEquations.{expr-needed}
use Rattle.parsing.proofs.parser.Parser.when.Goals as goal

pub returns : goal.returns
unfolding parse_when_clause
returns c =
    ends _ (read _ _ c.in_ok-need_expr.ensures (said (expr-needed (λ e. e) _ c.args.depth _)
    (taken _ _ _ (stood (word (bytes "when")) 4 _ _ c.in_ok-keyword.ensures c.if-not-branch.false) begin)) refl) refl refl
