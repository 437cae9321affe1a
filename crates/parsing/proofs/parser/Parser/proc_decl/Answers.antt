use Rattle.std.proofs.Common.{refl}
use Rattle.grammar.specs.Declarations.{after_procedure}
use Rattle.grammar.specs.Statements.{parse_a_expr_seq}
use Rattle.parsing.specs.Declarations.{body_rule}
use Rattle.parsing.specs.declared.expr.seq.Kind.TheVariants.{Parameters}
use Rattle.parsing.specs.declared.stmt.Repeated.TheVariants.{Requires, Ensures}
use Rattle.parsing.proofs.Laws.{reads_err}
use Rattle.parsing.proofs.Places.{read_if, foured, done}
use Rattle.parsing.proofs.StatementPlaces.{refuses}
use Rattle.parsing.proofs.DeclarationPlaces.{repetition_rule, signed}
use Rattle.parsing.proofs.parser.Parser.proc_decl.Goals as goal

pub returns-in_err-pre : goal.returns-in_err-pre
unfolding after_procedure parse_a_expr_seq
returns-in_err-pre c =
    reads_err _ _ _ _ _ _ _ _ c.from_residual-in_err-pre.ensures.1
    (refuses (repetition_rule Requires c.args.depth) _ _ c.in_err-pre.ensures
    (signed Parameters c.args.depth _ c.requires c.in_ok-name.ensures c.in_ok-need_sym.ensures c.in_ok-parameters.ensures c.pair-head.ensures))

pub returns-in_err-post : goal.returns-in_err-post
unfolding after_procedure parse_a_expr_seq
returns-in_err-post c =
    reads_err _ _ _ _ _ _ _ _ c.from_residual-in_err-post.ensures.1
    (refuses (repetition_rule Ensures c.args.depth) _ _ c.in_err-post.ensures (read_if (repetition_rule Requires c.args.depth) _ _ c.in_ok-pre.ensures
    (signed Parameters c.args.depth _ c.requires c.in_ok-name.ensures c.in_ok-need_sym.ensures c.in_ok-parameters.ensures c.pair-head.ensures) refl))

pub returns-in_err-body : goal.returns-in_err-body
unfolding after_procedure parse_a_expr_seq
returns-in_err-body c =
    reads_err _ _ _ _ _ _ _ _ c.from_residual-in_err-body.ensures.1
    (refuses (body_rule c.args.depth) _ _ c.in_err-body.ensures (read_if (repetition_rule Ensures c.args.depth) _ _ c.in_ok-post.ensures
    (read_if (repetition_rule Requires c.args.depth) _ _ c.in_ok-pre.ensures
    (signed Parameters c.args.depth _ c.requires c.in_ok-name.ensures c.in_ok-need_sym.ensures c.in_ok-parameters.ensures c.pair-head.ensures) refl) refl))

pub returns : goal.returns
unfolding after_procedure parse_a_expr_seq
returns c =
    done _ (foured c.four.ensures (read_if (body_rule c.args.depth) _ _ c.in_ok-body.ensures (read_if (repetition_rule Ensures c.args.depth) _ _ c.in_ok-post.ensures
    (read_if (repetition_rule Requires c.args.depth) _ _ c.in_ok-pre.ensures
    (signed Parameters c.args.depth _ c.requires c.in_ok-name.ensures c.in_ok-need_sym.ensures c.in_ok-parameters.ensures c.pair-head.ensures) refl) refl) refl) refl)
    refl refl
