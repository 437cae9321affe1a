use Rattle.std.proofs.Common.{refl}
use Rattle.grammar.specs.Steps.{parse_name}
use Rattle.grammar.specs.Declarations.{after_function, parse_tag, parse_function_definition}
use Rattle.parsing.specs.Code.{opening}
use Rattle.parsing.specs.declared.expr.seq.Kind.TheVariants.{Formals}
use Rattle.parsing.proofs.Laws.{reads_err}
use Rattle.parsing.proofs.Places.{refused_at, read, read_if, took, foured, done}
use Rattle.parsing.proofs.StatementPlaces.{refuses}
use Rattle.parsing.proofs.DeclarationPlaces.{signed}
use Rattle.parsing.proofs.parser.Parser.function_decl.Goals as goal

pub returns-in_err-typ : goal.returns-in_err-typ
unfolding after_function
returns-in_err-typ c =
    reads_err _ _ _ _ _ _ _ _ c.from_residual-in_err-typ.ensures.1
    (refused_at parse_name _ (took _ _ c.in_ok-need_sym-2.ensures
    (signed Formals c.args.depth _ c.requires c.in_ok-name.ensures c.in_ok-need_sym.ensures c.in_ok-formals.ensures c.pair-head.ensures)) c.in_err-typ.ensures)

pub returns-in_err-tag : goal.returns-in_err-tag
unfolding after_function
returns-in_err-tag c =
    reads_err _ _ _ _ _ _ _ _ c.from_residual-in_err-tag.ensures.1
    (refuses parse_tag _ _ c.in_err-tag.ensures (read _ _ c.in_ok-typ.ensures (took _ _ c.in_ok-need_sym-2.ensures
    (signed Formals c.args.depth _ c.requires c.in_ok-name.ensures c.in_ok-need_sym.ensures c.in_ok-formals.ensures c.pair-head.ensures)) refl))

pub returns-in_err-definition : goal.returns-in_err-definition
unfolding after_function
returns-in_err-definition c =
    reads_err _ _ _ _ _ _ _ _ c.from_residual-in_err-definition.ensures.1
    (refuses (opening parse_function_definition c.args.depth) _ _ c.in_err-definition.ensures (read_if parse_tag _ _ c.in_ok-tag.ensures (read _ _ c.in_ok-typ.ensures
    (took _ _ c.in_ok-need_sym-2.ensures
    (signed Formals c.args.depth _ c.requires c.in_ok-name.ensures c.in_ok-need_sym.ensures c.in_ok-formals.ensures c.pair-head.ensures)) refl) refl))

pub returns : goal.returns
unfolding after_function
returns c =
    done _ (foured c.four.ensures (read_if (opening parse_function_definition c.args.depth) _ _ c.in_ok-definition.ensures (read_if parse_tag _ _ c.in_ok-tag.ensures
    (read _ _ c.in_ok-typ.ensures (took _ _ c.in_ok-need_sym-2.ensures
    (signed Formals c.args.depth _ c.requires c.in_ok-name.ensures c.in_ok-need_sym.ensures c.in_ok-formals.ensures c.pair-head.ensures)) refl) refl) refl) refl) refl refl
