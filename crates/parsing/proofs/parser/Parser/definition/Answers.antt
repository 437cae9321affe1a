use Rattle.std.proofs.Common.{refl, sym, ◌∙◌}
use Rattle.lexing.specs.Bytes.{bytes}
use Rattle.grammar.specs.Declarations.{undefined}
use Rattle.parsing.specs.Contract.{sign}
use Rattle.parsing.specs.Code.{inner}
use Rattle.parsing.specs.declared.stmt.Repeated.TheVariants.{Whens}
use Rattle.parsing.proofs.Laws.{reads_err}
use Rattle.parsing.proofs.Places.{said, with_end, refused_at, begin_with, read, read_if, took, taken, skipped, stood, absent, paired, headed, done}
use Rattle.parsing.proofs.Tokens.{no-keyword}
use Rattle.parsing.proofs.DeclarationPlaces.{repetition_rule}
use Rattle.parsing.proofs.DeclarationRules.{definition-is, keyword-stands, no-clauses, some-clauses}
use Rattle.parsing.proofs.parser.Parser.definition.Goals as goal

pub returns-in_err-body : goal.returns-in_err-body
returns-in_err-body c =
    reads_err _ _ _ _ _ _ _ _ c.from_residual-in_err-body.ensures.1
    (refused_at (inner c.args.depth) _ (taken _ _ _ (stood (sign (bytes "{")) 1 _ _ c.in_ok-sym.ensures c.if-branch.true)
    (read_if (repetition_rule Whens c.args.depth) _ _ c.in_ok-when.ensures (said (definition-is _ c.args.depth _) (begin_with c.requires)) refl)) c.in_err-body.ensures)

pub returns-in_err-need_sym : goal.returns-in_err-need_sym
returns-in_err-need_sym c =
    reads_err _ _ _ _ _ _ _ _ c.from_residual-in_err-need_sym.ensures.1
    (refused_at (sign (bytes "}")) _ (read _ _ c.in_ok-body.ensures (taken _ _ _ (stood (sign (bytes "{")) 1 _ _ c.in_ok-sym.ensures c.if-branch.true)
    (read_if (repetition_rule Whens c.args.depth) _ _ c.in_ok-when.ensures (said (definition-is _ c.args.depth _) (begin_with c.requires)) refl)) refl) c.in_err-need_sym.ensures)

pub returns-then-branch : goal.returns-then-branch
returns-then-branch c =
    done _ (headed c.push.ensures (paired c.pair-definition.ensures (took _ _ c.in_ok-need_sym.ensures (read _ _ c.in_ok-body.ensures
    (taken _ _ _ (stood (sign (bytes "{")) 1 _ _ c.in_ok-sym.ensures c.if-branch.true)
    (read_if (repetition_rule Whens c.args.depth) _ _ c.in_ok-when.ensures (said (definition-is _ c.args.depth _) (begin_with c.requires)) refl)) refl)) refl) refl) refl refl

pub returns-then-guarded : goal.returns-then-guarded
returns-then-guarded c =
    let s = keyword-stands c.args.self.now (bytes "when") (sym c.word_here-guarded.ensures ∙ c.if-guarded.true) in
    let w = c.in_ok-when.ensures in
    let l = skipped _ (undefined w.value _) _ (absent (sign (bytes "{")) 1 _ _ c.in_ok-sym.ensures c.if-branch.false)
    (read_if (repetition_rule Whens c.args.depth) _ _ w (said (definition-is _ c.args.depth _) (begin_with c.requires)) refl) in
    rw c.unusable.ensures (l.says ∙ some-clauses _ c.args.depth _ w.says s)

pub returns : goal.returns
returns c =
    let e = no-keyword c.args.self.now _ (bytes "when") (sym c.word_here-guarded.ensures ∙ c.if-guarded.false) refl in
    let w = c.in_ok-when.ensures in
    let l = skipped _ (undefined w.value _) _ (absent (sign (bytes "{")) 1 _ _ c.in_ok-sym.ensures c.if-branch.false)
    (read_if (repetition_rule Whens c.args.depth) _ _ w (said (definition-is _ c.args.depth _) (begin_with c.requires)) refl) in
    done _ (with_end (said (no-clauses _ c.args.depth _ w.says e.says) l)) refl refl
