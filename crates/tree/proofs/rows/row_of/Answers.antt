-- `rows::row_of` meets its contract: by the enum that the word is decoded to.
use mathlib.Core.Path.{ap, ◌∙◌}
use mathlib.Core.Bool.{Bool}
use Rattle.tree.specs.Kind.{fits, second}
use Rattle.tree.proofs.RowLaws.{bool-row, operator-row, mode-row, expr-row, stmt-row, aexpr-row, expr-none, stmt-none, aexpr-none}
use Rattle.tree.proofs.rows.row_of.Goals as goal

pub returns-in-Bool : goal.returns-in-Bool
returns-in-Bool c = rw c.in-Bool.is (c.leaf.ensures ∙ bool-row c.args.word)

pub returns-in-Operator : goal.returns-in-Operator
returns-in-Operator c =
    rw c.in-Operator.is
    (c.leaf-in-Operator.ensures ∙ ap (λ (b : Bool). second b 0) c.is_some.ensures ∙ operator-row _ c.args.word c.from_word.ensures)

pub returns-in-Mode : goal.returns-in-Mode
returns-in-Mode c =
    rw c.in-Mode.is
    (c.leaf-in-Mode.ensures ∙ ap (λ (b : Bool). second b 0) c.is_some-in-Mode.ensures ∙ mode-row _ c.args.word c.from_word-in-Mode.ensures)

pub returns-in_ok-from_word-in-Expr : goal.returns-in_ok-from_word-in-Expr
returns-in_ok-from_word-in-Expr c = rw c.in-Expr.is (ap fits c.expr_row.ensures ∙ expr-row _ c.args.word c.in_ok-from_word-in-Expr.ensures)

pub returns-in_err-from_word-in-Expr : goal.returns-in_err-from_word-in-Expr
returns-in_err-from_word-in-Expr c = rw (c.in-Expr.is, c.from_residual.ensures) (expr-none c.args.word c.in_err-from_word-in-Expr.ensures)

pub returns-in_ok-from_word-in-Stmt : goal.returns-in_ok-from_word-in-Stmt
returns-in_ok-from_word-in-Stmt c = rw c.in-Stmt.is (ap fits c.stmt_row.ensures ∙ stmt-row _ c.args.word c.in_ok-from_word-in-Stmt.ensures)

pub returns-in_err-from_word-in-Stmt : goal.returns-in_err-from_word-in-Stmt
returns-in_err-from_word-in-Stmt c = rw (c.in-Stmt.is, c.from_residual-in_err-from_word-in-Stmt.ensures) (stmt-none c.args.word c.in_err-from_word-in-Stmt.ensures)

pub returns-in_ok-from_word-in-AExpr : goal.returns-in_ok-from_word-in-AExpr
returns-in_ok-from_word-in-AExpr c = rw c.in-AExpr.is (ap fits c.aexpr_row.ensures ∙ aexpr-row _ c.args.word c.in_ok-from_word-in-AExpr.ensures)

pub returns-in_err-from_word-in-AExpr : goal.returns-in_err-from_word-in-AExpr
returns-in_err-from_word-in-AExpr c = rw (c.in-AExpr.is, c.from_residual-in_err-from_word-in-AExpr.ensures) (aexpr-none c.args.word c.in_err-from_word-in-AExpr.ensures)
