-- The words of the code's enums (src/word.rt): of an operator and a mode those of the datatype's constructor, of a tag that which begins its
-- constructor's words.
use Rattle.std.specs.Prelude.{ℕ, ◌≡◌, ◌↔◌, Option, Some, Result, Ok}
use Rattle.tree.specs.Ast.{Operator, ParameterMode}
use Rattle.tree.specs.Ast as ast
use Rattle.tree.specs.Words.{operator_word, mode_word}
use Rattle.tree.specs.Tags.{b_literal_tag, i_literal_tag, custom_literal_tag, id_expr_tag, operator_expr_tag, function_call_expr_tag, labeled_expr_tag, let_expr_tag, quantifier_expr_tag, closure_expr_tag}
use Rattle.tree.specs.Tags.{var_decl_tag, assign_tag, reinit_tag, block_tag, call_tag, check_tag, assume_tag, reach_tag, assert_tag, a_forall_tag, choose_tag, if_tag, if_case_tag, loop_tag, labeled_stmt_tag, exit_tag, return_tag, probe_tag, a_expr_tag, a_assertion_tag}
use Rattle.tree.specs.declared.word.Mode.{Mode}
use Rattle.tree.specs.declared.word.Mode.TheVariants as mode
use Rattle.tree.specs.declared.word.Operator.{Operator as OperatorCode}
use Rattle.tree.specs.declared.word.Operator.TheVariants as operator
use Rattle.tree.specs.declared.word.ExprTag.{ExprTag}
use Rattle.tree.specs.declared.word.ExprTag.TheVariants as expr
use Rattle.tree.specs.declared.word.StmtTag.{StmtTag}
use Rattle.tree.specs.declared.word.StmtTag.TheVariants as stmt
use Rattle.tree.specs.declared.word.AExprTag.{AExprTag}
use Rattle.tree.specs.declared.word.AExprTag.TheVariants as aexpr

-- the mode and the operator that are meant
abbrev pub as_mode : Mode → ParameterMode
as_mode mode.In = ast.In
as_mode mode.InOut = ast.InOut
as_mode mode.Out = ast.Out

abbrev pub as_operator : OperatorCode → Operator
as_operator operator.IfThenElse = ast.IfThenElse
as_operator operator.Equiv = ast.Equiv
as_operator operator.LogicalImp = ast.LogicalImp
as_operator operator.LogicalAnd = ast.LogicalAnd
as_operator operator.LogicalOr = ast.LogicalOr
as_operator operator.Eq = ast.Eq
as_operator operator.Neq = ast.Neq
as_operator operator.Less = ast.Less
as_operator operator.AtMost = ast.AtMost
as_operator operator.Plus = ast.Plus
as_operator operator.Minus = ast.Minus
as_operator operator.Times = ast.Times
as_operator operator.Div = ast.Div
as_operator operator.Mod = ast.Mod
as_operator operator.LogicalNot = ast.LogicalNot
as_operator operator.UnaryMinus = ast.UnaryMinus

-- the words
abbrev pub mode_code : Mode → ℕ
mode_code m = mode_word (as_mode m)

abbrev pub operator_code : OperatorCode → ℕ
operator_code o = operator_word (as_operator o)

abbrev pub expr_code : ExprTag → ℕ
expr_code expr.BLiteral = b_literal_tag
expr_code expr.ILiteral = i_literal_tag
expr_code expr.CustomLiteral = custom_literal_tag
expr_code expr.IdExpr = id_expr_tag
expr_code expr.OperatorExpr = operator_expr_tag
expr_code expr.FunctionCallExpr = function_call_expr_tag
expr_code expr.LabeledExpr = labeled_expr_tag
expr_code expr.LetExpr = let_expr_tag
expr_code expr.QuantifierExpr = quantifier_expr_tag
expr_code expr.ClosureExpr = closure_expr_tag

abbrev pub stmt_code : StmtTag → ℕ
stmt_code stmt.VarDecl = var_decl_tag
stmt_code stmt.Assign = assign_tag
stmt_code stmt.Reinit = reinit_tag
stmt_code stmt.Block = block_tag
stmt_code stmt.Call = call_tag
stmt_code stmt.Check = check_tag
stmt_code stmt.Assume = assume_tag
stmt_code stmt.Reach = reach_tag
stmt_code stmt.Assert = assert_tag
stmt_code stmt.AForall = a_forall_tag
stmt_code stmt.Choose = choose_tag
stmt_code stmt.If = if_tag
stmt_code stmt.IfCase = if_case_tag
stmt_code stmt.Loop = loop_tag
stmt_code stmt.LabeledStmt = labeled_stmt_tag
stmt_code stmt.Exit = exit_tag
stmt_code stmt.Return = return_tag
stmt_code stmt.Probe = probe_tag

abbrev pub aexpr_code : AExprTag → ℕ
aexpr_code aexpr.AExpr = a_expr_tag
aexpr_code aexpr.AAssertion = a_assertion_tag

-- what is found for a word: exactly the one that has it, and none where none has
abbrev pub Decodes : {E : Type 0} → (E → ℕ) → ℕ → Option E → Type 0
Decodes {E} code word r = (e : E) → (r ≡ Some e) ↔ (code e ≡ word)

-- the same as a conversion answers it
abbrev pub Converts : {E X : Type 0} → (E → ℕ) → ℕ → Result E X → Type 0
Converts {E} code word r = (e : E) → (r ≡ Ok e) ↔ (code e ≡ word)
