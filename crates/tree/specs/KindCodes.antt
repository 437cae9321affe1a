-- The kinds that the code's enum (src/kind.rt) stands for, and their numbers.
use Rattle.std.specs.Prelude.{ℕ}
use Rattle.tree.specs.Kind.{Kind, bool, operator, mode, natural, name, expr, stmt, aexpr, option, seq}
use Rattle.tree.specs.Kind.{of_name, of_expr, of_binding, of_pattern, of_closure_binding, of_closure_property, of_stmt, of_call_argument, of_case, of_a_expr, of_tagger, of_f_parameter, of_function, of_axiom, of_p_parameter, of_procedure}
use Rattle.tree.specs.Kind.{a_name, an_expr, a_stmt, a_definition}
use Rattle.tree.specs.KindNumbers.{kind_number}
use Rattle.tree.specs.declared.kind.Kind.{Kind as KindCode}
use Rattle.tree.specs.declared.kind.Kind.TheVariants as kind

abbrev pub as_kind : KindCode → Kind
as_kind kind.Bool = bool
as_kind kind.Operator = operator
as_kind kind.Mode = mode
as_kind kind.Expr = expr
as_kind kind.Stmt = stmt
as_kind kind.AExpr = aexpr
as_kind kind.OptionName = option a_name
as_kind kind.OptionExpr = option an_expr
as_kind kind.OptionStmt = option a_stmt
as_kind kind.OptionDefinition = option a_definition
as_kind kind.Names = seq of_name
as_kind kind.Exprs = seq of_expr
as_kind kind.Bindings = seq of_binding
as_kind kind.Patterns = seq of_pattern
as_kind kind.ClosureBindings = seq of_closure_binding
as_kind kind.ClosureProperties = seq of_closure_property
as_kind kind.Stmts = seq of_stmt
as_kind kind.CallArguments = seq of_call_argument
as_kind kind.Cases = seq of_case
as_kind kind.AExprs = seq of_a_expr
as_kind kind.Taggers = seq of_tagger
as_kind kind.FParameters = seq of_f_parameter
as_kind kind.Functions = seq of_function
as_kind kind.Axioms = seq of_axiom
as_kind kind.PParameters = seq of_p_parameter
as_kind kind.Procedures = seq of_procedure
as_kind kind.Name = name
as_kind kind.Natural = natural

abbrev pub kind_code : KindCode → ℕ
kind_code k = kind_number (as_kind k)
