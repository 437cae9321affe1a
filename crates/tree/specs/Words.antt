-- The words of each kind (REFERENCE, "The tree words"), in the order of the constructor's fields. Each function takes the words that follow,
-- so `expr_words span e []` are e's words alone. `span` gives the start and the length of a name; it is `λ s. s` where the names are spans.
use Rattle.std.specs.Prelude.{ℕ, ◌/◌, ◌%◌, ◌^◌, Bool, true, false, List, [], ◌∷◌}
use Rattle.std.proofs.Math.Option.{Option, none, some}
use Rattle.tree.specs.Tags.{more, no_more, b_literal_tag, i_literal_tag, custom_literal_tag, id_expr_tag, operator_expr_tag, function_call_expr_tag, labeled_expr_tag, let_expr_tag, quantifier_expr_tag, closure_expr_tag}
use Rattle.tree.specs.Tags.{var_decl_tag, assign_tag, reinit_tag, block_tag, call_tag, check_tag, assume_tag, reach_tag, assert_tag, a_forall_tag, choose_tag, if_tag, if_case_tag, loop_tag, labeled_stmt_tag, exit_tag, return_tag, probe_tag, a_expr_tag, a_assertion_tag}
use Rattle.tree.specs.Ast.{Span, ParameterMode, In, InOut, Out, Binding, binding, Variable, CallArgument}
use Rattle.tree.specs.Ast.{Tagger, FParameter, FunctionDefinition, Function, Axiom, PParameter, Procedure, Program}
use Rattle.tree.specs.Ast.{Operator, IfThenElse, Equiv, LogicalImp, LogicalAnd, LogicalOr, Eq, Neq, Less, AtMost, Plus, Minus, Times, Div, Mod, LogicalNot, UnaryMinus}
use Rattle.tree.specs.Ast.{Expr, BLiteral, ILiteral, CustomLiteral, IdExpr, OperatorExpr, FunctionCallExpr, LabeledExpr, LetExpr, QuantifierExpr, ClosureExpr}
use Rattle.tree.specs.Ast.{Exprs, no_exprs, ◌then◌, Patterns, no_patterns, pattern}
use Rattle.tree.specs.Ast.{ClosureBindings, no_closure_bindings, closure_binding, ClosureProperties, no_closure_properties, closure_property}
use Rattle.tree.specs.Ast.{Stmt, VarDecl, Assign, Reinit, Block, Call, Check, Assume, Reach, Assert, AForall, Choose, If, IfCase, Loop, LabeledStmt, Exit, Return, Probe}
use Rattle.tree.specs.Ast.{Stmts, no_stmts, stmts, Cases, no_cases, case, AExpr, a_expr, AAssertion, AExprs, no_a_exprs, a_exprs}

-- Bool: 0 or 1
abbrev pub bool_word : Bool → ℕ
bool_word false = 0
bool_word true = 1

-- Operator is 1 to 16, in datatype order
abbrev pub operator_word : Operator → ℕ
operator_word IfThenElse = 1
operator_word Equiv = 2
operator_word LogicalImp = 3
operator_word LogicalAnd = 4
operator_word LogicalOr = 5
operator_word Eq = 6
operator_word Neq = 7
operator_word Less = 8
operator_word AtMost = 9
operator_word Plus = 10
operator_word Minus = 11
operator_word Times = 12
operator_word Div = 13
operator_word Mod = 14
operator_word LogicalNot = 15
operator_word UnaryMinus = 16

-- In 1, InOut 2, Out 3
abbrev pub mode_word : ParameterMode → ℕ
mode_word In = 1
mode_word InOut = 2
mode_word Out = 3

-- Natural: high word, low word
abbrev pub natural_words : ℕ → List ℕ → List ℕ
natural_words n rest = n / 2 ^ 32 ∷ n % 2 ^ 32 ∷ rest

-- Option: 0, or 1 and the content
abbrev pub option_words : {A : Type 0} → (A → List ℕ → List ℕ) → Option A → List ℕ → List ℕ
option_words words none rest = no_more ∷ rest
option_words words (some a) rest = more ∷ words a rest

-- Sequence: 1 before each item, 0 at the end
abbrev pub seq_words : {A : Type 0} → (A → List ℕ → List ℕ) → List A → List ℕ → List ℕ
seq_words words [] rest = no_more ∷ rest
seq_words words (a ∷ l) rest = more ∷ words a (seq_words words l rest)

module _ {N : Type 0} (span : N → Span) where
  -- String: start and length in the text
  abbrev pub name_words : N → List ℕ → List ℕ
  name_words n rest = (span n).start ∷ (span n).len ∷ rest

  abbrev pub binding_words : Binding N → List ℕ → List ℕ
  binding_words (binding n t) rest = name_words n (name_words t rest)

  -- Expr begins with 1 to 10
  abbrev mutual
    pub expr_words : Expr N → List ℕ → List ℕ
    expr_words (BLiteral b) rest = b_literal_tag ∷ bool_word b ∷ rest
    expr_words (ILiteral n) rest = i_literal_tag ∷ natural_words n rest
    expr_words (CustomLiteral s t) rest = custom_literal_tag ∷ name_words s (name_words t rest)
    expr_words (IdExpr n o) rest = id_expr_tag ∷ name_words n (bool_word o ∷ rest)
    expr_words (OperatorExpr o es) rest = operator_expr_tag ∷ operator_word o ∷ exprs_words es rest
    expr_words (FunctionCallExpr n es) rest = function_call_expr_tag ∷ name_words n (exprs_words es rest)
    expr_words (LabeledExpr n e) rest = labeled_expr_tag ∷ name_words n (expr_words e rest)
    expr_words (LetExpr n t r e) rest = let_expr_tag ∷ name_words n (option_words name_words t (expr_words r (expr_words e rest)))
    expr_words (QuantifierExpr u bs ps e) rest = quantifier_expr_tag ∷ bool_word u ∷ seq_words binding_words bs (patterns_words ps (expr_words e rest))
    expr_words (ClosureExpr bs n t ps) rest = closure_expr_tag ∷ closure_bindings_words bs (name_words n (name_words t (closure_properties_words ps rest)))

    pub exprs_words : Exprs N → List ℕ → List ℕ
    exprs_words no_exprs rest = no_more ∷ rest
    exprs_words (◌then◌ e es) rest = more ∷ expr_words e (exprs_words es rest)

    pub patterns_words : Patterns N → List ℕ → List ℕ
    patterns_words no_patterns rest = no_more ∷ rest
    patterns_words (pattern es ps) rest = more ∷ exprs_words es (patterns_words ps rest)

    pub closure_bindings_words : ClosureBindings N → List ℕ → List ℕ
    closure_bindings_words no_closure_bindings rest = no_more ∷ rest
    closure_bindings_words (closure_binding n ps e bs) rest = more ∷ name_words n (seq_words binding_words ps (expr_words e (closure_bindings_words bs rest)))

    pub closure_properties_words : ClosureProperties N → List ℕ → List ℕ
    closure_properties_words no_closure_properties rest = no_more ∷ rest
    closure_properties_words (closure_property ts e ps) rest = more ∷ patterns_words ts (expr_words e (closure_properties_words ps rest))

  abbrev pub variable_words : Variable N → List ℕ → List ℕ
  variable_words v rest =
      name_words v.name
      (bool_word v.is_mutable ∷ option_words name_words v.optional_type (option_words expr_words v.optional_auto_inv rest))

  abbrev pub call_argument_words : CallArgument N → List ℕ → List ℕ
  call_argument_words a rest = mode_word a.mode ∷ expr_words a.arg rest

  -- Stmt begins with 21 to 38; `AExpr` 1, `AAssertion` 2
  abbrev mutual
    pub stmt_words : Stmt N → List ℕ → List ℕ
    stmt_words (VarDecl v i s) rest = var_decl_tag ∷ variable_words v (option_words expr_words i (stmt_words s rest))
    stmt_words (Assign n e) rest = assign_tag ∷ name_words n (expr_words e rest)
    stmt_words (Reinit ns) rest = reinit_tag ∷ seq_words name_words ns rest
    stmt_words (Block ss) rest = block_tag ∷ stmts_words ss rest
    stmt_words (Call n cs) rest = call_tag ∷ name_words n (seq_words call_argument_words cs rest)
    stmt_words (Check e) rest = check_tag ∷ expr_words e rest
    stmt_words (Assume e) rest = assume_tag ∷ expr_words e rest
    stmt_words (Reach e) rest = reach_tag ∷ expr_words e rest
    stmt_words (Assert e) rest = assert_tag ∷ expr_words e rest
    stmt_words (AForall n t s) rest = a_forall_tag ∷ name_words n (name_words t (stmt_words s rest))
    stmt_words (Choose ss) rest = choose_tag ∷ stmts_words ss rest
    stmt_words (If e s t) rest = if_tag ∷ expr_words e (stmt_words s (stmt_words t rest))
    stmt_words (IfCase cs) rest = if_case_tag ∷ cases_words cs rest
    stmt_words (Loop is s) rest = loop_tag ∷ a_exprs_words is (stmt_words s rest)
    stmt_words (LabeledStmt n s) rest = labeled_stmt_tag ∷ name_words n (stmt_words s rest)
    stmt_words (Exit l) rest = exit_tag ∷ option_words name_words l rest
    stmt_words Return rest = return_tag ∷ rest
    stmt_words (Probe e) rest = probe_tag ∷ expr_words e rest

    pub stmts_words : Stmts N → List ℕ → List ℕ
    stmts_words no_stmts rest = no_more ∷ rest
    stmts_words (stmts s ss) rest = more ∷ stmt_words s (stmts_words ss rest)

    pub cases_words : Cases N → List ℕ → List ℕ
    cases_words no_cases rest = no_more ∷ rest
    cases_words (case e s cs) rest = more ∷ expr_words e (stmt_words s (cases_words cs rest))

    pub a_expr_words : AExpr N → List ℕ → List ℕ
    a_expr_words (a_expr e) rest = a_expr_tag ∷ expr_words e rest
    a_expr_words (AAssertion s) rest = a_assertion_tag ∷ stmt_words s rest

    pub a_exprs_words : AExprs N → List ℕ → List ℕ
    a_exprs_words no_a_exprs rest = no_more ∷ rest
    a_exprs_words (a_exprs a es) rest = more ∷ a_expr_words a (a_exprs_words es rest)

  abbrev pub tagger_words : Tagger N → List ℕ → List ℕ
  tagger_words t rest = name_words t.name (name_words t.typ rest)

  abbrev pub f_parameter_words : FParameter N → List ℕ → List ℕ
  f_parameter_words p rest = name_words p.name (bool_word p.injective ∷ name_words p.typ rest)

  abbrev pub function_definition_words : FunctionDefinition N → List ℕ → List ℕ
  function_definition_words d rest = exprs_words d.when (expr_words d.body rest)

  abbrev pub function_words : Function N → List ℕ → List ℕ
  function_words g rest =
      name_words g.name
      (seq_words f_parameter_words g.parameters
      (name_words g.result_type (option_words name_words g.tag (option_words function_definition_words g.definition rest))))

  abbrev pub axiom_words : Axiom N → List ℕ → List ℕ
  axiom_words a rest = seq_words name_words a.explains (expr_words a.expr rest)

  abbrev pub p_parameter_words : PParameter N → List ℕ → List ℕ
  p_parameter_words p rest =
      name_words p.name (mode_word p.mode ∷ name_words p.typ (option_words expr_words p.optional_auto_inv rest))

  abbrev pub procedure_words : Procedure N → List ℕ → List ℕ
  procedure_words p rest =
      name_words p.name
      (seq_words p_parameter_words p.parameters
      (a_exprs_words p.pre (a_exprs_words p.post (option_words stmt_words p.body rest))))

  -- A program is its five sequences
  abbrev pub program_words : Program N → List ℕ → List ℕ
  program_words p rest =
      seq_words name_words p.types
      (seq_words tagger_words p.taggers
      (seq_words function_words p.functions (seq_words axiom_words p.axioms (seq_words procedure_words p.procedures rest))))
