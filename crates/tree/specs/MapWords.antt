-- A tree's words depend on its names' spans alone: mapping the names and then taking the words is taking the words by the mapped names' spans.
-- So a tree over names inside a text has the words of the same tree over spans. The laws are equations of functions of what follows.
use Rattle.std.specs.Prelude.{ℕ, ◌≡◌, refl, List, [], ◌∷◌, map}
use Rattle.std.proofs.Math.Option.{Option, none, some}
use Rattle.tree.specs.Ast.{Span, Binding, binding, CallArgument}
use Rattle.tree.specs.Ast.{FunctionDefinition, Function, Axiom, PParameter, Procedure, Program}
use Rattle.tree.specs.Ast.{Expr, BLiteral, ILiteral, CustomLiteral, IdExpr, OperatorExpr, FunctionCallExpr, LabeledExpr, LetExpr, QuantifierExpr, ClosureExpr}
use Rattle.tree.specs.Ast.{Exprs, no_exprs, ◌then◌, Patterns, no_patterns, pattern}
use Rattle.tree.specs.Ast.{ClosureBindings, no_closure_bindings, closure_binding, ClosureProperties, no_closure_properties, closure_property}
use Rattle.tree.specs.Ast.{Stmt, VarDecl, Assign, Reinit, Block, Call, Check, Assume, Reach, Assert, AForall, Choose, If, IfCase, Loop, LabeledStmt, Exit, Return, Probe}
use Rattle.tree.specs.Ast.{Stmts, no_stmts, stmts, Cases, no_cases, case, AExpr, a_expr, AAssertion, AExprs, no_a_exprs, a_exprs}
use Rattle.tree.specs.Resolve.{map_option, map_binding, map_expr, map_exprs, map_patterns, map_closure_bindings, map_closure_properties, map_call_argument, map_stmt, map_stmts, map_cases, map_a_expr, map_a_exprs}
use Rattle.tree.specs.Resolve.{map_tagger, map_f_parameter, map_function_definition, map_function, map_axiom, map_p_parameter, map_procedure, map_program}
use Rattle.tree.specs.Words.{bool_word, operator_word, mode_word, name_words, option_words, seq_words, binding_words, expr_words, exprs_words, patterns_words, closure_bindings_words, closure_properties_words}
use Rattle.tree.specs.Words.{call_argument_words, stmt_words, stmts_words, cases_words, a_expr_words, a_exprs_words}
use Rattle.tree.specs.Words.{tagger_words, f_parameter_words, function_definition_words, function_words, axiom_words, p_parameter_words, procedure_words, program_words}

module _ {A B : Type 0} (p : A → List ℕ → List ℕ) (q : B → List ℕ → List ℕ) (m : A → B) (each : (a : A) → p a ≡ q (m a)) where
  option_map : (t : Option A) → option_words p t ≡ option_words q (map_option m t)
  option_map none = refl
  option_map (some a) = λ i rest. 1 ∷ each a i rest

  seq-map : (t : List A) → seq_words p t ≡ seq_words q (map m t)
  seq-map [] = refl
  seq-map (a ∷ l) = λ i rest. 1 ∷ each a i (seq-map l i rest)

module _ {N M : Type 0} (g : M → Span) (f : N → M) where
  abbrev h : N → Span
  h n = g (f n)

  names-map : (t : List N) → seq_words (name_words h) t ≡ seq_words (name_words g) (map f t)
  names-map t = seq-map (name_words h) (name_words g) f (λ n. refl) t

  name-option : (t : Option N) → option_words (name_words h) t ≡ option_words (name_words g) (map_option f t)
  name-option t = option_map (name_words h) (name_words g) f (λ n. refl) t

  binding-map : (b : Binding N) → binding_words h b ≡ binding_words g (map_binding f b)
  binding-map (binding n t) = refl

  bindings-map : (t : List (Binding N)) → seq_words (binding_words h) t ≡ seq_words (binding_words g) (map (map_binding f) t)
  bindings-map t = seq-map (binding_words h) (binding_words g) (map_binding f) binding-map t

  mutual
    pub expr-map : (t : Expr N) → expr_words h t ≡ expr_words g (map_expr f t)
    expr-map (BLiteral b) = refl
    expr-map (ILiteral n) = refl
    expr-map (CustomLiteral s t) = refl
    expr-map (IdExpr n o) = refl
    expr-map (OperatorExpr o es) = λ i rest. 5 ∷ operator_word o ∷ exprs-map es i rest
    expr-map (FunctionCallExpr n es) = λ i rest. 6 ∷ name_words h n (exprs-map es i rest)
    expr-map (LabeledExpr n e) = λ i rest. 7 ∷ name_words h n (expr-map e i rest)
    expr-map (LetExpr n t r e) = λ i rest. 8 ∷ name_words h n (name-option t i (expr-map r i (expr-map e i rest)))
    expr-map (QuantifierExpr u bs ps e) = λ i rest. 9 ∷ bool_word u ∷ bindings-map bs i (patterns-map ps i (expr-map e i rest))
    expr-map (ClosureExpr bs n t ps) =
        λ i rest. 10 ∷ closure_bindings-map bs i (name_words h n (name_words h t (closure_properties-map ps i rest)))

    exprs-map : (t : Exprs N) → exprs_words h t ≡ exprs_words g (map_exprs f t)
    exprs-map no_exprs = refl
    exprs-map (◌then◌ e es) = λ i rest. 1 ∷ expr-map e i (exprs-map es i rest)

    patterns-map : (t : Patterns N) → patterns_words h t ≡ patterns_words g (map_patterns f t)
    patterns-map no_patterns = refl
    patterns-map (pattern es ps) = λ i rest. 1 ∷ exprs-map es i (patterns-map ps i rest)

    closure_bindings-map : (t : ClosureBindings N) → closure_bindings_words h t ≡ closure_bindings_words g (map_closure_bindings f t)
    closure_bindings-map no_closure_bindings = refl
    closure_bindings-map (closure_binding n ps e bs) =
        λ i rest. 1 ∷ name_words h n (bindings-map ps i (expr-map e i (closure_bindings-map bs i rest)))

    closure_properties-map : (t : ClosureProperties N) → closure_properties_words h t ≡ closure_properties_words g (map_closure_properties f t)
    closure_properties-map no_closure_properties = refl
    closure_properties-map (closure_property ts e ps) = λ i rest. 1 ∷ patterns-map ts i (expr-map e i (closure_properties-map ps i rest))

  expr-option : (t : Option (Expr N)) → option_words (expr_words h) t ≡ option_words (expr_words g) (map_option (map_expr f) t)
  expr-option t = option_map (expr_words h) (expr_words g) (map_expr f) expr-map t

  arguments-map : (t : List (CallArgument N)) → seq_words (call_argument_words h) t ≡ seq_words (call_argument_words g) (map (map_call_argument f) t)
  arguments-map t =
      seq-map (call_argument_words h) (call_argument_words g) (map_call_argument f) (λ a i rest. mode_word a.mode ∷ expr-map a.arg i rest) t

  mutual
    pub stmt-map : (t : Stmt N) → stmt_words h t ≡ stmt_words g (map_stmt f t)
    stmt-map (VarDecl v e s) =
        λ i rest. 21 ∷ name_words h v.name (bool_word v.is_mutable
        ∷ name-option v.optional_type i (expr-option v.optional_auto_inv i (expr-option e i (stmt-map s i rest))))
    stmt-map (Assign n e) = λ i rest. 22 ∷ name_words h n (expr-map e i rest)
    stmt-map (Reinit ns) = λ i rest. 23 ∷ names-map ns i rest
    stmt-map (Block ss) = λ i rest. 24 ∷ stmts-map ss i rest
    stmt-map (Call n cs) = λ i rest. 25 ∷ name_words h n (arguments-map cs i rest)
    stmt-map (Check e) = λ i rest. 26 ∷ expr-map e i rest
    stmt-map (Assume e) = λ i rest. 27 ∷ expr-map e i rest
    stmt-map (Reach e) = λ i rest. 28 ∷ expr-map e i rest
    stmt-map (Assert e) = λ i rest. 29 ∷ expr-map e i rest
    stmt-map (AForall n t s) = λ i rest. 30 ∷ name_words h n (name_words h t (stmt-map s i rest))
    stmt-map (Choose ss) = λ i rest. 31 ∷ stmts-map ss i rest
    stmt-map (If e s t) = λ i rest. 32 ∷ expr-map e i (stmt-map s i (stmt-map t i rest))
    stmt-map (IfCase cs) = λ i rest. 33 ∷ cases-map cs i rest
    stmt-map (Loop es s) = λ i rest. 34 ∷ a_exprs-map es i (stmt-map s i rest)
    stmt-map (LabeledStmt n s) = λ i rest. 35 ∷ name_words h n (stmt-map s i rest)
    stmt-map (Exit l) = λ i rest. 36 ∷ name-option l i rest
    stmt-map Return = refl
    stmt-map (Probe e) = λ i rest. 38 ∷ expr-map e i rest

    stmts-map : (t : Stmts N) → stmts_words h t ≡ stmts_words g (map_stmts f t)
    stmts-map no_stmts = refl
    stmts-map (stmts s ss) = λ i rest. 1 ∷ stmt-map s i (stmts-map ss i rest)

    cases-map : (t : Cases N) → cases_words h t ≡ cases_words g (map_cases f t)
    cases-map no_cases = refl
    cases-map (case e s cs) = λ i rest. 1 ∷ expr-map e i (stmt-map s i (cases-map cs i rest))

    a_expr-map : (t : AExpr N) → a_expr_words h t ≡ a_expr_words g (map_a_expr f t)
    a_expr-map (a_expr e) = λ i rest. 1 ∷ expr-map e i rest
    a_expr-map (AAssertion s) = λ i rest. 2 ∷ stmt-map s i rest

    a_exprs-map : (t : AExprs N) → a_exprs_words h t ≡ a_exprs_words g (map_a_exprs f t)
    a_exprs-map no_a_exprs = refl
    a_exprs-map (a_exprs a es) = λ i rest. 1 ∷ a_expr-map a i (a_exprs-map es i rest)

  definition-map : (d : FunctionDefinition N) → function_definition_words h d ≡ function_definition_words g (map_function_definition f d)
  definition-map d = λ i rest. exprs-map d.when i (expr-map d.body i rest)

  function-map : (t : Function N) → function_words h t ≡ function_words g (map_function f t)
  function-map t =
      λ i rest. name_words h t.name
      (seq-map (f_parameter_words h) (f_parameter_words g) (map_f_parameter f) (λ p. refl) t.parameters i
      (name_words h t.result_type
      (name-option t.tag i
      (option_map (function_definition_words h) (function_definition_words g) (map_function_definition f) definition-map t.definition i rest))))

  axiom-map : (t : Axiom N) → axiom_words h t ≡ axiom_words g (map_axiom f t)
  axiom-map t = λ i rest. names-map t.explains i (expr-map t.expr i rest)

  p_parameter-map : (t : PParameter N) → p_parameter_words h t ≡ p_parameter_words g (map_p_parameter f t)
  p_parameter-map t =
      λ i rest. name_words h t.name (mode_word t.mode ∷ name_words h t.typ (expr-option t.optional_auto_inv i rest))

  procedure-map : (t : Procedure N) → procedure_words h t ≡ procedure_words g (map_procedure f t)
  procedure-map t =
      λ i rest. name_words h t.name
      (seq-map (p_parameter_words h) (p_parameter_words g) (map_p_parameter f) p_parameter-map t.parameters i
      (a_exprs-map t.pre i
      (a_exprs-map t.post i (option_map (stmt_words h) (stmt_words g) (map_stmt f) stmt-map t.body i rest))))

  pub program-map : (t : Program N) → program_words h t ≡ program_words g (map_program f t)
  program-map t =
      λ i rest. names-map t.types i
      (seq-map (tagger_words h) (tagger_words g) (map_tagger f) (λ p. refl) t.taggers i
      (seq-map (function_words h) (function_words g) (map_function f) function-map t.functions i
      (seq-map (axiom_words h) (axiom_words g) (map_axiom f) axiom-map t.axioms i
      (seq-map (procedure_words h) (procedure_words g) (map_procedure f) procedure-map t.procedures i rest))))
