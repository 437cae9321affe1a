-- The numbers of items that a walk over a tree's words needs: for each sequence of the tree, its length at the place where it starts. The
-- table has `size` words, so what stands before a rest of so many words starts at `size` less their number. Each predicate takes the words
-- that follow, as the words do; what it says of a tree is, by computation, what it says of the fields.
use Rattle.std.specs.Prelude.{ℕ, suc, ◌-◌, ◌≡◌, List, [], ◌∷◌, length, get_or}
use Rattle.std.proofs.Math.Option.{Option, none, some}
use Rattle.tree.specs.Ast.{Span, CallArgument}
use Rattle.tree.specs.Ast.{FunctionDefinition, Function, Axiom, PParameter, Procedure, Program}
use Rattle.tree.specs.Ast.{Expr, BLiteral, ILiteral, CustomLiteral, IdExpr, OperatorExpr, FunctionCallExpr, LabeledExpr, LetExpr, QuantifierExpr, ClosureExpr}
use Rattle.tree.specs.Ast.{Exprs, no_exprs, ◌then◌, Patterns, no_patterns, pattern}
use Rattle.tree.specs.Ast.{ClosureBindings, no_closure_bindings, closure_binding, ClosureProperties, no_closure_properties, closure_property}
use Rattle.tree.specs.Ast.{Stmt, VarDecl, Assign, Reinit, Block, Call, Check, Assume, Reach, Assert, AForall, Choose, If, IfCase, Loop, LabeledStmt, Exit, Return, Probe}
use Rattle.tree.specs.Ast.{Stmts, no_stmts, stmts, Cases, no_cases, case, AExpr, a_expr, AAssertion, AExprs, no_a_exprs, a_exprs}
use Rattle.tree.specs.Words.{option_words, seq_words, name_words, binding_words, expr_words, exprs_words, patterns_words, closure_bindings_words, closure_properties_words}
use Rattle.tree.specs.Words.{call_argument_words, stmt_words, stmts_words, cases_words, a_exprs_words}
use Rattle.tree.specs.Words.{tagger_words, f_parameter_words, function_definition_words, function_words, axiom_words, p_parameter_words, procedure_words}

-- ---- how many items a sequence has

module _ {N : Type 0} where
  abbrev pub expr_count : Exprs N → ℕ
  expr_count no_exprs = 0
  expr_count (◌then◌ e es) = suc (expr_count es)

  abbrev pub pattern_count : Patterns N → ℕ
  pattern_count no_patterns = 0
  pattern_count (pattern es ps) = suc (pattern_count ps)

  abbrev pub closure_binding_count : ClosureBindings N → ℕ
  closure_binding_count no_closure_bindings = 0
  closure_binding_count (closure_binding n ps e bs) = suc (closure_binding_count bs)

  abbrev pub closure_property_count : ClosureProperties N → ℕ
  closure_property_count no_closure_properties = 0
  closure_property_count (closure_property ts e ps) = suc (closure_property_count ps)

  abbrev pub stmt_count : Stmts N → ℕ
  stmt_count no_stmts = 0
  stmt_count (stmts s ss) = suc (stmt_count ss)

  abbrev pub case_count : Cases N → ℕ
  case_count no_cases = 0
  case_count (case e s cs) = suc (case_count cs)

  abbrev pub a_expr_count : AExprs N → ℕ
  a_expr_count no_a_exprs = 0
  a_expr_count (a_exprs a es) = suc (a_expr_count es)

-- an option's content has it
abbrev pub CountedOption : {A : Type 0} → (A → List ℕ → Type 0) → Option A → List ℕ → Type 0
CountedOption P none rest = Unit {0}
CountedOption P (some a) rest = P a rest

-- each item of a list has it, before the words of the items after it
abbrev pub CountedItems : {A : Type 0} → (A → List ℕ → List ℕ) → (A → List ℕ → Type 0) → List A → List ℕ → Type 0
CountedItems words P [] rest = Unit {0}
CountedItems words P (a ∷ l) rest = P a (seq_words words l rest) × CountedItems words P l rest

module _ {N : Type 0} (span : N → Span) (counts : List ℕ) (size : ℕ) where
  -- the number at the place of these words
  abbrev pub Noted : List ℕ → ℕ → Type 0
  Noted ws n = get_or counts (size - length ws) 0 ≡ n

  -- a list whose items hold no sequences
  abbrev pub NotedList : {A : Type 0} → (A → List ℕ → List ℕ) → List A → List ℕ → Type 0
  NotedList words l rest = Noted (seq_words words l rest) (length l)

  -- a list with its items
  abbrev pub CountedList : {A : Type 0} → (A → List ℕ → List ℕ) → (A → List ℕ → Type 0) → List A → List ℕ → Type 0
  CountedList words P l rest = NotedList words l rest × CountedItems words P l rest

  -- Of an expression: the numbers of its sequences, and of its parts. Of a sequence: of its items; its own number is noted where it starts.
  abbrev mutual
    pub CountedExpr : Expr N → List ℕ → Type 0
    CountedExpr (BLiteral b) rest = Unit {0}
    CountedExpr (ILiteral n) rest = Unit {0}
    CountedExpr (CustomLiteral s t) rest = Unit {0}
    CountedExpr (IdExpr n o) rest = Unit {0}
    CountedExpr (OperatorExpr o es) rest = Noted (exprs_words span es rest) (expr_count es) × CountedExprs es rest
    CountedExpr (FunctionCallExpr n es) rest = Noted (exprs_words span es rest) (expr_count es) × CountedExprs es rest
    CountedExpr (LabeledExpr n e) rest = CountedExpr e rest
    CountedExpr (LetExpr n t r e) rest = CountedExpr r (expr_words span e rest) × CountedExpr e rest
    CountedExpr (QuantifierExpr u bs ps e) rest =
        NotedList (binding_words span) bs (patterns_words span ps (expr_words span e rest))
        × Noted (patterns_words span ps (expr_words span e rest)) (pattern_count ps)
        × CountedPatterns ps (expr_words span e rest)
        × CountedExpr e rest
    CountedExpr (ClosureExpr bs n t ps) rest =
        Noted (closure_bindings_words span bs (name_words span n (name_words span t (closure_properties_words span ps rest)))) (closure_binding_count bs)
        × CountedClosureBindings bs (name_words span n (name_words span t (closure_properties_words span ps rest)))
        × Noted (closure_properties_words span ps rest) (closure_property_count ps)
        × CountedClosureProperties ps rest

    pub CountedExprs : Exprs N → List ℕ → Type 0
    CountedExprs no_exprs rest = Unit {0}
    CountedExprs (◌then◌ e es) rest = CountedExpr e (exprs_words span es rest) × CountedExprs es rest

    pub CountedPatterns : Patterns N → List ℕ → Type 0
    CountedPatterns no_patterns rest = Unit {0}
    CountedPatterns (pattern es ps) rest =
        Noted (exprs_words span es (patterns_words span ps rest)) (expr_count es)
        × CountedExprs es (patterns_words span ps rest)
        × CountedPatterns ps rest

    pub CountedClosureBindings : ClosureBindings N → List ℕ → Type 0
    CountedClosureBindings no_closure_bindings rest = Unit {0}
    CountedClosureBindings (closure_binding n ps e bs) rest =
        NotedList (binding_words span) ps (expr_words span e (closure_bindings_words span bs rest))
        × CountedExpr e (closure_bindings_words span bs rest)
        × CountedClosureBindings bs rest

    pub CountedClosureProperties : ClosureProperties N → List ℕ → Type 0
    CountedClosureProperties no_closure_properties rest = Unit {0}
    CountedClosureProperties (closure_property ts e ps) rest =
        Noted (patterns_words span ts (expr_words span e (closure_properties_words span ps rest))) (pattern_count ts)
        × CountedPatterns ts (expr_words span e (closure_properties_words span ps rest))
        × CountedExpr e (closure_properties_words span ps rest)
        × CountedClosureProperties ps rest

  -- ---- statements

  abbrev pub CountedCallArgument : CallArgument N → List ℕ → Type 0
  CountedCallArgument a rest = CountedExpr a.arg rest

  abbrev mutual
    pub CountedStmt : Stmt N → List ℕ → Type 0
    CountedStmt (VarDecl v i s) rest =
        CountedOption CountedExpr v.optional_auto_inv (option_words (expr_words span) i (stmt_words span s rest))
        × CountedOption CountedExpr i (stmt_words span s rest)
        × CountedStmt s rest
    CountedStmt (Assign n e) rest = CountedExpr e rest
    CountedStmt (Reinit ns) rest = NotedList (name_words span) ns rest
    CountedStmt (Block ss) rest = Noted (stmts_words span ss rest) (stmt_count ss) × CountedStmts ss rest
    CountedStmt (Call n cs) rest = CountedList (call_argument_words span) CountedCallArgument cs rest
    CountedStmt (Check e) rest = CountedExpr e rest
    CountedStmt (Assume e) rest = CountedExpr e rest
    CountedStmt (Reach e) rest = CountedExpr e rest
    CountedStmt (Assert e) rest = CountedExpr e rest
    CountedStmt (AForall n t s) rest = CountedStmt s rest
    CountedStmt (Choose ss) rest = Noted (stmts_words span ss rest) (stmt_count ss) × CountedStmts ss rest
    CountedStmt (If e s t) rest = CountedExpr e (stmt_words span s (stmt_words span t rest)) × CountedStmt s (stmt_words span t rest) × CountedStmt t rest
    CountedStmt (IfCase cs) rest = Noted (cases_words span cs rest) (case_count cs) × CountedCases cs rest
    CountedStmt (Loop is s) rest =
        Noted (a_exprs_words span is (stmt_words span s rest)) (a_expr_count is) × CountedAExprs is (stmt_words span s rest) × CountedStmt s rest
    CountedStmt (LabeledStmt n s) rest = CountedStmt s rest
    CountedStmt (Exit l) rest = Unit {0}
    CountedStmt Return rest = Unit {0}
    CountedStmt (Probe e) rest = CountedExpr e rest

    pub CountedStmts : Stmts N → List ℕ → Type 0
    CountedStmts no_stmts rest = Unit {0}
    CountedStmts (stmts s ss) rest = CountedStmt s (stmts_words span ss rest) × CountedStmts ss rest

    pub CountedCases : Cases N → List ℕ → Type 0
    CountedCases no_cases rest = Unit {0}
    CountedCases (case e s cs) rest =
        CountedExpr e (stmt_words span s (cases_words span cs rest)) × CountedStmt s (cases_words span cs rest) × CountedCases cs rest

    pub CountedAExpr : AExpr N → List ℕ → Type 0
    CountedAExpr (a_expr e) rest = CountedExpr e rest
    CountedAExpr (AAssertion s) rest = CountedStmt s rest

    pub CountedAExprs : AExprs N → List ℕ → Type 0
    CountedAExprs no_a_exprs rest = Unit {0}
    CountedAExprs (a_exprs a es) rest = CountedAExpr a (a_exprs_words span es rest) × CountedAExprs es rest

  -- ---- declarations

  abbrev pub CountedDefinition : FunctionDefinition N → List ℕ → Type 0
  CountedDefinition d rest =
      Noted (exprs_words span d.when (expr_words span d.body rest)) (expr_count d.when)
      × CountedExprs d.when (expr_words span d.body rest)
      × CountedExpr d.body rest

  abbrev pub CountedFunction : Function N → List ℕ → Type 0
  CountedFunction g rest =
      NotedList (f_parameter_words span) g.parameters
      (name_words span g.result_type (option_words (name_words span) g.tag (option_words (function_definition_words span) g.definition rest)))
      × CountedOption CountedDefinition g.definition rest

  abbrev pub CountedAxiom : Axiom N → List ℕ → Type 0
  CountedAxiom a rest = NotedList (name_words span) a.explains (expr_words span a.expr rest) × CountedExpr a.expr rest

  abbrev pub CountedPParameter : PParameter N → List ℕ → Type 0
  CountedPParameter p rest = CountedOption CountedExpr p.optional_auto_inv rest

  abbrev pub CountedProcedure : Procedure N → List ℕ → Type 0
  CountedProcedure p rest =
      CountedList (p_parameter_words span) CountedPParameter p.parameters (a_exprs_words span p.pre (a_exprs_words span p.post (option_words (stmt_words span) p.body rest)))
      × Noted (a_exprs_words span p.pre (a_exprs_words span p.post (option_words (stmt_words span) p.body rest))) (a_expr_count p.pre)
      × CountedAExprs p.pre (a_exprs_words span p.post (option_words (stmt_words span) p.body rest))
      × Noted (a_exprs_words span p.post (option_words (stmt_words span) p.body rest)) (a_expr_count p.post)
      × CountedAExprs p.post (option_words (stmt_words span) p.body rest)
      × CountedOption CountedStmt p.body rest

  abbrev pub CountedProgram : Program N → List ℕ → Type 0
  CountedProgram p rest =
      NotedList (name_words span) p.types
      (seq_words (tagger_words span) p.taggers
      (seq_words (function_words span) p.functions (seq_words (axiom_words span) p.axioms (seq_words (procedure_words span) p.procedures rest))))
      × NotedList (tagger_words span) p.taggers
      (seq_words (function_words span) p.functions (seq_words (axiom_words span) p.axioms (seq_words (procedure_words span) p.procedures rest)))
      × CountedList (function_words span) CountedFunction p.functions (seq_words (axiom_words span) p.axioms (seq_words (procedure_words span) p.procedures rest))
      × CountedList (axiom_words span) CountedAxiom p.axioms (seq_words (procedure_words span) p.procedures rest)
      × CountedList (procedure_words span) CountedProcedure p.procedures rest
