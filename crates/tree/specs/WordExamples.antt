-- Closed examples, by computation: the words of each constructor's fields in the order of RawAst.dfy (REFERENCE, "The tree words"), with a
-- different number in every place, and that tables of these words are accepted.
use Rattle.std.specs.Prelude.{ℕ, ◌≡◌, refl, true, false, List, [], ◌∷◌, ◌++◌}
use Rattle.std.proofs.Math.Option.{none, some}
use Rattle.tree.specs.Ast.{Span, In, Out, binding, Minus, Program}
use Rattle.tree.specs.Ast.{Expr, BLiteral, ILiteral, CustomLiteral, IdExpr, OperatorExpr, FunctionCallExpr, LabeledExpr, LetExpr, QuantifierExpr, ClosureExpr}
use Rattle.tree.specs.Ast.{no_exprs, ◌then◌, no_patterns, pattern, no_closure_bindings, closure_binding, no_closure_properties, closure_property}
use Rattle.tree.specs.Ast.{Stmt, VarDecl, Assign, Reinit, Block, Call, Check, Assume, Reach, Assert, AForall, Choose, If, IfCase, Loop, LabeledStmt, Exit, Return, Probe}
use Rattle.tree.specs.Ast.{no_stmts, stmts, no_cases, case, a_expr, AAssertion, no_a_exprs, a_exprs}
use Rattle.tree.specs.Words.{expr_words, stmt_words, program_words}
use Rattle.tree.specs.Check.{run, check_expression, check_program, expression_refusal, program_refusal}

abbrev span : ℕ → ℕ → Span
span s l = record { start = s; len = l }

abbrev expressions : List (Expr Span × List ℕ)
expressions =
    (BLiteral true, 1 ∷ 1 ∷ [])
    ∷ (ILiteral 4294967298, 2 ∷ 1 ∷ 2 ∷ [])
    ∷ (CustomLiteral (span 1 2) (span 3 4), 3 ∷ 1 ∷ 2 ∷ 3 ∷ 4 ∷ [])
    ∷ (IdExpr (span 1 2) true, 4 ∷ 1 ∷ 2 ∷ 1 ∷ [])
    ∷ (OperatorExpr Minus (◌then◌ (ILiteral 3) (◌then◌ (ILiteral 4) no_exprs)), 5 ∷ 11 ∷ 1 ∷ 2 ∷ 0 ∷ 3 ∷ 1 ∷ 2 ∷ 0 ∷ 4 ∷ 0 ∷ [])
    ∷ (FunctionCallExpr (span 1 2) (◌then◌ (ILiteral 3) (◌then◌ (ILiteral 4) no_exprs)), 6 ∷ 1 ∷ 2 ∷ 1 ∷ 2 ∷ 0 ∷ 3 ∷ 1 ∷ 2 ∷ 0 ∷ 4 ∷ 0 ∷ [])
    ∷ (LabeledExpr (span 1 2) (ILiteral 3), 7 ∷ 1 ∷ 2 ∷ 2 ∷ 0 ∷ 3 ∷ [])
    ∷ (LetExpr (span 1 2) (some (span 3 4)) (ILiteral 5) (ILiteral 6), 8 ∷ 1 ∷ 2 ∷ 1 ∷ 3 ∷ 4 ∷ 2 ∷ 0 ∷ 5 ∷ 2 ∷ 0 ∷ 6 ∷ [])
    ∷ (LetExpr (span 1 2) none (ILiteral 5) (ILiteral 6), 8 ∷ 1 ∷ 2 ∷ 0 ∷ 2 ∷ 0 ∷ 5 ∷ 2 ∷ 0 ∷ 6 ∷ [])
    ∷ (
      QuantifierExpr true (binding (span 1 2) (span 3 4) ∷ binding (span 5 6) (span 7 8) ∷ [])
          (pattern (◌then◌ (ILiteral 9) no_exprs) no_patterns) (ILiteral 10),
      9 ∷ 1 ∷ 1 ∷ 1 ∷ 2 ∷ 3 ∷ 4 ∷ 1 ∷ 5 ∷ 6 ∷ 7 ∷ 8 ∷ 0 ∷ 1 ∷ 1 ∷ 2 ∷ 0 ∷ 9 ∷ 0 ∷ 0 ∷ 2 ∷ 0 ∷ 10 ∷ [],
    )
    ∷ (QuantifierExpr false [] no_patterns (ILiteral 1), 9 ∷ 0 ∷ 0 ∷ 0 ∷ 2 ∷ 0 ∷ 1 ∷ [])
    ∷ (
      ClosureExpr (closure_binding (span 1 2) (binding (span 3 4) (span 5 6) ∷ []) (ILiteral 7) no_closure_bindings)
          (span 8 9) (span 10 11)
          (closure_property
          (pattern (◌then◌ (ILiteral 12) no_exprs) no_patterns) (ILiteral 13) no_closure_properties),
      10 ∷ 1 ∷ 1 ∷ 2 ∷ 1 ∷ 3 ∷ 4 ∷ 5 ∷ 6 ∷ 0 ∷ 2 ∷ 0 ∷ 7 ∷ 0 ∷ 8 ∷ 9 ∷ 10 ∷ 11 ∷ 1 ∷ 1 ∷ 1 ∷ 2 ∷ 0 ∷ 12 ∷ 0 ∷ 0 ∷ 2 ∷ 0 ∷ 13 ∷ 0 ∷ [],
    )
    ∷ []

abbrev statements : List (Stmt Span × List ℕ)
statements = (
  VarDecl (record { name = span 1 2; is_mutable = true; optional_type = some (span 3 4); optional_auto_inv = some (ILiteral 5) }) (some (ILiteral 6)) Return,
  21 ∷ 1 ∷ 2 ∷ 1 ∷ 1 ∷ 3 ∷ 4 ∷ 1 ∷ 2 ∷ 0 ∷ 5 ∷ 1 ∷ 2 ∷ 0 ∷ 6 ∷ 37 ∷ [],
)
    ∷ (
      VarDecl (record { name = span 1 2; is_mutable = false; optional_type = none; optional_auto_inv = none }) none Return,
      21 ∷ 1 ∷ 2 ∷ 0 ∷ 0 ∷ 0 ∷ 0 ∷ 37 ∷ [],
    )
    ∷ (Assign (span 1 2) (ILiteral 3), 22 ∷ 1 ∷ 2 ∷ 2 ∷ 0 ∷ 3 ∷ [])
    ∷ (Reinit (span 1 2 ∷ span 3 4 ∷ []), 23 ∷ 1 ∷ 1 ∷ 2 ∷ 1 ∷ 3 ∷ 4 ∷ 0 ∷ [])
    ∷ (Block (stmts (Check (ILiteral 1)) (stmts Return no_stmts)), 24 ∷ 1 ∷ 26 ∷ 2 ∷ 0 ∷ 1 ∷ 1 ∷ 37 ∷ 0 ∷ [])
    ∷ (
      Call (span 1 2) (record { mode = Out; arg = ILiteral 3 } ∷ record { mode = In; arg = ILiteral 4 } ∷ []),
      25 ∷ 1 ∷ 2 ∷ 1 ∷ 3 ∷ 2 ∷ 0 ∷ 3 ∷ 1 ∷ 1 ∷ 2 ∷ 0 ∷ 4 ∷ 0 ∷ [],
    )
    ∷ (Check (ILiteral 1), 26 ∷ 2 ∷ 0 ∷ 1 ∷ [])
    ∷ (Assume (ILiteral 1), 27 ∷ 2 ∷ 0 ∷ 1 ∷ [])
    ∷ (Reach (ILiteral 1), 28 ∷ 2 ∷ 0 ∷ 1 ∷ [])
    ∷ (Assert (ILiteral 1), 29 ∷ 2 ∷ 0 ∷ 1 ∷ [])
    ∷ (AForall (span 1 2) (span 3 4) Return, 30 ∷ 1 ∷ 2 ∷ 3 ∷ 4 ∷ 37 ∷ [])
    ∷ (Choose (stmts (Check (ILiteral 1)) (stmts Return no_stmts)), 31 ∷ 1 ∷ 26 ∷ 2 ∷ 0 ∷ 1 ∷ 1 ∷ 37 ∷ 0 ∷ [])
    ∷ (If (ILiteral 1) (Check (ILiteral 2)) Return, 32 ∷ 2 ∷ 0 ∷ 1 ∷ 26 ∷ 2 ∷ 0 ∷ 2 ∷ 37 ∷ [])
    ∷ (
      IfCase (case (ILiteral 1) (Check (ILiteral 2)) (case (ILiteral 3) Return no_cases)),
      33 ∷ 1 ∷ 2 ∷ 0 ∷ 1 ∷ 26 ∷ 2 ∷ 0 ∷ 2 ∷ 1 ∷ 2 ∷ 0 ∷ 3 ∷ 37 ∷ 0 ∷ [],
    )
    ∷ (
      Loop (a_exprs (a_expr (ILiteral 1)) (a_exprs (AAssertion (Check (ILiteral 2))) no_a_exprs)) Return,
      34 ∷ 1 ∷ 1 ∷ 2 ∷ 0 ∷ 1 ∷ 1 ∷ 2 ∷ 26 ∷ 2 ∷ 0 ∷ 2 ∷ 0 ∷ 37 ∷ [],
    )
    ∷ (LabeledStmt (span 1 2) Return, 35 ∷ 1 ∷ 2 ∷ 37 ∷ [])
    ∷ (Exit (some (span 1 2)), 36 ∷ 1 ∷ 1 ∷ 2 ∷ [])
    ∷ (Exit none, 36 ∷ 0 ∷ [])
    ∷ (Return, 37 ∷ [])
    ∷ (Probe (ILiteral 1), 38 ∷ 2 ∷ 0 ∷ 1 ∷ [])
    ∷ []

-- the words that the definition gives, and those listed
abbrev spelt : {A : Type 0} → (A → List ℕ → List ℕ) → List (A × List ℕ) → List (List ℕ)
spelt words [] = []
spelt words (p ∷ l) = words p.0 [] ∷ spelt words l

abbrev listed : {A : Type 0} → List (A × List ℕ) → List (List ℕ)
listed [] = []
listed (p ∷ l) = p.1 ∷ listed l

expressions-spelt : spelt (expr_words (λ s. s)) expressions ≡ listed expressions
expressions-spelt = refl

statements-spelt : spelt (stmt_words (λ s. s)) statements ≡ listed statements
statements-spelt = refl

-- all as one sequence, the operands of an operator and the statements of a procedure's block
abbrev sequence : List (List ℕ) → List ℕ → List ℕ
sequence [] rest = 0 ∷ rest
sequence (ws ∷ l) rest = 1 ∷ (ws ++ sequence l rest)

expressions-accepted : expression_refusal (5 ∷ 10 ∷ sequence (listed expressions) []) 21 ≡ none
unfolding expression_refusal check_expression run
expressions-accepted = refl

statements-accepted : program_refusal (0 ∷ 0 ∷ 0 ∷ 0 ∷ 1 ∷ 1 ∷ 2 ∷ 0 ∷ 0 ∷ 0 ∷ 1 ∷ 24 ∷ sequence (listed statements) (0 ∷ [])) 7 ≡ none
unfolding program_refusal check_program run
statements-accepted = refl

-- a declaration of each kind
abbrev declarations : Program Span
declarations =
    record {
      types = span 1 2 ∷ span 3 4 ∷ [];
      taggers = record { name = span 5 6; typ = span 7 8 } ∷ [];
      functions =
          record {
            name = span 9 10;
            parameters = record { name = span 11 12; injective = true; typ = span 13 14 } ∷ [];
            result_type = span 15 16;
            tag = some (span 17 18);
            definition = some (record { when = ◌then◌ (ILiteral 19) no_exprs; body = ILiteral 20 });
          }
          ∷ [];
      axioms = record { explains = span 21 22 ∷ []; expr = ILiteral 23 } ∷ [];
      procedures =
          record {
            name = span 24 25;
            parameters = record { name = span 26 27; mode = Out; typ = span 28 29; optional_auto_inv = some (ILiteral 30) } ∷ [];
            pre = a_exprs (a_expr (ILiteral 31)) no_a_exprs;
            post = a_exprs (AAssertion (Check (ILiteral 32))) no_a_exprs;
            body = some Return;
          }
          ∷ [];
    }

abbrev declaration_table : List ℕ
declaration_table =
    1 ∷ 1 ∷ 2 ∷ 1 ∷ 3 ∷ 4 ∷ 0  -- types
    ∷ 1 ∷ 5 ∷ 6 ∷ 7 ∷ 8 ∷ 0  -- taggers
    ∷ 1 ∷ 9 ∷ 10 ∷ 1 ∷ 11 ∷ 12 ∷ 1 ∷ 13 ∷ 14 ∷ 0 ∷ 15 ∷ 16 ∷ 1 ∷ 17 ∷ 18 ∷ 1 ∷ 1 ∷ 2 ∷ 0 ∷ 19 ∷ 0 ∷ 2 ∷ 0 ∷ 20 ∷ 0  -- functions
    ∷ 1 ∷ 1 ∷ 21 ∷ 22 ∷ 0 ∷ 2 ∷ 0 ∷ 23 ∷ 0  -- axioms
    ∷ 1 ∷ 24 ∷ 25 ∷ 1 ∷ 26 ∷ 27 ∷ 3 ∷ 28 ∷ 29 ∷ 1 ∷ 2 ∷ 0 ∷ 30 ∷ 0 ∷ 1 ∷ 1 ∷ 2 ∷ 0 ∷ 31 ∷ 0 ∷ 1 ∷ 2 ∷ 26 ∷ 2 ∷ 0 ∷ 32 ∷ 0 ∷ 1 ∷ 37 ∷ 0 ∷ []  -- procedures

declarations-spelt : program_words (λ s. s) declarations [] ≡ declaration_table
declarations-spelt = refl

declarations-accepted : program_refusal declaration_table 57 ≡ none
unfolding program_refusal check_program run
declarations-accepted = refl
