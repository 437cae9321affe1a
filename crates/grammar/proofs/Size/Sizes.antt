-- How many words a tree has, by its kind: so many as its words (tree's Words.antt) are longer than what follows them.
use Rattle.std.specs.Prelude.{ℕ, ◌+◌, ◌≡◌, List, [], ◌∷◌, length}
use Rattle.std.proofs.Common.{arith}
use Rattle.std.proofs.Math.Option.{Option, none, some}
use Rattle.tree.specs.Ast.{Span, Binding, binding, Variable, CallArgument}
use Rattle.tree.specs.Ast.{Tagger, FParameter, FunctionDefinition, Function, Axiom, PParameter, Procedure, Program}
use Rattle.tree.specs.Ast.{Expr, BLiteral, ILiteral, CustomLiteral, IdExpr, OperatorExpr, FunctionCallExpr, LabeledExpr, LetExpr, QuantifierExpr, ClosureExpr}
use Rattle.tree.specs.Ast.{Exprs, no_exprs, ◌then◌, Patterns, no_patterns, pattern}
use Rattle.tree.specs.Ast.{ClosureBindings, no_closure_bindings, closure_binding, ClosureProperties, no_closure_properties, closure_property}
use Rattle.tree.specs.Ast.{Stmt, VarDecl, Assign, Reinit, Block, Call, Check, Assume, Reach, Assert, AForall, Choose, If, IfCase, Loop, LabeledStmt, Exit, Return, Probe}
use Rattle.tree.specs.Ast.{Stmts, no_stmts, stmts, Cases, no_cases, case, AExpr, a_expr, AAssertion, AExprs, no_a_exprs, a_exprs}
use Rattle.tree.specs.Words.{name_words, option_words, seq_words, binding_words, expr_words, exprs_words, patterns_words, closure_bindings_words, closure_properties_words}
use Rattle.tree.specs.Words.{call_argument_words, stmt_words, stmts_words, cases_words, a_expr_words, a_exprs_words}
use Rattle.tree.specs.Words.{tagger_words, f_parameter_words, function_definition_words, function_words, axiom_words, p_parameter_words, procedure_words, program_words}

-- ---- sizes, in the order of the words

abbrev pub option_size : {A : Type 0} → (A → ℕ) → Option A → ℕ
option_size size none = 1
option_size size (some a) = 1 + size a

abbrev pub seq_size : {A : Type 0} → (A → ℕ) → List A → ℕ
seq_size size [] = 1
seq_size size (a ∷ l) = 1 + size a + seq_size size l

abbrev pub name_size : Span → ℕ
name_size n = 2

abbrev pub binding_size : Binding Span → ℕ
binding_size b = 4

abbrev mutual
  pub expr_size : Expr Span → ℕ
  expr_size (BLiteral b) = 2
  expr_size (ILiteral n) = 3
  expr_size (CustomLiteral s t) = 5
  expr_size (IdExpr n o) = 4
  expr_size (OperatorExpr o es) = 2 + exprs_size es
  expr_size (FunctionCallExpr n es) = 3 + exprs_size es
  expr_size (LabeledExpr n e) = 3 + expr_size e
  expr_size (LetExpr n t r e) = 3 + option_size name_size t + expr_size r + expr_size e
  expr_size (QuantifierExpr u bs ps e) = 2 + seq_size binding_size bs + patterns_size ps + expr_size e
  expr_size (ClosureExpr bs n t ps) = 5 + closure_bindings_size bs + closure_properties_size ps

  pub exprs_size : Exprs Span → ℕ
  exprs_size no_exprs = 1
  exprs_size (◌then◌ e es) = 1 + expr_size e + exprs_size es

  pub patterns_size : Patterns Span → ℕ
  patterns_size no_patterns = 1
  patterns_size (pattern es ps) = 1 + exprs_size es + patterns_size ps

  pub closure_bindings_size : ClosureBindings Span → ℕ
  closure_bindings_size no_closure_bindings = 1
  closure_bindings_size (closure_binding n ps e bs) = 3 + seq_size binding_size ps + expr_size e + closure_bindings_size bs

  pub closure_properties_size : ClosureProperties Span → ℕ
  closure_properties_size no_closure_properties = 1
  closure_properties_size (closure_property ts e ps) = 1 + patterns_size ts + expr_size e + closure_properties_size ps

abbrev pub variable_size : Variable Span → ℕ
variable_size v = 3 + option_size name_size v.optional_type + option_size expr_size v.optional_auto_inv

abbrev pub call_argument_size : CallArgument Span → ℕ
call_argument_size a = 1 + expr_size a.arg

abbrev mutual
  pub stmt_size : Stmt Span → ℕ
  stmt_size (VarDecl v i s) = 1 + variable_size v + option_size expr_size i + stmt_size s
  stmt_size (Assign n e) = 3 + expr_size e
  stmt_size (Reinit ns) = 1 + seq_size name_size ns
  stmt_size (Block ss) = 1 + stmts_size ss
  stmt_size (Call n cs) = 3 + seq_size call_argument_size cs
  stmt_size (Check e) = 1 + expr_size e
  stmt_size (Assume e) = 1 + expr_size e
  stmt_size (Reach e) = 1 + expr_size e
  stmt_size (Assert e) = 1 + expr_size e
  stmt_size (AForall n t s) = 5 + stmt_size s
  stmt_size (Choose ss) = 1 + stmts_size ss
  stmt_size (If e s t) = 1 + expr_size e + stmt_size s + stmt_size t
  stmt_size (IfCase cs) = 1 + cases_size cs
  stmt_size (Loop is s) = 1 + a_exprs_size is + stmt_size s
  stmt_size (LabeledStmt n s) = 3 + stmt_size s
  stmt_size (Exit l) = 1 + option_size name_size l
  stmt_size Return = 1
  stmt_size (Probe e) = 1 + expr_size e

  pub stmts_size : Stmts Span → ℕ
  stmts_size no_stmts = 1
  stmts_size (stmts s ss) = 1 + stmt_size s + stmts_size ss

  pub cases_size : Cases Span → ℕ
  cases_size no_cases = 1
  cases_size (case e s cs) = 1 + expr_size e + stmt_size s + cases_size cs

  pub a_expr_size : AExpr Span → ℕ
  a_expr_size (a_expr e) = 1 + expr_size e
  a_expr_size (AAssertion s) = 1 + stmt_size s

  pub a_exprs_size : AExprs Span → ℕ
  a_exprs_size no_a_exprs = 1
  a_exprs_size (a_exprs a es) = 1 + a_expr_size a + a_exprs_size es

abbrev pub tagger_size : Tagger Span → ℕ
tagger_size t = 4

abbrev pub f_parameter_size : FParameter Span → ℕ
f_parameter_size p = 5

abbrev pub function_definition_size : FunctionDefinition Span → ℕ
function_definition_size d = exprs_size d.when + expr_size d.body

abbrev pub function_size : Function Span → ℕ
function_size g =
    4 + seq_size f_parameter_size g.parameters + option_size name_size g.tag + option_size function_definition_size g.definition

abbrev pub axiom_size : Axiom Span → ℕ
axiom_size a = seq_size name_size a.explains + expr_size a.expr

abbrev pub p_parameter_size : PParameter Span → ℕ
p_parameter_size p = 5 + option_size expr_size p.optional_auto_inv

abbrev pub procedure_size : Procedure Span → ℕ
procedure_size p =
    2 + seq_size p_parameter_size p.parameters + a_exprs_size p.pre + a_exprs_size p.post + option_size stmt_size p.body

abbrev pub program_size : Program Span → ℕ
program_size p =
    seq_size name_size p.types + seq_size tagger_size p.taggers + seq_size function_size p.functions + seq_size axiom_size p.axioms
    + seq_size procedure_size p.procedures

-- ---- the words are as many

-- so many words before what follows
abbrev Sized : ℕ → (List ℕ → List ℕ) → Type 0
Sized n words = (rest : List ℕ) → length (words rest) ≡ n + length rest

module _ {A : Type 0} (size : A → ℕ) (words : A → List ℕ → List ℕ) (each : (a : A) → Sized (size a) (words a)) where
  option-sized : (t : Option A) → Sized (option_size size t) (option_words words t)
  option-sized none rest = omega arith
  option-sized (some a) rest = omega (arith, each a rest)

  seq-sized : (t : List A) → Sized (seq_size size t) (seq_words words t)
  seq-sized [] rest = omega arith
  seq-sized (a ∷ l) rest = omega (arith, each a (seq_words words l rest), seq-sized l rest)

abbrev self : Span → Span
self s = s

names-sized : (t : List Span) → Sized (seq_size name_size t) (seq_words (name_words self) t)
names-sized = seq-sized name_size (name_words self) (λ n rest. omega arith)

name-option : (t : Option Span) → Sized (option_size name_size t) (option_words (name_words self) t)
name-option = option-sized name_size (name_words self) (λ n rest. omega arith)

bindings-sized : (t : List (Binding Span)) → Sized (seq_size binding_size t) (seq_words (binding_words self) t)
bindings-sized = seq-sized binding_size (binding_words self) each
  where
    each : (b : Binding Span) → Sized 4 (binding_words self b)
    each (binding n t) rest = omega arith

mutual
  -- an expression's words
  pub expr-sized : (t : Expr Span) (rest : List ℕ) → length (expr_words (λ s. s) t rest) ≡ expr_size t + length rest
  expr-sized (BLiteral b) rest = omega arith
  expr-sized (ILiteral n) rest = omega arith
  expr-sized (CustomLiteral s t) rest = omega arith
  expr-sized (IdExpr n o) rest = omega arith
  expr-sized (OperatorExpr o es) rest = omega (arith, exprs-sized es rest)
  expr-sized (FunctionCallExpr n es) rest = omega (arith, exprs-sized es rest)
  expr-sized (LabeledExpr n e) rest = omega (arith, expr-sized e rest)
  expr-sized (LetExpr n t r e) rest = omega (arith, name-option t (expr_words self r (expr_words self e rest)), expr-sized r (expr_words self e rest), expr-sized e rest)
  expr-sized (QuantifierExpr u bs ps e) rest = omega (arith, bindings-sized bs (patterns_words self ps (expr_words self e rest)), patterns-sized ps (expr_words self e rest), expr-sized e rest)
  expr-sized (ClosureExpr bs n t ps) rest = omega (arith, closure_bindings-sized bs (name_words self n (name_words self t (closure_properties_words self ps rest))), closure_properties-sized ps rest)

  exprs-sized : (t : Exprs Span) → Sized (exprs_size t) (exprs_words self t)
  exprs-sized no_exprs rest = omega arith
  exprs-sized (◌then◌ e es) rest = omega (arith, expr-sized e (exprs_words self es rest), exprs-sized es rest)

  patterns-sized : (t : Patterns Span) → Sized (patterns_size t) (patterns_words self t)
  patterns-sized no_patterns rest = omega arith
  patterns-sized (pattern es ps) rest = omega (arith, exprs-sized es (patterns_words self ps rest), patterns-sized ps rest)

  closure_bindings-sized : (t : ClosureBindings Span) → Sized (closure_bindings_size t) (closure_bindings_words self t)
  closure_bindings-sized no_closure_bindings rest = omega arith
  closure_bindings-sized (closure_binding n ps e bs) rest = omega (arith, bindings-sized ps (expr_words self e (closure_bindings_words self bs rest)), expr-sized e (closure_bindings_words self bs rest), closure_bindings-sized bs rest)

  closure_properties-sized : (t : ClosureProperties Span) → Sized (closure_properties_size t) (closure_properties_words self t)
  closure_properties-sized no_closure_properties rest = omega arith
  closure_properties-sized (closure_property ts e ps) rest = omega (arith, patterns-sized ts (expr_words self e (closure_properties_words self ps rest)), expr-sized e (closure_properties_words self ps rest), closure_properties-sized ps rest)

expr-option : (t : Option (Expr Span)) → Sized (option_size expr_size t) (option_words (expr_words self) t)
expr-option = option-sized expr_size (expr_words self) expr-sized

arguments-sized : (t : List (CallArgument Span)) → Sized (seq_size call_argument_size t) (seq_words (call_argument_words self) t)
arguments-sized = seq-sized call_argument_size (call_argument_words self) (λ a rest. omega (arith, expr-sized a.arg rest))

mutual
  stmt-sized : (t : Stmt Span) → Sized (stmt_size t) (stmt_words self t)
  stmt-sized (VarDecl v i s) rest = omega (arith, name-option v.optional_type (option_words (expr_words self) v.optional_auto_inv (option_words (expr_words self) i (stmt_words self s rest))), expr-option v.optional_auto_inv (option_words (expr_words self) i (stmt_words self s rest)), expr-option i (stmt_words self s rest), stmt-sized s rest)
  stmt-sized (Assign n e) rest = omega (arith, expr-sized e rest)
  stmt-sized (Reinit ns) rest = omega (arith, names-sized ns rest)
  stmt-sized (Block ss) rest = omega (arith, stmts-sized ss rest)
  stmt-sized (Call n cs) rest = omega (arith, arguments-sized cs rest)
  stmt-sized (Check e) rest = omega (arith, expr-sized e rest)
  stmt-sized (Assume e) rest = omega (arith, expr-sized e rest)
  stmt-sized (Reach e) rest = omega (arith, expr-sized e rest)
  stmt-sized (Assert e) rest = omega (arith, expr-sized e rest)
  stmt-sized (AForall n t s) rest = omega (arith, stmt-sized s rest)
  stmt-sized (Choose ss) rest = omega (arith, stmts-sized ss rest)
  stmt-sized (If e s t) rest = omega (arith, expr-sized e (stmt_words self s (stmt_words self t rest)), stmt-sized s (stmt_words self t rest), stmt-sized t rest)
  stmt-sized (IfCase cs) rest = omega (arith, cases-sized cs rest)
  stmt-sized (Loop is s) rest = omega (arith, a_exprs-sized is (stmt_words self s rest), stmt-sized s rest)
  stmt-sized (LabeledStmt n s) rest = omega (arith, stmt-sized s rest)
  stmt-sized (Exit l) rest = omega (arith, name-option l rest)
  stmt-sized Return rest = omega arith
  stmt-sized (Probe e) rest = omega (arith, expr-sized e rest)

  stmts-sized : (t : Stmts Span) → Sized (stmts_size t) (stmts_words self t)
  stmts-sized no_stmts rest = omega arith
  stmts-sized (stmts s ss) rest = omega (arith, stmt-sized s (stmts_words self ss rest), stmts-sized ss rest)

  cases-sized : (t : Cases Span) → Sized (cases_size t) (cases_words self t)
  cases-sized no_cases rest = omega arith
  cases-sized (case e s cs) rest = omega (arith, expr-sized e (stmt_words self s (cases_words self cs rest)), stmt-sized s (cases_words self cs rest), cases-sized cs rest)

  a_expr-sized : (t : AExpr Span) → Sized (a_expr_size t) (a_expr_words self t)
  a_expr-sized (a_expr e) rest = omega (arith, expr-sized e rest)
  a_expr-sized (AAssertion s) rest = omega (arith, stmt-sized s rest)

  a_exprs-sized : (t : AExprs Span) → Sized (a_exprs_size t) (a_exprs_words self t)
  a_exprs-sized no_a_exprs rest = omega arith
  a_exprs-sized (a_exprs a es) rest = omega (arith, a_expr-sized a (a_exprs_words self es rest), a_exprs-sized es rest)

functions-sized : (t : List (Function Span)) → Sized (seq_size function_size t) (seq_words (function_words self) t)
functions-sized = seq-sized function_size (function_words self) each
  where
    definition : (t : Option (FunctionDefinition Span)) → Sized (option_size function_definition_size t) (option_words (function_definition_words self) t)
    definition =
        option-sized function_definition_size (function_definition_words self)
        (λ d rest. simp (exprs-sized d.when, expr-sized d.body) (omega arith))

    formals : (t : List (FParameter Span)) → Sized (seq_size f_parameter_size t) (seq_words (f_parameter_words self) t)
    formals = seq-sized f_parameter_size (f_parameter_words self) (λ p rest. omega arith)

    each : (g : Function Span) → Sized (function_size g) (function_words self g)
    each g rest = simp (formals g.parameters, name-option g.tag, definition g.definition) (omega arith)

axioms-sized : (t : List (Axiom Span)) → Sized (seq_size axiom_size t) (seq_words (axiom_words self) t)
axioms-sized = seq-sized axiom_size (axiom_words self) (λ a rest. simp (names-sized a.explains, expr-sized a.expr) (omega arith))

procedures-sized : (t : List (Procedure Span)) → Sized (seq_size procedure_size t) (seq_words (procedure_words self) t)
procedures-sized = seq-sized procedure_size (procedure_words self) each
  where
    parameters : (t : List (PParameter Span)) → Sized (seq_size p_parameter_size t) (seq_words (p_parameter_words self) t)
    parameters = seq-sized p_parameter_size (p_parameter_words self) (λ p rest. omega (arith, expr-option p.optional_auto_inv rest))

    body : (t : Option (Stmt Span)) → Sized (option_size stmt_size t) (option_words (stmt_words self) t)
    body = option-sized stmt_size (stmt_words self) stmt-sized

    each : (p : Procedure Span) → Sized (procedure_size p) (procedure_words self p)
    each p rest = simp (parameters p.parameters, a_exprs-sized p.pre, a_exprs-sized p.post, body p.body) (omega arith)

-- a program's words
pub program-sized : (p : Program Span) (rest : List ℕ) → length (program_words (λ s. s) p rest) ≡ program_size p + length rest
program-sized p rest =
    let taggers = seq-sized tagger_size (tagger_words self) (λ t rest. omega arith) in
    simp (names-sized p.types, taggers p.taggers, functions-sized p.functions, axioms-sized p.axioms, procedures-sized p.procedures) (omega arith)
