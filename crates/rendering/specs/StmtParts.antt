-- The parts of a table that hold statements, with their prints: what the methods of src/items.rt, src/simple.rt and src/statement.rt print.
use Rattle.std.specs.Prelude.{ℕ, ◌+◌, ◌≡◌, Bool, false, List, [], ◌∷◌, length, drop, Option as Maybe, Some, None}
use Rattle.std.proofs.Math.Option.{Option}
use Rattle.lexing.specs.Answer.{pick}
use Rattle.lexing.specs.Bytes.{bytes}
use Rattle.tree.specs.Ast.{Expr, CallArgument, FParameter, PParameter, Variable, Stmt, VarDecl, Assign, Reinit, Block, Call, AForall, Choose, If, IfCase, Loop, LabeledStmt, Exit, Stmts, Cases, AExprs}
use Rattle.tree.specs.Words.{name_words, option_words, expr_words, variable_words, call_argument_words, f_parameter_words, p_parameter_words}
use Rattle.tree.specs.Words.{stmt_words, stmts_words, cases_words, a_expr_words, a_exprs_words}
use Rattle.tree.specs.Counted.{Noted, stmt_count, CountedOption, CountedStmt, CountedStmts, CountedCases, CountedAExpr, CountedAExprs}
use Rattle.tree.specs.declared.word.Mode.{Mode}
use Rattle.tree.specs.declared.word.Mode.TheVariants.{In, InOut, Out}
use Rattle.rendering.specs.declared.printer.Printer.{Printer}
use Rattle.rendering.specs.declared.printer.Source.{Source}
use Rattle.layout.specs.Text.{◌▹◌, ◌▸◌}
use Rattle.layout.specs.PrintUtil.{Indent}
use Rattle.layout.specs.Printer.{IdTypeDecl}
use Rattle.layout.specs.Statements.{Shown, is_no_a_exprs, optional, mutability, inline, OptionalAutoInvariant, argument, shown, BlockAsStatementList, StmtAsBlock}
use Rattle.layout.specs.Statements.{StatementList, choices, case_list, aexpr, PrintAExprs}
use Rattle.layout.specs.Program.{formal, parameter}
use Rattle.rendering.specs.Parts.{N, named, free, Parts}
use Rattle.rendering.specs.ExprParts.{Numbered, counted}
use Rattle.rendering.specs.Sequences.{Kind, one}

-- `ParameterMode`
abbrev pub mode_bytes : Maybe Mode → List ℕ
mode_bytes None = []
mode_bytes (Some In) = []
mode_bytes (Some InOut) = bytes "inout "
mode_bytes (Some Out) = bytes "out "

-- what a test says of the statement that stands where a printer is
pub record Tells (s : Printer) (test : Shown → Bool) (r : Bool) : Type 0 where
  pub tells : (t : Stmt (N s.source)) (rest : List ℕ) → drop s.at s.source.words.now ≡ stmt_words (λ n. n.span) t rest → r ≡ test (shown (named s.source) s.source.step t)

-- ---- names and expressions

-- a name, as an item of lists and options
abbrev pub a_named : Kind
a_named =
    record { Tree = N; numbers = λ S n rest. Unit {0}; words = λ S. name_words {N = N S} (λ n. n.span); print = λ S n rest. named S n ▹ rest; indent = λ S. 0 }

-- a name and its type, with one word between them
abbrev pub typed_apart : Parts
typed_apart =
    free (λ S (a : N S × ℕ × N S) rest. name_words (λ n. n.span) a.0 (a.1 ∷ name_words (λ n. n.span) a.2 rest))
    (λ S a rest. named S a.0 ▹ ": " ▸ named S a.2 ▹ rest)

-- an expression on one line
abbrev pub a_line : Kind
a_line =
    record {
      Tree = λ S. Expr (N S);
      numbers = Numbered;
      words = λ S. expr_words {N = N S} (λ n. n.span);
      print = λ S e rest. inline (named S) S.step e rest;
      indent = λ S. 0;
    }

abbrev pub one_line : Parts
one_line = one a_line

-- ---- arguments and parameters

abbrev pub an_argument : Kind
an_argument =
    record {
      Tree = λ S. CallArgument (N S);
      numbers = λ S a rest. Numbered S a.arg rest;
      words = λ S. call_argument_words {N = N S} (λ n. n.span);
      print = λ S. argument (named S) S.step;
      indent = λ S. 0;
    }

abbrev pub a_formal : Kind
a_formal =
    record {
      Tree = λ S. FParameter (N S);
      numbers = λ S a rest. Unit {0};
      words = λ S. f_parameter_words {N = N S} (λ n. n.span);
      print = λ S. formal (named S);
      indent = λ S. 0;
    }

abbrev pub a_parameter : Kind
a_parameter =
    record {
      Tree = λ S. PParameter (N S);
      numbers = λ S a rest. CountedOption (Numbered S) a.optional_auto_inv rest;
      words = λ S. p_parameter_words {N = N S} (λ n. n.span);
      print = λ S. parameter (named S) S.step;
      indent = λ S. 0;
    }

-- ---- statements

abbrev pub NumberedStmt : (S : Source) → Stmt (N S) → List ℕ → Type 0
NumberedStmt S = CountedStmt (λ n. n.span) S.counts.now (length S.words.now)

abbrev pub show : (S : Source) → Stmt (N S) → Shown
show S t = shown (named S) S.step t

-- statements that are printed in one way
abbrev pub stmt_as : ((S : Source) → Stmt (N S) → List ℕ → List ℕ) → (Source → ℕ) → Parts
stmt_as print indent = counted NumberedStmt (λ S. stmt_words {N = N S} (λ n. n.span)) print indent

-- a statement without its initial indent
abbrev pub a_stmt : (indent : ℕ) → (followed : Bool) → Parts
a_stmt indent followed = stmt_as (λ S t rest. (show S t).print indent followed rest) (λ S. indent)

-- `BlockAsStatementList`
abbrev pub an_inner : (indent : ℕ) → (followed : Bool) → Parts
an_inner indent followed = stmt_as (λ S t rest. BlockAsStatementList (named S) S.step (show S t) indent followed rest) (λ S. indent)

-- `StmtAsBlock` without its suffix
abbrev pub a_block : (indent : ℕ) → Parts
a_block indent = stmt_as (λ S t rest. StmtAsBlock (named S) S.step (show S t) indent "" rest) (λ S. indent + S.step)

-- a statement after `else` or a label
abbrev pub an_onward : (stays : Bool) → (indent : ℕ) → Parts
an_onward stays indent =
    stmt_as (λ S t rest. pick stays ((show S t).print indent false rest) (StmtAsBlock (named S) S.step (show S t) indent "\n" rest)) (λ S. indent + S.step)

-- ---- after the first word: the statements that are made in one way, where an indent one step deeper fits too

abbrev pub opened_stmt : {A : Source → Type 0} → ((S : Source) → A S → Stmt (N S)) → (indent : ℕ) → (followed : Bool) → Parts
opened_stmt make indent followed =
    counted (λ S a rest. NumberedStmt S (make S a) rest) (λ S a rest. drop 1 (stmt_words (λ n. n.span) (make S a) rest))
    (λ S a rest. (show S (make S a)).print indent followed rest) (λ S. indent + S.step)

abbrev pub an_assign : Parts
an_assign = opened_stmt (λ S (a : N S × Expr (N S)). Assign a.0 a.1) 0 false

abbrev pub a_reinit : Parts
a_reinit = opened_stmt (λ S (l : List (N S)). Reinit l) 0 false

abbrev pub a_call_stmt : Parts
a_call_stmt = opened_stmt (λ S (a : N S × List (CallArgument (N S))). Call a.0 a.1) 0 false

abbrev pub an_exit : Parts
an_exit = opened_stmt (λ S (o : Option (N S)). Exit o) 0 false

-- a statement of `ExpressionStmt`, after its word
abbrev pub an_expression_stmt : List ℕ → Parts
an_expression_stmt keyword =
    counted Numbered (λ S. expr_words {N = N S} (λ n. n.span)) (λ S e rest. keyword ▹ inline (named S) S.step e ("\n" ▸ rest)) (λ S. 0)

-- a variable's declaration before its body
abbrev pub variable_head : Parts
variable_head =
    counted
    (λ S (a : Variable (N S) × Option (Expr (N S))) rest.
    CountedOption (Numbered S) a.0.optional_auto_inv (option_words (expr_words (λ n. n.span)) a.1 rest) × CountedOption (Numbered S) a.1 rest)
    (λ S a rest. variable_words (λ n. n.span) a.0 (option_words (expr_words (λ n. n.span)) a.1 rest))
    (λ S a rest. IdTypeDecl (named S) (bytes (mutability a.0.is_mutable)) a.0.name a.0.optional_type
    (OptionalAutoInvariant (named S) S.step a.0.optional_auto_inv (optional (inline (named S) S.step) (bytes " := ") a.1 ("\n" ▸ rest)))) (λ S. 0)

abbrev pub a_variable : (indent : ℕ) → (followed : Bool) → Parts
a_variable = opened_stmt (λ S (a : Variable (N S) × Option (Expr (N S)) × Stmt (N S)). VarDecl a.0 a.1 a.2)

abbrev pub a_braces : (indent : ℕ) → Parts
a_braces indent = opened_stmt (λ S (a : Stmts (N S)). Block a) indent false

abbrev pub a_forall : (indent : ℕ) → Parts
a_forall indent = opened_stmt (λ S (a : N S × N S × Stmt (N S)). AForall a.0 a.1 a.2) indent false

abbrev pub a_choose : (indent : ℕ) → Parts
a_choose indent = opened_stmt (λ S (a : Stmts (N S)). Choose a) indent false

abbrev pub an_if : (indent : ℕ) → Parts
an_if indent = opened_stmt (λ S (a : Expr (N S) × Stmt (N S) × Stmt (N S)). If a.0 a.1 a.2) indent false

abbrev pub an_if_case : (indent : ℕ) → Parts
an_if_case indent = opened_stmt (λ S (a : Cases (N S)). IfCase a) indent false

abbrev pub a_loop : (indent : ℕ) → Parts
a_loop indent = opened_stmt (λ S (a : AExprs (N S) × Stmt (N S)). Loop a.0 a.1) indent false

abbrev pub a_labelled : (indent : ℕ) → Parts
a_labelled indent = opened_stmt (λ S (a : N S × Stmt (N S)). LabeledStmt a.0 a.1) indent false

-- ---- sequences of statements

-- `StatementList`
abbrev pub statement_list : (indent : ℕ) → Parts
statement_list indent =
    counted
    (λ S (ss : Stmts (N S)) rest. Noted {N = N S} (λ n. n.span) S.counts.now (length S.words.now) (stmts_words (λ n. n.span) ss rest) (stmt_count ss)
    × CountedStmts (λ n. n.span) S.counts.now (length S.words.now) ss rest)
    (λ S. stmts_words (λ n. n.span)) (λ S ss rest. StatementList (named S) S.step ss indent rest) (λ S. indent)

-- the last so many statements of a list
abbrev pub last_statements : (left : ℕ) → (indent : ℕ) → Parts
last_statements left indent =
    counted (λ S (ss : Stmts (N S)) rest. (left ≡ stmt_count ss) × CountedStmts (λ n. n.span) S.counts.now (length S.words.now) ss rest)
    (λ S. stmts_words (λ n. n.span)) (λ S ss rest. StatementList (named S) S.step ss indent rest) (λ S. indent)

abbrev pub branch_list : (indent : ℕ) → Parts
branch_list indent =
    counted (λ S. CountedStmts {N = N S} (λ n. n.span) S.counts.now (length S.words.now)) (λ S. stmts_words (λ n. n.span))
    (λ S ss rest. choices (named S) S.step ss indent rest) (λ S. indent)

abbrev pub case_sequence : (indent : ℕ) → Parts
case_sequence indent =
    counted (λ S. CountedCases {N = N S} (λ n. n.span) S.counts.now (length S.words.now)) (λ S. cases_words (λ n. n.span))
    (λ S cs rest. case_list (named S) S.step cs indent rest) (λ S. indent)

abbrev pub an_a_expr : (indent : ℕ) → Parts
an_a_expr indent =
    counted (λ S. CountedAExpr {N = N S} (λ n. n.span) S.counts.now (length S.words.now)) (λ S. a_expr_words (λ n. n.span))
    (λ S a rest. aexpr (named S) S.step a indent rest) (λ S. indent)

-- `PrintAExprs`
abbrev pub a_expr_list : List ℕ → (indent : ℕ) → Parts
a_expr_list prefix indent =
    counted (λ S. CountedAExprs {N = N S} (λ n. n.span) S.counts.now (length S.words.now)) (λ S. a_exprs_words (λ n. n.span))
    (λ S es rest. PrintAExprs (named S) S.step es prefix indent rest) (λ S. indent)

-- a loop's invariants, and what stands before and after them
abbrev pub invariant_list : (indent : ℕ) → Parts
invariant_list indent =
    counted (λ S. CountedAExprs {N = N S} (λ n. n.span) S.counts.now (length S.words.now)) (λ S. a_exprs_words (λ n. n.span))
    (λ S es rest. pick (is_no_a_exprs es) (" " ▸ rest) ("\n" ▸ PrintAExprs (named S) S.step es (bytes "invariant") (indent + S.step) (Indent indent ▹ rest)))
    (λ S. indent + S.step)
