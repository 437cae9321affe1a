-- Printer.dfy, the prints of statements, method by method. A name is printed as the bytes that `name` gives it; `step` is the indent step,
-- upstream's `IndentAmount`. Each print takes the bytes that follow it.
use Rattle.std.specs.Prelude.{ℕ, ◌+◌, Bool, true, false, List, [], ◌∷◌}
use Prim.Native.String.{String}
use Rattle.std.proofs.Math.Option.{Option, none, some}
use Rattle.lexing.specs.Answer.{pick}
use Rattle.lexing.specs.Bytes.{bytes}
use Rattle.tree.specs.Ast.{Expr, ParameterMode, In, InOut, Out, Variable, CallArgument}
use Rattle.tree.specs.Ast.{Stmt, VarDecl, Assign, Reinit, Block, Call, Check, Assume, Reach, Assert, AForall, Choose, If, IfCase, Loop, LabeledStmt, Exit, Return, Probe}
use Rattle.tree.specs.Ast.{Stmts, no_stmts, stmts, Cases, no_cases, case, AExpr, a_expr, AAssertion, AExprs, no_a_exprs, a_exprs}
use Rattle.layout.specs.declared.format.ExprFormatOption.TheVariants.{SingleLine}
use Rattle.layout.specs.Text.{◌▹◌, ◌▸◌}
use Rattle.layout.specs.PrintUtil.{Indent, Init}
use Rattle.layout.specs.Printer.{Expression, IdTypeDecl}

-- a print before the bytes that follow it
abbrev pub Before : Type 0
Before = List ℕ → List ℕ

-- a statement as the methods see it that print one inside another
pub record Shown : Type 0 where
  -- `Statement` with `omitInitialIndent`, by the indent and `followedByEndCurly`
  pub print : ℕ → Bool → Before
  -- a Block's statements by `StatementList`, by the indent
  pub list : Option (ℕ → Before)
  pub is_empty_block : Bool
  -- `If? || IfCase?`
  pub is_if : Bool
  pub is_loop : Bool

-- a statement that is neither Block, If, IfCase nor Loop
abbrev pub plain : (ℕ → Bool → Before) → Shown
plain p = record { print = p; list = none; is_empty_block = false; is_if = false; is_loop = false }

abbrev pub is_no_stmts : {N : Type 0} → Stmts N → Bool
is_no_stmts no_stmts = true
is_no_stmts (stmts s ss) = false

abbrev pub is_no_cases : {N : Type 0} → Cases N → Bool
is_no_cases no_cases = true
is_no_cases (case e s cs) = false

abbrev pub is_no_a_exprs : {N : Type 0} → AExprs N → Bool
is_no_a_exprs no_a_exprs = true
is_no_a_exprs (a_exprs a es) = false

-- items, one separator before the first and another before each other
unfoldable pub separated : {A : Type 0} → (A → Before) → (first next : List ℕ) → List A → Before
separated item first next [] rest = rest
separated item first next (a ∷ l) rest = first ▹ item a (separated item next next l rest)

-- what is there, after its prefix, or nothing
abbrev pub optional : {A : Type 0} → (A → Before) → (prefix : List ℕ) → Option A → Before
optional item prefix none rest = rest
optional item prefix (some a) rest = prefix ▹ item a rest

-- the function `ParameterMode`
abbrev pub mode_text : ParameterMode → String
mode_text In = ""
mode_text InOut = "inout "
mode_text Out = "out "

abbrev pub mutability : Bool → String
mutability true = "var "
mutability false = "val "

module _ {N : Type 0} (name : N → List ℕ) (step : ℕ) where
  -- an expression on one line
  abbrev pub inline : Expr N → Before
  inline e rest = Expression name step e Init SingleLine rest

  abbrev pub OptionalAutoInvariant : Option (Expr N) → Before
  OptionalAutoInvariant = optional inline (bytes " autoinv ")

  -- `BlockAsStatementList`
  abbrev pub BlockAsStatementList : Shown → ℕ → (followed_by_end_curly : Bool) → Before
  BlockAsStatementList s indent followed rest = elim s.list [ none ↦ Indent indent ▹ s.print indent followed rest | some list ↦ list indent rest ]

  -- `StmtAsBlock`
  abbrev pub StmtAsBlock : Shown → ℕ → (suffix : String) → Before
  StmtAsBlock s indent suffix rest = "{\n" ▸ BlockAsStatementList s (indent + step) false (Indent indent ▹ "}" ▸ suffix ▸ rest)

  abbrev pub ExpressionStmt : String → Expr N → Shown
  ExpressionStmt prefix e = plain (λ indent followed rest. prefix ▸ " " ▸ inline e ("\n" ▸ rest))

  abbrev pub VariableDeclaration : Variable N → Option (Expr N) → Shown → ℕ → (followed_by_end_curly : Bool) → Before
  VariableDeclaration v init body indent followed rest =
      IdTypeDecl name (bytes (mutability v.is_mutable)) v.name v.optional_type
      (OptionalAutoInvariant v.optional_auto_inv (optional inline (bytes " := ") init ("\n" ▸ BlockAsStatementList body indent followed rest)))

  -- a declaration that no `}` follows has braces of its own
  abbrev pub declaration : (ℕ → Bool → Before) → ℕ → (followed_by_end_curly : Bool) → Before
  declaration p indent true rest = p indent true rest
  declaration p indent false rest = "{\n" ▸ Indent (indent + step) ▹ p (indent + step) true (Indent indent ▹ "}\n" ▸ rest)

  abbrev pub argument : CallArgument N → Before
  argument a rest = mode_text a.mode ▸ inline a.arg rest

  -- after `else`
  abbrev pub else_statement : Shown → ℕ → Before
  else_statement els indent rest = pick els.is_if (els.print indent false rest) (StmtAsBlock els indent "\n" rest)

  -- an else part that is an empty block is not printed
  abbrev pub conditional : Expr N → Shown → Shown → ℕ → Before
  conditional cond thn els indent rest =
      "if " ▸ inline cond
      (" " ▸ pick els.is_empty_block (StmtAsBlock thn indent "\n" rest) (StmtAsBlock thn indent " else " (else_statement els indent rest)))

  -- after a label
  abbrev pub labelled : Shown → ℕ → Before
  labelled body indent rest = pick body.is_loop (body.print indent false rest) (StmtAsBlock body indent "\n" rest)

  unfoldable mutual
    -- `Statement`
    pub shown : Stmt N → Shown
    shown (VarDecl v init body) = plain (declaration (λ indent followed rest. VariableDeclaration v init (shown body) indent followed rest))
    shown (Assign lhs rhs) = plain (λ indent followed rest. name lhs ▹ " := " ▸ inline rhs ("\n" ▸ rest))
    shown (Reinit vars) = plain (λ indent followed rest. "reinit " ▸ separated (λ v r. name v ▹ r) [] (bytes ", ") vars ("\n" ▸ rest))
    shown (Block ss) =
        record {
          print = λ indent followed rest. "{\n" ▸ StatementList ss (indent + step) (Indent indent ▹ "}\n" ▸ rest);
          list = some (λ indent rest. StatementList ss indent rest);
          is_empty_block = is_no_stmts ss;
          is_if = false;
          is_loop = false;
        }
    shown (Call proc args) = plain (λ indent followed rest. name proc ▹ "(" ▸ separated argument [] (bytes ", ") args (")\n" ▸ rest))
    shown (Check e) = ExpressionStmt "check" e
    shown (Assume e) = ExpressionStmt "assume" e
    shown (Reach e) = ExpressionStmt "reach" e
    shown (Assert e) = ExpressionStmt "assert" e
    shown (AForall n t body) = plain (λ indent followed rest. "forall " ▸ name n ▹ ": " ▸ name t ▹ " " ▸ StmtAsBlock (shown body) indent "\n" rest)
    shown (Choose branches) = plain (λ indent followed rest. "choose " ▸ pick (is_no_stmts branches) ("{ }\n" ▸ rest) (choices branches indent rest))
    shown (If cond thn els) =
        record {
          print = λ indent followed rest. conditional cond (shown thn) (shown els) indent rest;
          list = none;
          is_empty_block = false;
          is_if = true;
          is_loop = false;
        }
    shown (IfCase cs) =
        record {
          print = λ indent followed rest.
              "if " ▸ pick (is_no_cases cs) (Indent indent ▹ "case false {\n" ▸ Indent indent ▹ "}\n" ▸ rest) (case_list cs indent rest);
          list = none;
          is_empty_block = false;
          is_if = true;
          is_loop = false;
        }
    shown (Loop invariants body) =
        record {
          print = λ indent followed rest.
              let block = StmtAsBlock (shown body) indent "\n" rest in
              "loop" ▸ pick (is_no_a_exprs invariants) (" " ▸ block) ("\n" ▸ PrintAExprs invariants (bytes "invariant") (indent + step) (Indent indent ▹ block));
          list = none;
          is_empty_block = false;
          is_if = false;
          is_loop = true;
        }
    shown (LabeledStmt lbl body) = plain (λ indent followed rest. name lbl ▹ ": " ▸ labelled (shown body) indent rest)
    shown (Exit lbl) = plain (λ indent followed rest. "exit" ▸ optional (λ l r. name l ▹ r) (bytes " ") lbl ("\n" ▸ rest))
    shown Return = plain (λ indent followed rest. "return\n" ▸ rest)
    shown (Probe e) = ExpressionStmt "probe" e

    -- `StatementList`: the last statement is followed by `}`
    pub StatementList : Stmts N → ℕ → Before
    StatementList no_stmts indent rest = rest
    StatementList (stmts s ss) indent rest = Indent indent ▹ (shown s).print indent (is_no_stmts ss) (StatementList ss indent rest)

    -- the branches of a Choose
    pub choices : Stmts N → ℕ → Before
    choices no_stmts indent rest = rest
    choices (stmts s ss) indent rest = StmtAsBlock (shown s) indent (pick (is_no_stmts ss) "\n" " or ") (choices ss indent rest)

    -- the cases of an IfCase
    pub case_list : Cases N → ℕ → Before
    case_list no_cases indent rest = rest
    case_list (case cond body cs) indent rest =
        "case " ▸ inline cond (" " ▸ StmtAsBlock (shown body) indent (pick (is_no_cases cs) "\n" " ") (case_list cs indent rest))

    pub aexpr : AExpr N → ℕ → Before
    aexpr (a_expr e) indent rest = inline e ("\n" ▸ rest)
    aexpr (AAssertion s) indent rest = (shown s).print indent false rest

    -- `PrintAExprs`
    pub PrintAExprs : AExprs N → (prefix : List ℕ) → ℕ → Before
    PrintAExprs no_a_exprs prefix indent rest = rest
    PrintAExprs (a_exprs a es) prefix indent rest = Indent indent ▹ prefix ▹ " " ▸ aexpr a indent (PrintAExprs es prefix indent rest)

  -- `Statement` with its two flags
  abbrev pub Statement : Stmt N → ℕ → (followed_by_end_curly omit_initial_indent : Bool) → Before
  Statement s indent followed true rest = (shown s).print indent followed rest
  Statement s indent followed false rest = Indent indent ▹ (shown s).print indent followed rest
