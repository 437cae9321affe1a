-- The kinds of RawAst.dfy, with its constructor names and field order. The parameter N is the type of names: a span of the text (`Span`)
-- in what is read and printed, the bytes themselves in the operator grammar. Every string of upstream, type names and literal texts too, is
-- a name. `resolve_expr` turns spans over a text into bytes: equality of trees (REFERENCE, "The tree words") is equality after it.
--
-- A `seq` of a kind that holds itself is a type of its own here (`Exprs`, `Stmts`, ..), since antt takes no `List Expr` inside `Expr`.
-- A datatype of one constructor is a record with upstream's field names, unless it is an item of such a `seq`. A constructor that upstream
-- names like its type begins with a small letter here.
use Rattle.std.specs.Prelude.{ℕ, Bool, List}
use Rattle.std.proofs.Math.Option.{Option}

-- a name in the words: where it starts in the text, and its length
pub record Span : Type 0 where
  pub start : ℕ
  pub len : ℕ

pub data Operator : Type 0 where
  IfThenElse : Operator
  Equiv : Operator
  LogicalImp : Operator
  LogicalAnd LogicalOr : Operator
  Eq Neq : Operator
  Less AtMost : Operator
  Plus Minus Times Div Mod : Operator
  LogicalNot : Operator
  UnaryMinus : Operator

-- how many operands an operator has at full count
abbrev pub ArgumentCount : Operator → ℕ
ArgumentCount IfThenElse = 3
ArgumentCount Equiv = 2
ArgumentCount LogicalImp = 2
ArgumentCount LogicalAnd = 2
ArgumentCount LogicalOr = 2
ArgumentCount Eq = 2
ArgumentCount Neq = 2
ArgumentCount Less = 2
ArgumentCount AtMost = 2
ArgumentCount Plus = 2
ArgumentCount Minus = 2
ArgumentCount Times = 2
ArgumentCount Div = 2
ArgumentCount Mod = 2
ArgumentCount LogicalNot = 1
ArgumentCount UnaryMinus = 1

pub data ParameterMode : Type 0 where
  In InOut Out : ParameterMode

pub data Binding (N : Type 0) : Type 0 where
  binding : N → N → Binding N

mutual
  pub data Expr (N : Type 0) : Type 0 where
    BLiteral : Bool → Expr N
    ILiteral : ℕ → Expr N
    CustomLiteral : N → N → Expr N
    IdExpr : N → Bool → Expr N
    OperatorExpr : Operator → Exprs N → Expr N
    FunctionCallExpr : N → Exprs N → Expr N
    LabeledExpr : N → Expr N → Expr N
    LetExpr : N → Option N → Expr N → Expr N → Expr N
    QuantifierExpr : Bool → List (Binding N) → Patterns N → Expr N → Expr N
    ClosureExpr : ClosureBindings N → N → N → ClosureProperties N → Expr N

  pub data Exprs (N : Type 0) : Type 0 where
    no_exprs : Exprs N
    ◌then◌ : Expr N → Exprs N → Exprs N

  pub data Patterns (N : Type 0) : Type 0 where
    no_patterns : Patterns N
    pattern : Exprs N → Patterns N → Patterns N

  pub data ClosureBindings (N : Type 0) : Type 0 where
    no_closure_bindings : ClosureBindings N
    closure_binding : N → List (Binding N) → Expr N → ClosureBindings N → ClosureBindings N

  pub data ClosureProperties (N : Type 0) : Type 0 where
    no_closure_properties : ClosureProperties N
    closure_property : Patterns N → Expr N → ClosureProperties N → ClosureProperties N

-- ---- statements

pub record Variable (N : Type 0) : Type 0 where
  pub name : N
  pub is_mutable : Bool
  pub optional_type : Option N
  pub optional_auto_inv : Option (Expr N)

pub record CallArgument (N : Type 0) : Type 0 where
  pub mode : ParameterMode
  pub arg : Expr N

mutual
  pub data Stmt (N : Type 0) : Type 0 where
    VarDecl : Variable N → Option (Expr N) → Stmt N → Stmt N
    Assign : N → Expr N → Stmt N
    Reinit : List N → Stmt N
    Block : Stmts N → Stmt N
    Call : N → List (CallArgument N) → Stmt N
    Check : Expr N → Stmt N
    Assume : Expr N → Stmt N
    Reach : Expr N → Stmt N
    Assert : Expr N → Stmt N
    AForall : N → N → Stmt N → Stmt N
    Choose : Stmts N → Stmt N
    If : Expr N → Stmt N → Stmt N → Stmt N
    IfCase : Cases N → Stmt N
    Loop : AExprs N → Stmt N → Stmt N
    LabeledStmt : N → Stmt N → Stmt N
    Exit : Option N → Stmt N
    Return : Stmt N
    Probe : Expr N → Stmt N

  pub data Stmts (N : Type 0) : Type 0 where
    no_stmts : Stmts N
    stmts : Stmt N → Stmts N → Stmts N

  pub data Cases (N : Type 0) : Type 0 where
    no_cases : Cases N
    case : Expr N → Stmt N → Cases N → Cases N

  pub data AExpr (N : Type 0) : Type 0 where
    a_expr : Expr N → AExpr N
    AAssertion : Stmt N → AExpr N

  pub data AExprs (N : Type 0) : Type 0 where
    no_a_exprs : AExprs N
    a_exprs : AExpr N → AExprs N → AExprs N

-- ---- declarations

pub record Tagger (N : Type 0) : Type 0 where
  pub name : N
  pub typ : N

pub record FParameter (N : Type 0) : Type 0 where
  pub name : N
  pub injective : Bool
  pub typ : N

pub record FunctionDefinition (N : Type 0) : Type 0 where
  pub when : Exprs N
  pub body : Expr N

pub record Function (N : Type 0) : Type 0 where
  pub name : N
  pub parameters : List (FParameter N)
  pub result_type : N
  pub tag : Option N
  pub definition : Option (FunctionDefinition N)

pub record Axiom (N : Type 0) : Type 0 where
  pub explains : List N
  pub expr : Expr N

pub record PParameter (N : Type 0) : Type 0 where
  pub name : N
  pub mode : ParameterMode
  pub typ : N
  pub optional_auto_inv : Option (Expr N)

pub record Procedure (N : Type 0) : Type 0 where
  pub name : N
  pub parameters : List (PParameter N)
  pub pre : AExprs N
  pub post : AExprs N
  pub body : Option (Stmt N)

pub record Program (N : Type 0) : Type 0 where
  pub types : List N
  pub taggers : List (Tagger N)
  pub functions : List (Function N)
  pub axioms : List (Axiom N)
  pub procedures : List (Procedure N)
