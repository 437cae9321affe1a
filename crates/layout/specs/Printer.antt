-- Printer.dfy, the prints of expressions, method by method. A name is printed as the bytes that `name` gives it; `step` is the indent step.
-- Each print takes the bytes that follow it.
use Rattle.std.specs.Prelude.{ℕ, Bool, true, false, ◌||◌, List, [], ◌∷◌, eqb}
use Prim.Native.String.{String}
use Rattle.std.proofs.Math.Option.{Option, none, some}
use Rattle.lexing.specs.Answer.{pick}
use Rattle.lexing.specs.Bytes.{bytes}
use Rattle.tree.specs.Ast.{Binding, binding, Operator, IfThenElse, LogicalImp, LogicalAnd, LogicalOr, ArgumentCount}
use Rattle.tree.specs.Ast.{Expr, BLiteral, ILiteral, CustomLiteral, IdExpr, OperatorExpr, FunctionCallExpr, LabeledExpr, LetExpr, QuantifierExpr, ClosureExpr}
use Rattle.tree.specs.Ast.{Exprs, no_exprs, ◌then◌, Patterns, no_patterns, pattern}
use Rattle.tree.specs.Ast.{ClosureBindings, no_closure_bindings, closure_binding, ClosureProperties, no_closure_properties, closure_property}
use Rattle.tree.specs.Words.{operator_word}
use Rattle.layout.specs.declared.power.Side.TheVariants.{Left, Right}
use Rattle.layout.specs.declared.power.BindingPower.{BindingPower}
use Rattle.layout.specs.declared.format.ExprFormatOption.{ExprFormatOption}
use Rattle.layout.specs.declared.format.ExprFormatOption.TheVariants.{SingleLine}
use Rattle.layout.specs.Text.{◌▹◌, ◌▸◌, decimal}
use Rattle.layout.specs.PrintUtil.{Space, More, Init, EndlessOperator, SubexpressionPower, Parenthesis, ToString, BindingStrength}

-- an expression's print in a context and a format
abbrev pub Print : Type 0
Print = BindingPower → ExprFormatOption → List ℕ → List ℕ

-- an operand as the method `Expression` sees it at its operator: its print, and `OperatorExpr? && op == IfThenElse`
pub record Operand : Type 0 where
  pub print : Print
  pub is_if : Bool

abbrev pub same_operator : Operator → Operator → Bool
same_operator o p = eqb (operator_word o) (operator_word p)

-- `op in {LogicalImp, LogicalAnd, LogicalOr}`: the format may break the line after these
abbrev pub breaks_line : Operator → Bool
breaks_line op = same_operator op LogicalImp || same_operator op LogicalAnd || same_operator op LogicalOr

-- `ExpressionList`, with the separator before its first item
unfoldable pub ExpressionList : List ℕ → List Operand → List ℕ → List ℕ
ExpressionList sep [] rest = rest
ExpressionList sep (e ∷ es) rest = sep ▹ e.print Init SingleLine (ExpressionList (bytes ", ") es rest)

-- the alternatives of `OperatorExpr`, between their parentheses

-- after `else`: a conditional follows on the same line, anything else on one of its own
abbrev pub else_branch : Bool → Operand → BindingPower → ExprFormatOption → ExprFormatOption → List ℕ → List ℕ
else_branch true e context format ind rest = " " ▸ e.print context format rest
else_branch false e context format ind rest = Space ind ▹ e.print context ind rest

abbrev pub conditional : ℕ → Operator → Operand → Operand → Operand → Print
conditional step op a b c context format rest =
    let ind = More step format in
    "if " ▸ a.print Init SingleLine
    (Space ind ▹ b.print Init ind
    (Space format ▹ "else" ▸ else_branch c.is_if c (SubexpressionPower (BindingStrength op) Right context) format ind rest))

abbrev pub unary : Operator → Operand → Print
unary op a context format rest = ToString op ▸ a.print (SubexpressionPower (BindingStrength op) Right context) SingleLine rest

abbrev pub right_operand : Bool → Operand → BindingPower → ExprFormatOption → List ℕ → List ℕ
right_operand true b context format rest = Space format ▹ b.print context format rest
right_operand false b context format rest = " " ▸ b.print context SingleLine rest

abbrev pub binary : Operator → Operand → Operand → Print
binary op a b context format rest =
    a.print (SubexpressionPower (BindingStrength op) Left context) SingleLine
    (" " ▸ ToString op ▸ right_operand (breaks_line op) b (SubexpressionPower (BindingStrength op) Right context) format rest)

-- `op(args)`, where the operands aren't as many as the operator takes
abbrev pub listed : Operator → List Operand → Print
listed op es context format rest = ToString op ▸ "(" ▸ ExpressionList [] es (")" ▸ rest)

abbrev pub operator_form : ℕ → Operator → List Operand → Print
operator_form step op [] = listed op []
operator_form step op (a ∷ []) = pick (eqb (ArgumentCount op) 1) (unary op a) (listed op (a ∷ []))
operator_form step op (a ∷ b ∷ []) = pick (eqb (ArgumentCount op) 2) (binary op a b) (listed op (a ∷ b ∷ []))
operator_form step op (a ∷ b ∷ c ∷ []) = pick (eqb (ArgumentCount op) 3) (conditional step op a b c) (listed op (a ∷ b ∷ c ∷ []))
operator_form step op (a ∷ b ∷ c ∷ d ∷ es) = listed op (a ∷ b ∷ c ∷ d ∷ es)

-- a print between the parentheses that an operator needs in a context
abbrev pub wrapped : BindingPower → BindingPower → (List ℕ → List ℕ) → List ℕ → List ℕ
wrapped op context body rest = Parenthesis Left op context ▹ body (Parenthesis Right op context ▹ rest)

abbrev pub is_if : {N : Type 0} → Expr N → Bool
is_if (BLiteral b) = false
is_if (ILiteral n) = false
is_if (CustomLiteral s t) = false
is_if (IdExpr n o) = false
is_if (OperatorExpr op es) = same_operator op IfThenElse
is_if (FunctionCallExpr n es) = false
is_if (LabeledExpr n e) = false
is_if (LetExpr n t r e) = false
is_if (QuantifierExpr u bs ps e) = false
is_if (ClosureExpr bs n t ps) = false

abbrev pub bool_text : Bool → String
bool_text true = "true"
bool_text false = "false"

abbrev pub old_text : Bool → String
old_text true = "old "
old_text false = ""

abbrev pub quantifier_text : Bool → String
quantifier_text true = "forall "
quantifier_text false = "exists "

-- between a closure property's triggers and its body
abbrev pub triggers_end : {N : Type 0} → Patterns N → String
triggers_end no_patterns = ""
triggers_end (pattern es ps) = ":: "

module _ {N : Type 0} (name : N → List ℕ) where
  abbrev pub IdTypeDecl : List ℕ → N → Option N → List ℕ → List ℕ
  IdTypeDecl prefix n none rest = prefix ▹ name n ▹ rest
  IdTypeDecl prefix n (some t) rest = prefix ▹ name n ▹ ": " ▸ name t ▹ rest

  unfoldable pub Bindings : List ℕ → List (Binding N) → List ℕ → List ℕ
  Bindings prefix [] rest = rest
  Bindings prefix (binding n t ∷ bs) rest = IdTypeDecl prefix n (some t) (Bindings (bytes ", ") bs rest)

  -- a closure binding's parameters
  abbrev pub parameters : List (Binding N) → List ℕ → List ℕ
  parameters [] rest = rest
  parameters (b ∷ bs) rest = "(" ▸ Bindings [] (b ∷ bs) (")" ▸ rest)

module _ {N : Type 0} (name : N → List ℕ) (step : ℕ) where
  unfoldable mutual
    pub Expression : Expr N → BindingPower → ExprFormatOption → List ℕ → List ℕ
    Expression (BLiteral b) context format rest = bool_text b ▸ rest
    Expression (ILiteral n) context format rest = decimal n rest
    Expression (CustomLiteral s t) context format rest = "|" ▸ name s ▹ ": " ▸ name t ▹ "|" ▸ rest
    Expression (IdExpr n o) context format rest = old_text o ▸ name n ▹ rest
    Expression (OperatorExpr op es) context format rest =
        wrapped (BindingStrength op) context (operator_form step op (operands es) context format) rest
    Expression (FunctionCallExpr n es) context format rest = name n ▹ "(" ▸ ExpressionList [] (operands es) (")" ▸ rest)
    Expression (LabeledExpr n e) context format rest =
        wrapped EndlessOperator context (λ r. name n ▹ ": " ▸ Expression e (SubexpressionPower EndlessOperator Right context) format r) rest
    Expression (LetExpr n t d e) context format rest =
        wrapped EndlessOperator context
        (λ r. IdTypeDecl name (bytes "val ") n t
        (" := " ▸ Expression d Init SingleLine
        (Space format ▹ Expression e (SubexpressionPower EndlessOperator Right context) format r)))
        rest
    Expression (QuantifierExpr u bs ps e) context format rest =
        let ind = More step format in
        wrapped EndlessOperator context
        (λ r. Bindings name (bytes (quantifier_text u)) bs
        (patterns ps ind (Space ind ▹ Expression e (SubexpressionPower EndlessOperator Right context) ind r)))
        rest
    Expression (ClosureExpr bs n t ps) context format rest =
        "lift " ▸ closure_bindings bs [] (" into " ▸ name n ▹ ": " ▸ name t ▹ " by { " ▸ properties ps [] (" }" ▸ rest))

    pub operands : Exprs N → List Operand
    operands no_exprs = []
    operands (◌then◌ e es) = record { print = λ c f r. Expression e c f r; is_if = is_if e } ∷ operands es

    pub patterns : Patterns N → ExprFormatOption → List ℕ → List ℕ
    patterns no_patterns ind rest = rest
    patterns (pattern es ps) ind rest = Space ind ▹ "pattern " ▸ ExpressionList [] (operands es) (patterns ps ind rest)

    pub closure_bindings : ClosureBindings N → List ℕ → List ℕ → List ℕ
    closure_bindings no_closure_bindings sep rest = rest
    closure_bindings (closure_binding n ps e bs) sep rest =
        sep ▹ name n ▹ parameters name ps (" := " ▸ Expression e Init SingleLine (closure_bindings bs (bytes ", ") rest))

    pub triggers : Patterns N → List ℕ → List ℕ
    triggers no_patterns rest = rest
    triggers (pattern es ps) rest = "trigger " ▸ ExpressionList [] (operands es) (" " ▸ triggers ps rest)

    pub properties : ClosureProperties N → List ℕ → List ℕ → List ℕ
    properties no_closure_properties sep rest = rest
    properties (closure_property ts e ps) sep rest =
        sep ▹ triggers ts (triggers_end ts ▸ Expression e Init SingleLine (properties ps (bytes ", ") rest))
