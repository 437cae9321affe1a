-- On one line an expression's print does not depend on the indent step.
use Rattle.std.specs.Prelude.{ℕ, ◌≡◌, refl, Bool, true, false, List, [], ◌∷◌, map, eqb}
use Rattle.std.proofs.Common.{ap, ◌∙◌}
use Rattle.std.proofs.Math.Path.{sym}
use Rattle.lexing.specs.Answer.{pick}
use Rattle.lexing.specs.Bytes.{bytes}
use Rattle.tree.specs.Ast.{Operator, ArgumentCount}
use Rattle.tree.specs.Ast.{Expr, BLiteral, ILiteral, CustomLiteral, IdExpr, OperatorExpr, FunctionCallExpr, LabeledExpr, LetExpr, QuantifierExpr, ClosureExpr}
use Rattle.tree.specs.Ast.{Exprs, no_exprs, ◌then◌, Patterns, no_patterns, pattern}
use Rattle.tree.specs.Ast.{ClosureBindings, no_closure_bindings, closure_binding, ClosureProperties, no_closure_properties, closure_property}
use Rattle.layout.specs.declared.power.Side.{Side}
use Rattle.layout.specs.declared.power.Side.TheVariants.{Left, Right}
use Rattle.layout.specs.declared.power.BindingPower.{BindingPower}
use Rattle.layout.specs.declared.format.ExprFormatOption.TheVariants.{SingleLine}
use Rattle.layout.specs.Text.{◌▹◌, ◌▸◌}
use Rattle.layout.specs.PrintUtil.{Space, Init, EndlessOperator, SubexpressionPower, BindingStrength, ToString}
use Rattle.layout.specs.Printer.{Print, Operand, breaks_line, is_if, ExpressionList, else_branch, conditional, right_operand, binary, listed}
use Rattle.layout.specs.Printer.{operator_form, wrapped, quantifier_text, IdTypeDecl, Bindings, parameters, triggers_end}
use Rattle.layout.specs.Printer.{Expression, operands, patterns, closure_bindings, triggers, properties}

-- ---- operators, which on one line take the prints of their operands on one line

-- the operand with its print on one line, whatever the format
abbrev on_line : Operand → Operand
on_line e = record { print = λ c f r. e.print c SingleLine r; is_if = e.is_if }

list-on-line : (sep : List ℕ) (es : List Operand) (rest : List ℕ) → ExpressionList sep es rest ≡ ExpressionList sep (map on_line es) rest
unfolding ExpressionList
list-on-line sep [] rest = refl
list-on-line sep (e ∷ es) rest = ap (λ l. sep ▹ e.print Init SingleLine l) (list-on-line (bytes ", ") es rest)

module _ (s t : ℕ) (op : Operator) (context : BindingPower) (rest : List ℕ) where
  abbrev inner : Side → BindingPower
  inner side = SubexpressionPower (BindingStrength op) side context

  listed-on-line : (es : List Operand) → listed op es context SingleLine rest ≡ listed op (map on_line es) context SingleLine rest
  listed-on-line es = ap (λ l. ToString op ▸ "(" ▸ l) (list-on-line [] es (")" ▸ rest))

  right-on-line : (breaks : Bool) (b : Operand)
      → right_operand breaks b (inner Right) SingleLine rest ≡ right_operand breaks (on_line b) (inner Right) SingleLine rest
  right-on-line true b = refl
  right-on-line false b = refl

  binary-on-line : (a b : Operand) → binary op a b context SingleLine rest ≡ binary op (on_line a) (on_line b) context SingleLine rest
  binary-on-line a b = ap (λ l. a.print (inner Left) SingleLine (" " ▸ ToString op ▸ l)) (right-on-line (breaks_line op) b)

  else-on-line : (follows : Bool) (c : Operand)
      → else_branch follows c (inner Right) SingleLine SingleLine rest ≡ else_branch follows (on_line c) (inner Right) SingleLine SingleLine rest
  else-on-line true c = refl
  else-on-line false c = refl

  conditional-on-line : (a b c : Operand)
      → conditional s op a b c context SingleLine rest ≡ conditional t op (on_line a) (on_line b) (on_line c) context SingleLine rest
  conditional-on-line a b c =
      ap (λ l. "if " ▸ a.print Init SingleLine (Space SingleLine ▹ b.print Init SingleLine (Space SingleLine ▹ "else" ▸ l)))
      (else-on-line c.is_if c)

  either-on-line : (b : Bool) (x x' y y' : Print)
      → x context SingleLine rest ≡ x' context SingleLine rest → y context SingleLine rest ≡ y' context SingleLine rest
      → pick b x y context SingleLine rest ≡ pick b x' y' context SingleLine rest
  either-on-line true x x' y y' e f = e
  either-on-line false x x' y y' e f = f

  form-on-line : (es : List Operand) → operator_form s op es context SingleLine rest ≡ operator_form t op (map on_line es) context SingleLine rest
  form-on-line [] = listed-on-line []
  form-on-line (a ∷ []) = either-on-line (eqb (ArgumentCount op) 1) _ _ _ _ refl (listed-on-line (a ∷ []))
  form-on-line (a ∷ b ∷ []) = either-on-line (eqb (ArgumentCount op) 2) _ _ _ _ (binary-on-line a b) (listed-on-line (a ∷ b ∷ []))
  form-on-line (a ∷ b ∷ c ∷ []) =
      either-on-line (eqb (ArgumentCount op) 3) _ _ _ _ (conditional-on-line a b c) (listed-on-line (a ∷ b ∷ c ∷ []))
  form-on-line (a ∷ b ∷ c ∷ d ∷ es) = listed-on-line (a ∷ b ∷ c ∷ d ∷ es)

-- ---- expressions

module _ {N : Type 0} (name : N → List ℕ) (s t : ℕ) where
  -- by both steps the operands' prints on one line are the same
  abbrev Alike : Exprs N → Type 0
  Alike es = map on_line (operands name s es) ≡ map on_line (operands name t es)

  form-alike : (op : Operator) (es : Exprs N) → Alike es → (context : BindingPower) (rest : List ℕ)
      → operator_form s op (operands name s es) context SingleLine rest ≡ operator_form t op (operands name t es) context SingleLine rest
  form-alike op es alike context rest =
      form-on-line s s op context rest (operands name s es)
      ∙ ap (λ ops. operator_form s op ops context SingleLine rest) alike
      ∙ sym (form-on-line t s op context rest (operands name t es))

  list-alike : (es : Exprs N) → Alike es → (rest : List ℕ) → ExpressionList [] (operands name s es) rest ≡ ExpressionList [] (operands name t es) rest
  list-alike es alike rest =
      list-on-line [] (operands name s es) rest
      ∙ ap (λ ops. ExpressionList [] ops rest) alike
      ∙ sym (list-on-line [] (operands name t es) rest)

  mutual
    unfolding Expression operands patterns closure_bindings triggers properties

    -- the print of an expression
    pub print-on-line : (e : Expr N) (context : BindingPower) (rest : List ℕ)
        → Expression name s e context SingleLine rest ≡ Expression name t e context SingleLine rest
    print-on-line (BLiteral b) context rest = refl
    print-on-line (ILiteral n) context rest = refl
    print-on-line (CustomLiteral u v) context rest = refl
    print-on-line (IdExpr n o) context rest = refl
    print-on-line (OperatorExpr op es) context rest =
        λ i. wrapped (BindingStrength op) context (λ r. form-alike op es (operands-on-line es) context r i) rest
    print-on-line (FunctionCallExpr n es) context rest = λ i. name n ▹ "(" ▸ list-alike es (operands-on-line es) (")" ▸ rest) i
    print-on-line (LabeledExpr n e) context rest =
        λ i. wrapped EndlessOperator context (λ r. name n ▹ ": " ▸ print-on-line e (SubexpressionPower EndlessOperator Right context) r i) rest
    print-on-line (LetExpr n u d e) context rest =
        λ i.
        wrapped EndlessOperator context
        (λ r. IdTypeDecl name (bytes "val ") n u
        (" := " ▸ print-on-line d Init
        (Space SingleLine ▹ print-on-line e (SubexpressionPower EndlessOperator Right context) r i) i))
        rest
    print-on-line (QuantifierExpr u bs ps e) context rest =
        λ i.
        wrapped EndlessOperator context
        (λ r. Bindings name (bytes (quantifier_text u)) bs
        (patterns-on-line ps (Space SingleLine ▹ print-on-line e (SubexpressionPower EndlessOperator Right context) r i) i))
        rest
    print-on-line (ClosureExpr bs n u ps) context rest =
        λ i.
        "lift " ▸ bindings-on-line bs [] (" into " ▸ name n ▹ ": " ▸ name u ▹ " by { " ▸ properties-on-line ps [] (" }" ▸ rest) i) i

    -- its operands, as an operator takes them
    operands-on-line : (es : Exprs N) → Alike es
    operands-on-line no_exprs = refl
    operands-on-line (◌then◌ e es) =
        λ i. record { print = λ c f r. print-on-line e c r i; is_if = is_if e } ∷ operands-on-line es i

    patterns-on-line : (ps : Patterns N) (rest : List ℕ) → patterns name s ps SingleLine rest ≡ patterns name t ps SingleLine rest
    patterns-on-line no_patterns rest = refl
    patterns-on-line (pattern es ps) rest = λ i. Space SingleLine ▹ "pattern " ▸ list-alike es (operands-on-line es) (patterns-on-line ps rest i) i

    bindings-on-line : (bs : ClosureBindings N) (sep rest : List ℕ) → closure_bindings name s bs sep rest ≡ closure_bindings name t bs sep rest
    bindings-on-line no_closure_bindings sep rest = refl
    bindings-on-line (closure_binding n ps e bs) sep rest =
        λ i. sep ▹ name n ▹ parameters name ps (" := " ▸ print-on-line e Init (bindings-on-line bs (bytes ", ") rest i) i)

    triggers-on-line : (ps : Patterns N) (rest : List ℕ) → triggers name s ps rest ≡ triggers name t ps rest
    triggers-on-line no_patterns rest = refl
    triggers-on-line (pattern es ps) rest = λ i. "trigger " ▸ list-alike es (operands-on-line es) (" " ▸ triggers-on-line ps rest i) i

    properties-on-line : (ps : ClosureProperties N) (sep rest : List ℕ) → properties name s ps sep rest ≡ properties name t ps sep rest
    properties-on-line no_closure_properties sep rest = refl
    properties-on-line (closure_property ts e ps) sep rest =
        λ i. sep ▹ triggers-on-line ts (triggers_end ts ▸ print-on-line e Init (properties-on-line ps (bytes ", ") rest i) i) i
