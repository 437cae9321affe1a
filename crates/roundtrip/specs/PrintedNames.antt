-- A print takes of each name only its bytes: it is the print of the tree whose names are these bytes.
use Rattle.std.specs.Prelude.{ℕ, ◌≡◌}
use Rattle.std.proofs.Math.Path.{refl, ap}
use Rattle.std.proofs.Common.{ap₂}
use Rattle.std.proofs.Math.Option.{Option, none, some}
use mathlib.Core.List.{List, [], ◌∷◌, map}
use Rattle.lexing.specs.Bytes.{bytes}
use Rattle.tree.specs.Ast.{Binding, binding}
use Rattle.tree.specs.Ast.{Expr, BLiteral, ILiteral, CustomLiteral, IdExpr, OperatorExpr, FunctionCallExpr, LabeledExpr, LetExpr, QuantifierExpr, ClosureExpr}
use Rattle.tree.specs.Ast.{Exprs, no_exprs, ◌then◌, Patterns, no_patterns, pattern}
use Rattle.tree.specs.Ast.{ClosureBindings, no_closure_bindings, closure_binding, ClosureProperties, no_closure_properties, closure_property}
use Rattle.tree.specs.Resolve.{map_option, map_binding, map_expr, map_exprs, map_patterns, map_closure_bindings, map_closure_properties}
use Rattle.layout.specs.declared.power.BindingPower.{BindingPower}
use Rattle.layout.specs.declared.power.Side.TheVariants.{Right}
use Rattle.layout.specs.declared.format.ExprFormatOption.{ExprFormatOption}
use Rattle.layout.specs.declared.format.ExprFormatOption.TheVariants.{SingleLine}
use Rattle.layout.specs.Text.{◌▹◌, ◌▸◌}
use Rattle.layout.specs.PrintUtil.{Space, More, Init, EndlessOperator, SubexpressionPower, BindingStrength}
use Rattle.layout.specs.Printer.{is_if, ExpressionList, operator_form, wrapped, quantifier_text, IdTypeDecl, Bindings, parameters}
use Rattle.layout.specs.Printer.{triggers_end, Expression, operands, patterns, closure_bindings, triggers, properties}

module _ {N : Type 0} (name : N → List ℕ) (step : ℕ) where
  abbrev same : List ℕ → List ℕ
  same w = w

  is_if-named : (e : Expr N) → is_if e ≡ is_if (map_expr name e)
  is_if-named (BLiteral b) = refl
  is_if-named (ILiteral n) = refl
  is_if-named (CustomLiteral s t) = refl
  is_if-named (IdExpr n o) = refl
  is_if-named (OperatorExpr op es) = refl
  is_if-named (FunctionCallExpr n es) = refl
  is_if-named (LabeledExpr n e) = refl
  is_if-named (LetExpr n t r e) = refl
  is_if-named (QuantifierExpr u bs ps e) = refl
  is_if-named (ClosureExpr bs n t ps) = refl

  declared-named : (prefix : List ℕ) (n : N) (t : Option N) (r : List ℕ)
      → IdTypeDecl name prefix n t r ≡ IdTypeDecl same prefix (name n) (map_option name t) r
  declared-named prefix n none r = refl
  declared-named prefix n (some t) r = refl

  bindings-named : (prefix : List ℕ) (bs : List (Binding N)) (r : List ℕ)
      → Bindings name prefix bs r ≡ Bindings same prefix (map (map_binding name) bs) r
  unfolding Bindings
  bindings-named prefix [] r = refl
  bindings-named prefix (binding n t ∷ bs) r = ap (λ l. prefix ▹ name n ▹ ": " ▸ name t ▹ l) (bindings-named (bytes ", ") bs r)

  parameters-named : (bs : List (Binding N)) (r : List ℕ) → parameters name bs r ≡ parameters same (map (map_binding name) bs) r
  parameters-named [] r = refl
  parameters-named (b ∷ bs) r = ap (λ l. "(" ▸ l) (bindings-named [] (b ∷ bs) (")" ▸ r))

  triggers_end-named : (ps : Patterns N) → triggers_end ps ≡ triggers_end (map_patterns name ps)
  triggers_end-named no_patterns = refl
  triggers_end-named (pattern es ps) = refl

  mutual
    unfolding Expression operands patterns closure_bindings triggers properties

    -- the print of an expression
    pub print-named : (e : Expr N) (context : BindingPower) (format : ExprFormatOption) (rest : List ℕ)
        → Expression name step e context format rest ≡ Expression same step (map_expr name e) context format rest
    print-named (BLiteral b) context format rest = refl
    print-named (ILiteral n) context format rest = refl
    print-named (CustomLiteral s t) context format rest = refl
    print-named (IdExpr n o) context format rest = refl
    print-named (OperatorExpr op es) context format rest =
        ap (λ ops. wrapped (BindingStrength op) context (operator_form step op ops context format) rest) (operands-named es)
    print-named (FunctionCallExpr n es) context format rest =
        ap (λ ops. name n ▹ "(" ▸ ExpressionList [] ops (")" ▸ rest)) (operands-named es)
    print-named (LabeledExpr n e) context format rest =
        λ i. wrapped EndlessOperator context (λ r. name n ▹ ": " ▸ print-named e (SubexpressionPower EndlessOperator Right context) format r i) rest
    print-named (LetExpr n t d e) context format rest =
        λ i.
        wrapped EndlessOperator context
        (λ r. declared-named (bytes "val ") n t
        (" := " ▸ print-named d Init SingleLine
        (Space format ▹ print-named e (SubexpressionPower EndlessOperator Right context) format r i) i) i)
        rest
    print-named (QuantifierExpr u bs ps e) context format rest =
        let ind = More step format in
        λ i.
        wrapped EndlessOperator context
        (λ r. bindings-named (bytes (quantifier_text u)) bs
        (patterns-named ps ind (Space ind ▹ print-named e (SubexpressionPower EndlessOperator Right context) ind r i) i) i)
        rest
    print-named (ClosureExpr bs n t ps) context format rest =
        λ i.
        "lift "
        ▸ closure-bindings-named bs [] (" into " ▸ name n ▹ ": " ▸ name t ▹ " by { " ▸ properties-named ps [] (" }" ▸ rest) i) i

    -- the prints of its operands
    pub operands-named : (es : Exprs N) → operands name step es ≡ operands same step (map_exprs name es)
    operands-named no_exprs = refl
    operands-named (◌then◌ e es) =
        λ i. record { print = λ c f r. print-named e c f r i; is_if = is_if-named e i } ∷ operands-named es i

    patterns-named : (ps : Patterns N) (ind : ExprFormatOption) (rest : List ℕ)
        → patterns name step ps ind rest ≡ patterns same step (map_patterns name ps) ind rest
    patterns-named no_patterns ind rest = refl
    patterns-named (pattern es ps) ind rest =
        ap₂ (λ ops l. Space ind ▹ "pattern " ▸ ExpressionList [] ops l) (operands-named es) (patterns-named ps ind rest)

    closure-bindings-named : (bs : ClosureBindings N) (sep rest : List ℕ)
        → closure_bindings name step bs sep rest ≡ closure_bindings same step (map_closure_bindings name bs) sep rest
    closure-bindings-named no_closure_bindings sep rest = refl
    closure-bindings-named (closure_binding n ps e bs) sep rest =
        λ i.
        sep
        ▹ name n
        ▹ parameters-named ps (" := " ▸ print-named e Init SingleLine (closure-bindings-named bs (bytes ", ") rest i) i) i

    triggers-named : (ps : Patterns N) (rest : List ℕ) → triggers name step ps rest ≡ triggers same step (map_patterns name ps) rest
    triggers-named no_patterns rest = refl
    triggers-named (pattern es ps) rest =
        ap₂ (λ ops l. "trigger " ▸ ExpressionList [] ops (" " ▸ l)) (operands-named es) (triggers-named ps rest)

    properties-named : (ps : ClosureProperties N) (sep rest : List ℕ)
        → properties name step ps sep rest ≡ properties same step (map_closure_properties name ps) sep rest
    properties-named no_closure_properties sep rest = refl
    properties-named (closure_property ts e ps) sep rest =
        λ i.
        sep ▹ triggers-named ts (triggers_end-named ts i ▸ print-named e Init SingleLine (properties-named ps (bytes ", ") rest i) i) i
