-- How deep the brackets of an operator tree's print nest: brackets round an operator that does not win over its context, and those of a call
-- with arguments, as each argument is an expression of its own.
use Rattle.std.specs.Prelude.{ℕ, suc, max, List, [], ◌∷◌}
use Rattle.lexing.specs.Answer.{pick}
use Rattle.tree.specs.Ast.{BLiteral, ILiteral, CustomLiteral, IdExpr, OperatorExpr, FunctionCallExpr, LabeledExpr, LetExpr, QuantifierExpr}
use Rattle.tree.specs.Ast.{ClosureExpr, Exprs, no_exprs, ◌then◌}
use Rattle.grammar.specs.Grammar.{Tree}
use Rattle.layout.specs.declared.power.BindingPower.{BindingPower}
use Rattle.layout.specs.declared.power.Side.TheVariants.{Left, Right}
use Rattle.layout.specs.PrintUtil.{Init, WinsOver, SubexpressionPower, BindingStrength}

-- of the operands of a unary or binary operator, each in its context
abbrev pub of_operands : BindingPower → BindingPower → List (BindingPower → ℕ) → ℕ
of_operands op context [] = 0
of_operands op context (a ∷ []) = a (SubexpressionPower op Right context)
of_operands op context (a ∷ b ∷ []) = max (a (SubexpressionPower op Left context)) (b (SubexpressionPower op Right context))
of_operands op context (a ∷ b ∷ c ∷ es) = 0

-- of the arguments of a call
abbrev pub of_arguments : List (BindingPower → ℕ) → ℕ
of_arguments [] = 0
of_arguments (a ∷ es) = max (suc (a Init)) (of_arguments es)

unfoldable mutual
  -- of a tree in a context
  pub nesting : Tree → BindingPower → ℕ
  nesting (BLiteral b) context = 0
  nesting (ILiteral n) context = 0
  nesting (CustomLiteral s t) context = 0
  nesting (IdExpr w o) context = 0
  nesting (OperatorExpr op es) context =
      let n = of_operands (BindingStrength op) context (nestings es) in pick (WinsOver (BindingStrength op) context) n (suc n)
  nesting (FunctionCallExpr w es) context = of_arguments (nestings es)
  nesting (LabeledExpr w t) context = 0
  nesting (LetExpr w y t u) context = 0
  nesting (QuantifierExpr u bs ps t) context = 0
  nesting (ClosureExpr bs w y ps) context = 0

  -- of trees, in the context that each is given
  pub nestings : Exprs (List ℕ) → List (BindingPower → ℕ)
  nestings no_exprs = []
  nestings (◌then◌ t es) = (λ c. nesting t c) ∷ nestings es
