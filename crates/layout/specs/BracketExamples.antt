-- A closed table, by computation: which expressions have brackets at which side of which operator. With `chains` of `Examples` it pins
-- RawAst.dfy's `BindingStrength` as far as prints can tell. They can't tell LogicalImp's left number from any up to 39 and its right one from
-- any down to 21; the right one of Minus from any up to 69, that of Div and Mod from any up to 80; the left one of the signs and of
-- `EndlessOperator` from any from 80 on; the right one of the signs from any down to 71, that of `EndlessOperator` from any up to 19; the
-- OperatorWins of these operators, Equiv, Plus and Times from a family (but that of `EndlessOperator`), LogicalImp's from ContextWins; and the
-- two families from any two.
use Rattle.std.specs.Prelude.{◌≡◌, refl, ℕ, true, List, [], ◌∷◌, map, eqb}
use Prim.Native.String.{String}
use Rattle.std.proofs.Math.Option.{none}
use Rattle.lexing.specs.Answer.{pick}
use Rattle.lexing.specs.Bytes.{bytes}
use Rattle.tree.specs.Ast.{binding, Operator, IfThenElse, Equiv, LogicalImp, LogicalAnd, LogicalOr, Eq, Neq, Less, AtMost, Plus, Minus, Times, Div, Mod, LogicalNot, UnaryMinus}
use Rattle.tree.specs.Ast.{Expr, OperatorExpr, LabeledExpr, LetExpr, QuantifierExpr, no_patterns}
use Rattle.layout.specs.Examples.{computed, line, list, one, two, a}

abbrev binaries : List Operator
binaries = Equiv ∷ LogicalImp ∷ LogicalAnd ∷ LogicalOr ∷ Eq ∷ Neq ∷ Less ∷ AtMost ∷ Plus ∷ Minus ∷ Times ∷ Div ∷ Mod ∷ []

-- every form that has a strength, over names: the conditional, the binary operators, the unary ones, a label, a `val`, a quantifier
abbrev forms : List (Expr String)
forms =
    OperatorExpr IfThenElse (list (a ∷ a ∷ a ∷ []))
    ∷ two Equiv a a ∷ two LogicalImp a a ∷ two LogicalAnd a a ∷ two LogicalOr a a ∷ two Eq a a ∷ two Neq a a ∷ two Less a a ∷ two AtMost a a
    ∷ two Plus a a ∷ two Minus a a ∷ two Times a a ∷ two Div a a ∷ two Mod a a ∷ one LogicalNot a ∷ one UnaryMinus a
    ∷ LabeledExpr "m" a ∷ LetExpr "v" none a a ∷ QuantifierExpr true (binding "k" "int" ∷ []) no_patterns a ∷ []

-- `(` where a print has one, else `.`
abbrev mark : List ℕ → ℕ
mark [] = 46
mark (x ∷ s) = pick (eqb x 40) 40 (mark s)

-- a mark for each form where it stands in a whole
abbrev marks : (Expr String → Expr String) → List ℕ
marks whole = map (λ e. mark (line (whole e))) forms

on-the-left : map (λ op. marks (λ e. two op e a)) binaries ≡ map bytes
    --  if <==> ==> && || == != < <= + - * div mod ! - label val quantifier
    (
    "(...............(((" ∷  -- <==>
    "(((.............(((" ∷  -- ==>
    "(((.(...........(((" ∷  -- &&
    "((((............(((" ∷  -- ||
    "(((((((((.......(((" ∷  -- ==
    "(((((((((.......(((" ∷  -- !=
    "(((((((((.......(((" ∷  -- <
    "(((((((((.......(((" ∷  -- <=
    "(((((((((.......(((" ∷  -- +
    "(((((((((.......(((" ∷  -- -
    "(((((((((((.....(((" ∷  -- *
    "(((((((((((.....(((" ∷  -- div
    "(((((((((((.....(((" ∷  -- mod
    [])
unfolding computed
on-the-left = refl

on-the-right : map (λ op. marks (λ e. two op a e)) binaries ≡ map bytes
    (
    "..................." ∷  -- <==>
    ".(................." ∷  -- ==>
    ".((.(.............." ∷  -- &&
    ".(((..............." ∷  -- ||
    ".((((((((.........." ∷  -- ==
    ".((((((((.........." ∷  -- !=
    ".((((((((.........." ∷  -- <
    ".((((((((.........." ∷  -- <=
    ".((((((((.........." ∷  -- +
    ".((((((((((........" ∷  -- -
    ".((((((((((........" ∷  -- *
    ".(((((((((((((....." ∷  -- div
    ".(((((((((((((....." ∷  -- mod
    [])
unfolding computed
on-the-right = refl

after-a-sign : map (λ op. marks (λ e. one op e)) (LogicalNot ∷ UnaryMinus ∷ []) ≡ map bytes (".(((((((((((((....." ∷ ".(((((((((((((....." ∷ [])
unfolding computed
after-a-sign = refl
