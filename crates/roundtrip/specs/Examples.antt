-- Closed examples of how deep prints nest, by computation.
use Rattle.std.specs.Prelude.{◌≡◌, refl, false, [], ◌∷◌, map}
use Rattle.lexing.specs.Bytes.{bytes}
use Rattle.grammar.specs.Grammar.{Tree, single}
use Rattle.tree.specs.Ast.{Operator, LogicalImp, Eq, Plus, Minus, UnaryMinus, IdExpr, OperatorExpr, FunctionCallExpr, no_exprs, ◌then◌}
use Rattle.layout.specs.PrintUtil.{Init, WinsOver, SubexpressionPower}
use Rattle.roundtrip.specs.Nesting.{nesting, nestings}

unfoldable computed : Unit {0}
unfolding WinsOver SubexpressionPower nesting nestings
computed = tt

abbrev a : Tree
a = IdExpr (bytes "a") false

abbrev two : Operator → Tree → Tree → Tree
two op t u = OperatorExpr op (◌then◌ t (◌then◌ u no_exprs))

abbrev called : Tree → Tree
called t = FunctionCallExpr (bytes "f") (◌then◌ t no_exprs)

-- `a - a - a`, `a ==> a ==> a`, `--a`, `f()`
flat : map (λ t. nesting t Init)
    (two Minus (two Minus a a) a ∷ two LogicalImp a (two LogicalImp a a) ∷ single UnaryMinus (single UnaryMinus a) ∷ FunctionCallExpr (bytes "f") no_exprs ∷ [])
    ≡ 0 ∷ 0 ∷ 0 ∷ 0 ∷ []
unfolding computed
flat = refl

-- `a - (a - a)`, `(a ==> a) ==> a`, `-(a + a)`, `f(a)`
once : map (λ t. nesting t Init)
    (two Minus a (two Minus a a) ∷ two LogicalImp (two LogicalImp a a) a ∷ single UnaryMinus (two Plus a a) ∷ called a ∷ [])
    ≡ 1 ∷ 1 ∷ 1 ∷ 1 ∷ []
unfolding computed
once = refl

-- `f(f(a))`, `(a == (a == a)) == a`
twice : map (λ t. nesting t Init) (called (called a) ∷ two Eq (two Eq a (two Eq a a)) a ∷ []) ≡ 2 ∷ 2 ∷ []
unfolding computed
twice = refl
