-- The operators by their words.
use Rattle.std.specs.Prelude.{List, [], ◌∷◌}
use Rattle.tree.specs.Ast.{Operator, IfThenElse, Equiv, LogicalImp, LogicalAnd, LogicalOr, Eq, Neq, Less, AtMost, Plus, Minus, Times, Div, Mod, LogicalNot}

-- the operators by their words; 0 stands for the first of them
abbrev pub operators : List Operator
operators =
    IfThenElse ∷ IfThenElse ∷ Equiv ∷ LogicalImp ∷ LogicalAnd ∷ LogicalOr ∷ Eq ∷ Neq ∷ Less ∷ AtMost ∷ Plus ∷ Minus ∷ Times ∷ Div ∷ Mod ∷ LogicalNot ∷ []
