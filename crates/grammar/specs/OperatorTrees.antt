-- Operator trees, faithful ones (REFERENCE, "Faithful trees"), and the limits of a derivation (REFERENCE, "The operator grammar").
use Rattle.std.specs.Prelude.{ℕ, ◌≤◌, ◌≡◌, Bool, true, ◌&&◌, not, List, [], ◌∷◌, leb, eqb, length}
use Rattle.lexing.specs.Tokens.{most_natural}
use Rattle.tree.specs.Ast.{BLiteral, ILiteral, CustomLiteral, IdExpr, OperatorExpr, FunctionCallExpr, LabeledExpr, LetExpr, QuantifierExpr, ArgumentCount}
use Rattle.tree.specs.Ast.{ClosureExpr}
use Rattle.tree.specs.Ast.{Exprs, no_exprs, ◌then◌}
use Rattle.tree.specs.Ast.{Operator, IfThenElse, Equiv, LogicalImp, LogicalAnd, LogicalOr, Eq, Neq, Less, AtMost, Plus, Minus, Times, Div, Mod}
use Rattle.tree.specs.Ast.{LogicalNot, UnaryMinus}
pub use Rattle.tree.specs.Limits.{most_text, most_words}
use Rattle.tree.specs.Words.{operator_word, expr_words}
use Rattle.grammar.specs.Words.{is_faithful_name}
use Rattle.grammar.specs.Tokens.{Token, name, nat, mark, sign, illegal, cut}
use Rattle.grammar.specs.Grammar.{Tree, Derives}

-- Trees of the grammar's operands and of unary and binary operators at full count, whose names satisfy `named` and whose right operands
-- satisfy `fits`.
mutual
  pub data Operators (named : List ℕ → Bool) (fits : Operator → Tree → Bool) : Tree → Type 0 where
    boolean : {b : Bool} → Operators named fits (BLiteral b)
    natural : {n : ℕ} → Operators named fits (ILiteral n)
    variable : {w : List ℕ} {old : Bool} → named w ≡ true → Operators named fits (IdExpr w old)
    call : {w : List ℕ} {es : Exprs (List ℕ)} → named w ≡ true → AllOperators named fits es → Operators named fits (FunctionCallExpr w es)
    unary : {op : Operator} {t : Tree} → ArgumentCount op ≡ 1 → Operators named fits t → Operators named fits (OperatorExpr op (◌then◌ t no_exprs))
    binary : {op : Operator} {t u : Tree} → ArgumentCount op ≡ 2 → Operators named fits t → Operators named fits u → fits op u ≡ true
        → Operators named fits (OperatorExpr op (◌then◌ t (◌then◌ u no_exprs)))

  pub data AllOperators (named : List ℕ → Bool) (fits : Operator → Tree → Bool) : Exprs (List ℕ) → Type 0 where
    none : AllOperators named fits no_exprs
    next : {t : Tree} {es : Exprs (List ℕ)} → Operators named fits t → AllOperators named fits es → AllOperators named fits (◌then◌ t es)

-- document 01's 'operator tree' (REFERENCE, "Faithful trees")
abbrev pub OperatorTree : Tree → Type 0
OperatorTree = Operators (λ w. true) (λ op u. true)

-- the operators that no right operand of a faithful tree's operator has
unfoldable pub not_on_the_right : Operator → List Operator
not_on_the_right IfThenElse = []
not_on_the_right Equiv = Equiv ∷ []
not_on_the_right LogicalImp = []
not_on_the_right LogicalAnd = LogicalAnd ∷ []
not_on_the_right LogicalOr = LogicalOr ∷ []
not_on_the_right Eq = []
not_on_the_right Neq = []
not_on_the_right Less = []
not_on_the_right AtMost = []
not_on_the_right Plus = Plus ∷ Minus ∷ []
not_on_the_right Minus = []
not_on_the_right Times = Times ∷ Div ∷ Mod ∷ []
not_on_the_right Div = []
not_on_the_right Mod = []
not_on_the_right LogicalNot = []
not_on_the_right UnaryMinus = []

unfoldable pub is_none_of : List Operator → Operator → Bool
is_none_of [] op = true
is_none_of (o ∷ os) op = not (eqb (operator_word o) (operator_word op)) && is_none_of os op

unfoldable pub fits_right : Operator → Tree → Bool
fits_right op (BLiteral b) = true
fits_right op (ILiteral n) = true
fits_right op (CustomLiteral s t) = true
fits_right op (IdExpr w o) = true
fits_right op (OperatorExpr op' es) = is_none_of (not_on_the_right op) op'
fits_right op (FunctionCallExpr w es) = true
fits_right op (LabeledExpr w t) = true
fits_right op (LetExpr w y t u) = true
fits_right op (QuantifierExpr u bs ps t) = true
fits_right op (ClosureExpr bs w y ps) = true

-- document 01's 'faithful' operator tree (REFERENCE, "Faithful trees")
abbrev pub Faithful : Tree → Type 0
Faithful = Operators is_faithful_name fits_right

-- the depth limit (REFERENCE, "Limits")
abbrev pub most_depth : ℕ
most_depth = 200

-- each natural is at most 18446744073709551615
unfoldable pub small_naturals : List Token → Bool
small_naturals [] = true
small_naturals (name w ∷ ts) = small_naturals ts
small_naturals (nat n ∷ ts) = leb n most_natural && small_naturals ts
small_naturals (mark k ∷ ts) = small_naturals ts
small_naturals (sign g ∷ ts) = small_naturals ts
small_naturals (illegal ∷ ts) = small_naturals ts

-- how many words a tree has: two for each name, whatever its span
abbrev pub word_count : Tree → ℕ
word_count t = length (expr_words (λ w. record { start = 0; len = 0 }) t [])

-- The text has a derivation with the tree t that keeps the limits: text length, depth, naturals, and the tree's words against a table of so
-- many words and 16,384.
pub record DerivesWithin (table : ℕ) (text : List ℕ) (t : Tree) : Type 0 where
  pub short : length text ≤ most_text
  pub derives : Derives most_depth text t
  pub naturals : small_naturals (cut text) ≡ true
  pub fits : word_count t ≤ table
  pub few : word_count t ≤ most_words
