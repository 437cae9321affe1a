-- Closed examples, by computation: strengths, operand counts and broken lines. Names are written as their text.
use Rattle.std.specs.Prelude.{◌≡◌, refl, ℕ, false, List, [], ◌∷◌, map}
use Prim.Native.String.{String}
use Rattle.std.proofs.Math.Option.{some}
use Rattle.lexing.specs.Bytes.{bytes}
use Rattle.tree.specs.Ast.{binding, Operator, IfThenElse, Equiv, LogicalImp, LogicalAnd, LogicalOr, Eq, Neq, Less, AtMost, Plus, Minus, Times, Div, Mod, LogicalNot, UnaryMinus}
use Rattle.tree.specs.Ast.{Expr, IdExpr, OperatorExpr, FunctionCallExpr, LabeledExpr, LetExpr, QuantifierExpr}
use Rattle.tree.specs.Ast.{Exprs, no_exprs, ◌then◌, no_patterns, pattern}
use Rattle.layout.specs.declared.format.ExprFormatOption.TheVariants.{SingleLine, MultipleLines}
use Rattle.layout.specs.Text.{digits}
use Rattle.layout.specs.PrintUtil.{Init, WinsOver, SubexpressionPower}
use Rattle.layout.specs.Printer.{ExpressionList, Bindings, Expression, operands, patterns, closure_bindings, triggers, properties}

-- `unfolding computed` opens the prints, so that they compute on a closed tree
unfoldable pub computed : Unit {0}
unfolding digits WinsOver SubexpressionPower ExpressionList Bindings Expression operands patterns closure_bindings triggers properties
computed = tt

abbrev pub line : Expr String → List ℕ
line e = Expression bytes 2 e Init SingleLine []

-- on broken lines, by a step that is not upstream's
abbrev pub lines : ℕ → Expr String → List ℕ
lines indent e = Expression bytes 3 e Init (MultipleLines indent) []

abbrev pub list : List (Expr String) → Exprs String
list [] = no_exprs
list (e ∷ es) = ◌then◌ e (list es)

abbrev pub two : Operator → Expr String → Expr String → Expr String
two op a b = OperatorExpr op (list (a ∷ b ∷ []))

abbrev pub one : Operator → Expr String → Expr String
one op a = OperatorExpr op (list (a ∷ []))

abbrev pub a : Expr String
a = IdExpr "a" false

abbrev pub b : Expr String
b = IdExpr "b" false

abbrev pub c : Expr String
c = IdExpr "c" false

-- ---- strengths

-- a right-associative operator: brackets on the left only
implications : line (two LogicalImp (two LogicalImp a b) (two LogicalImp b c)) ≡ bytes "(a ==> b) ==> b ==> c"
unfolding computed
implications = refl

-- the weakest operator: brackets on either side of another, none on either side of itself
equivalences : line (two Equiv (two Equiv a (two LogicalImp a (two Equiv b c))) (two Equiv b c)) ≡ bytes "a <==> a ==> (b <==> c) <==> b <==> c"
unfolding computed
equivalences = refl

-- comparisons don't chain
comparisons : line (two Eq (two Less a b) c) ≡ bytes "(a < b) == c"
unfolding computed
comparisons = refl

more-comparisons : line (two Neq (two AtMost a b) (two AtMost b c)) ≡ bytes "(a <= b) != (b <= c)"
unfolding computed
more-comparisons = refl

-- an operator of one family needs no brackets on either side
family : line (two LogicalOr (two LogicalOr a b) (two LogicalOr b c)) ≡ bytes "a || b || b || c"
unfolding computed
family = refl

conjunctions : line (two LogicalAnd (two LogicalAnd a b) (two LogicalAnd b c)) ≡ bytes "a && b && b && c"
unfolding computed
conjunctions = refl

-- sums and products: brackets on the right of `-`, `div` and `mod`
sums : line (two Minus (two Plus a (two Plus b c)) (two Minus b (two Plus a (two Minus c b)))) ≡ bytes "a + b + c - (b - (a + c - b))"
unfolding computed
sums = refl

products : line (two Mod (two Times (two Plus a b) (two Times b c)) (two Div a (two Mod b (two Times c a)))) ≡ bytes "(a + b) * b * c mod (a div (b mod (c * a)))"
unfolding computed
products = refl

-- none on the left of either, and `*` has none on its right: `a * (b div c)` is printed as `(a * b) div c` is
quotients : (line (two Times a (two Div b c)) ≡ bytes "a * b div c")
    × (line (two Div (two Times a b) c) ≡ bytes "a * b div c")
    × (line (two Times a (two Mod (two Div (two Mod a b) (one UnaryMinus b)) (one UnaryMinus c))) ≡ bytes "a * a mod b div -b mod -c")
unfolding computed
quotients = (refl, refl, refl)

-- between two operators that pull as strongly as it does, a tie goes to the operator in the middle
chains : (line (two Plus a (two Minus (two Minus b c) a)) ≡ bytes "a + b - c - a")
    × (line (two Times a (two Div (two Div b c) a)) ≡ bytes "a * b div c div a")
    × (line (two Times a (two Mod (two Mod b c) a)) ≡ bytes "a * b mod c mod a")
unfolding computed
chains = (refl, refl, refl)

-- from the weakest to the strongest, with no brackets and with them everywhere
rising : line (two Equiv a (two LogicalImp b (two LogicalAnd c (two AtMost a (two Plus b (two Times c (one UnaryMinus a))))))) ≡ bytes "a <==> b ==> c && a <= b + c * -a"
unfolding computed
rising = refl

falling : line (one UnaryMinus (two Times (two Plus (two Neq (two LogicalOr (two LogicalImp (two Equiv a b) c) a) b) c) a)) ≡ bytes "-((((((a <==> b) ==> c) || a) != b) + c) * a)"
unfolding computed
falling = refl

signs : line (one LogicalNot (one LogicalNot (one UnaryMinus (one UnaryMinus (one LogicalNot a))))) ≡ bytes "!!--!a"
unfolding computed
signs = refl

prefixes : line (one LogicalNot (one UnaryMinus (two Plus a b))) ≡ bytes "!-(a + b)"
unfolding computed
prefixes = refl

prefixed-factor : line (two Times (one LogicalNot a) b) ≡ bytes "!a * b"
unfolding computed
prefixed-factor = refl

-- a conditional, a label, a `val` or a quantifier takes all that follows it, so it is bracketed on the left of an operator only
endless : line (two Equiv (LabeledExpr "m" a) (LabeledExpr "n" (two Equiv b c))) ≡ bytes "(m: a) <==> n: b <==> c"
unfolding computed
endless = refl

-- ---- operand counts

abbrev operators : List Operator
operators =
    IfThenElse ∷ Equiv ∷ LogicalImp ∷ LogicalAnd ∷ LogicalOr ∷ Eq ∷ Neq ∷ Less ∷ AtMost ∷ Plus ∷ Minus ∷ Times ∷ Div ∷ Mod ∷ LogicalNot ∷ UnaryMinus ∷ []

-- every operator with the same operands
abbrev each : List (Expr String) → Expr String
each es = FunctionCallExpr "f" (list (map (λ op. OperatorExpr op (list es)) operators))

no-operands : line (each []) ≡ bytes "f(if-then-else(), <==>(), ==>(), &&(), ||(), ==(), !=(), <(), <=(), +(), -(), *(), div(), mod(), !(), -())"
unfolding computed
no-operands = refl

one-operand : line (each (a ∷ []))
    ≡ bytes "f(if-then-else(a), <==>(a), ==>(a), &&(a), ||(a), ==(a), !=(a), <(a), <=(a), +(a), -(a), *(a), div(a), mod(a), !a, -a)"
unfolding computed
one-operand = refl

two_operands : line (each (a ∷ b ∷ []))
    ≡ bytes "f(if-then-else(a, b), a <==> b, a ==> b, a && b, a || b, a == b, a != b, a < b, a <= b, a + b, a - b, a * b, a div b, a mod b, !(a, b), -(a, b))"
unfolding computed
two_operands = refl

three-operands : line (each (a ∷ b ∷ c ∷ []))
    ≡ bytes
    "f(if a b else c, <==>(a, b, c), ==>(a, b, c), &&(a, b, c), ||(a, b, c), ==(a, b, c), !=(a, b, c), <(a, b, c), <=(a, b, c), +(a, b, c), -(a, b, c), *(a, b, c), div(a, b, c), mod(a, b, c), !(a, b, c), -(a, b, c))"
unfolding computed
three-operands = refl

four-operands : line (OperatorExpr IfThenElse (list (a ∷ b ∷ c ∷ a ∷ []))) ≡ bytes "if-then-else(a, b, c, a)"
unfolding computed
four-operands = refl

-- a list of operands is bracketed as its operator is, and each of them stands alone
listed : line (two Times (one Plus (two Equiv a b)) (OperatorExpr LogicalNot (list (two Plus a b ∷ two Equiv b c ∷ []))))
    ≡ bytes "(+(a <==> b)) * !(a + b, b <==> c)"
unfolding computed
listed = refl

-- ---- broken lines

-- every operator between two conjunctions: the line is broken after `==>`, `&&` and `||`, and in their right operand; never in a left one
broken-operators : map (λ op. lines 1 (two op (two LogicalAnd a b) (two LogicalAnd b c))) operators ≡ map bytes
    (
    "if-then-else(a && b, b && c)" ∷
    "a && b <==> b && c" ∷
    "a && b ==>\n b &&\n c" ∷
    "a && b &&\n b &&\n c" ∷
    "(a && b) ||\n (b &&\n c)" ∷
    "(a && b) == (b && c)" ∷
    "(a && b) != (b && c)" ∷
    "(a && b) < (b && c)" ∷
    "(a && b) <= (b && c)" ∷
    "(a && b) + (b && c)" ∷
    "(a && b) - (b && c)" ∷
    "(a && b) * (b && c)" ∷
    "(a && b) div (b && c)" ∷
    "(a && b) mod (b && c)" ∷
    "!(a && b, b && c)" ∷
    "-(a && b, b && c)" ∷
    [])
unfolding computed
broken-operators = refl

broken-right : lines 1 (two LogicalAnd (two LogicalOr a b) (two LogicalOr b (two Plus a b))) ≡ bytes "(a || b) &&\n (b ||\n a + b)"
unfolding computed
broken-right = refl

-- a conditional after `else` stays on the line, at the same indent
broken-else : lines 0 (OperatorExpr IfThenElse (list (a ∷ b ∷ OperatorExpr IfThenElse (list (b ∷ c ∷ LetExpr "v" (some "t") a b ∷ [])) ∷ [])))
    ≡ bytes "if a\n   b\nelse if b\n   c\nelse\n   val v: t := a\n   b"
unfolding computed
broken-else = refl

broken-quantifier : lines 3 (QuantifierExpr false (binding "k" "int" ∷ binding "l" "int" ∷ []) (pattern (list (a ∷ [])) no_patterns) b)
    ≡ bytes "exists k: int, l: int\n      pattern a\n      b"
unfolding computed
broken-quantifier = refl
