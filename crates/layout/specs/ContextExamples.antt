-- Closed examples, by computation: the context and the format that each form of an expression gives its parts.
use Rattle.std.specs.Prelude.{◌≡◌, refl, true, false, [], ◌∷◌}
use Prim.Native.String.{String}
use Rattle.std.proofs.Math.Option.{none}
use Rattle.lexing.specs.Bytes.{bytes}
use Rattle.tree.specs.Ast.{binding, IfThenElse, Equiv, LogicalAnd, Plus, Minus, Times, LogicalNot, UnaryMinus}
use Rattle.tree.specs.Ast.{Expr, BLiteral, ILiteral, CustomLiteral, OperatorExpr, FunctionCallExpr, LabeledExpr, LetExpr, QuantifierExpr, ClosureExpr}
use Rattle.tree.specs.Ast.{no_patterns, pattern, no_closure_bindings, closure_binding, no_closure_properties, closure_property}
use Rattle.layout.specs.Examples.{computed, line, lines, list, one, two, a, b, c}

-- the weakest operator, which needs brackets in any context but the outermost
abbrev equal : Expr String
equal = two Equiv a b

-- an operator that breaks the line on broken lines
abbrev both : Expr String
both = two LogicalAnd a b

abbrev if : Expr String → Expr String → Expr String → Expr String
if d e f = OperatorExpr IfThenElse (list (d ∷ e ∷ f ∷ []))

abbrev m : Expr String → Expr String
m e = LabeledExpr "m" e

-- a closure with the same expression in each of its places
abbrev lift : Expr String → Expr String
lift e = ClosureExpr (closure_binding "f" [] e no_closure_bindings) "r" "t" (closure_property (pattern (list (e ∷ [])) no_patterns) e no_closure_properties)

-- ---- contexts: brackets around a part, or none

-- the test and the first branch of a conditional stand alone; the other branch does on its right
conditional-parts : line (two Plus c (if equal equal equal)) ≡ bytes "c + if a <==> b a <==> b else a <==> b"
unfolding computed
conditional-parts = refl

-- what takes all that follows it needs no brackets after a sign
after-a-sign : line (one UnaryMinus (m a)) ≡ bytes "-m: a"
unfolding computed
after-a-sign = refl

-- the value of a `val` stands alone, its body on its right
val-parts : line (two Times c (LetExpr "v" none both equal)) ≡ bytes "c * val v := a && b a <==> b"
unfolding computed
val-parts = refl

quantifier-parts : line (two Times c (QuantifierExpr true (binding "k" "int" ∷ []) no_patterns equal)) ≡ bytes "c * forall k: int a <==> b"
unfolding computed
quantifier-parts = refl

-- and on the left of another operator the same are bracketed
on-the-left : line (two Times (LetExpr "v" none a b) (two Times (QuantifierExpr false [] no_patterns a) (two Times (if a b c) c)))
    ≡ bytes "(val v := a b) * ( a) * (if a b else c) * c"
unfolding computed
on-the-left = refl

-- arguments, patterns, and all parts of a closure stand alone; a closure has no brackets anywhere
alone-parts : (line (two Times (FunctionCallExpr "f" (list (equal ∷ []))) c) ≡ bytes "f(a <==> b) * c")
    × (line (two Times c (QuantifierExpr true (binding "k" "int" ∷ []) (pattern (list (equal ∷ [])) no_patterns) a)) ≡ bytes "c * forall k: int pattern a <==> b a")
    × (line (two Times (lift equal) (lift equal)) ≡ bytes "lift f := a <==> b into r: t by { trigger a <==> b :: a <==> b } * lift f := a <==> b into r: t by { trigger a <==> b :: a <==> b }")
unfolding computed
alone-parts = (refl, refl, refl)

-- ---- contexts inside brackets: what stands outside them no longer counts

inside-on-the-right : line (two Times (two Plus a (m b)) c) ≡ bytes "(a + m: b) * c"
unfolding computed
inside-on-the-right = refl

inside-on-the-left : line (two Minus a (two Minus (two Minus b c) a)) ≡ bytes "a - (b - c - a)"
unfolding computed
inside-on-the-left = refl

inside-a-label : line (two Times (m (m a)) c) ≡ bytes "(m: m: a) * c"
unfolding computed
inside-a-label = refl

-- without brackets it does
no-brackets-on-the-right : line (two Times (two Times a (m b)) c) ≡ bytes "a * (m: b) * c"
unfolding computed
no-brackets-on-the-right = refl

no-brackets-after-a-sign : line (two Times (one UnaryMinus (m a)) c) ≡ bytes "-(m: a) * c"
unfolding computed
no-brackets-after-a-sign = refl

-- ---- formats: a part on one line, or on broken lines

-- a conditional's test stays on one line
broken-test : lines 0 (if both both both) ≡ bytes "if a && b\n   a &&\n   b\nelse\n   a &&\n   b"
unfolding computed
broken-test = refl

broken-sign : lines 0 (one LogicalNot both) ≡ bytes "!(a && b)"
unfolding computed
broken-sign = refl

-- the right operand of an operator that does not break the line
broken-sum : lines 0 (two Plus a (if a b c)) ≡ bytes "a + if a b else c"
unfolding computed
broken-sum = refl

broken-val : lines 0 (LetExpr "v" none both both) ≡ bytes "val v := a && b\na &&\nb"
unfolding computed
broken-val = refl

broken-call : lines 0 (FunctionCallExpr "f" (list (both ∷ []))) ≡ bytes "f(a && b)"
unfolding computed
broken-call = refl

-- a list of operands
broken-list : lines 0 (one Plus both) ≡ bytes "+(a && b)"
unfolding computed
broken-list = refl

-- a quantifier's patterns stay on one line each, its body is broken
broken-body : lines 0 (QuantifierExpr true (binding "k" "int" ∷ []) (pattern (list (both ∷ [])) no_patterns) both)
    ≡ bytes "forall k: int\n   pattern a && b\n   a &&\n   b"
unfolding computed
broken-body = refl

broken-label : lines 0 (m both) ≡ bytes "m: a &&\nb"
unfolding computed
broken-label = refl

-- all parts of a closure
broken-closure : lines 0 (lift both) ≡ bytes "lift f := a && b into r: t by { trigger a && b :: a && b }"
unfolding computed
broken-closure = refl

-- ---- after `else`

-- any expression but a conditional has a line of its own
abbrev Alone : Expr String → String → Type 0
Alone e text = lines 0 (if a b e) ≡ bytes text

alone : Alone (BLiteral true) "if a\n   b\nelse\n   true"
    × Alone (ILiteral 1) "if a\n   b\nelse\n   1"
    × Alone (CustomLiteral "1" "t") "if a\n   b\nelse\n   |1: t|"
    × Alone (FunctionCallExpr "f" (list [])) "if a\n   b\nelse\n   f()"
    × Alone (LabeledExpr "m" c) "if a\n   b\nelse\n   m: c"
    × Alone (QuantifierExpr true [] no_patterns c) "if a\n   b\nelse\n   \n      c"
    × Alone (ClosureExpr no_closure_bindings "d" "t" no_closure_properties) "if a\n   b\nelse\n   lift  into d: t by {  }"
unfolding computed
alone = (refl, refl, refl, refl, refl, refl, refl)

-- a conditional with another number of operands stays on the line too
cascading-list : lines 0 (if a b (one IfThenElse c)) ≡ bytes "if a\n   b\nelse if-then-else(c)"
unfolding computed
cascading-list = refl
