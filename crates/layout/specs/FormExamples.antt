-- Closed examples, by computation: the prints of the forms that have no operator sign, on one line and on broken lines, from indent 4 on and by
-- an indent step of 3, with another name in every place.
use Rattle.std.specs.Prelude.{◌≡◌, refl, true, false, List, [], ◌∷◌}
use Prim.Native.String.{String}
use Rattle.std.proofs.Math.Option.{none, some}
use Rattle.lexing.specs.Bytes.{bytes}
use Rattle.tree.specs.Ast.{Binding, binding, IfThenElse}
use Rattle.tree.specs.Ast.{Expr, BLiteral, ILiteral, CustomLiteral, IdExpr, OperatorExpr, FunctionCallExpr, LabeledExpr, LetExpr, QuantifierExpr, ClosureExpr}
use Rattle.tree.specs.Ast.{Patterns, no_patterns, pattern, no_closure_bindings, closure_binding, no_closure_properties, closure_property}
use Rattle.layout.specs.Examples.{computed, line, lines, list}

-- the print on one line, and the print on broken lines
abbrev Prints : Expr String → String → String → Type 0
Prints e short broken = (line e ≡ bytes short) × (lines 4 e ≡ bytes broken)

-- a name
abbrev v : String → Expr String
v n = IdExpr n false

conditional : Prints (OperatorExpr IfThenElse (list (v "a" ∷ v "b" ∷ v "c" ∷ []))) "if a b else c" "if a\n       b\n    else\n       c"
unfolding computed
conditional = (refl, refl)

typed-val : Prints (LetExpr "a" (some "b") (v "c") (v "d")) "val a: b := c d" "val a: b := c\n    d"
unfolding computed
typed-val = (refl, refl)

untyped-val : Prints (LetExpr "a" none (v "c") (v "d")) "val a := c d" "val a := c\n    d"
unfolding computed
untyped-val = (refl, refl)

-- two bindings, and two patterns, of two expressions and of one
abbrev two-bindings : List (Binding String)
two-bindings = binding "a" "b" ∷ binding "c" "d" ∷ []

abbrev two-patterns : Patterns String
two-patterns = pattern (list (v "e" ∷ v "f" ∷ [])) (pattern (list (v "g" ∷ [])) no_patterns)

universal : Prints (QuantifierExpr true two-bindings two-patterns (v "h")) "forall a: b, c: d pattern e, f pattern g h"
    "forall a: b, c: d\n       pattern e, f\n       pattern g\n       h"
unfolding computed
universal = (refl, refl)

existential : Prints (QuantifierExpr false two-bindings two-patterns (v "h")) "exists a: b, c: d pattern e, f pattern g h"
    "exists a: b, c: d\n       pattern e, f\n       pattern g\n       h"
unfolding computed
existential = (refl, refl)

-- the labelled expression has the format of the label
label : Prints (LabeledExpr "a" (LetExpr "b" none (v "c") (v "d"))) "a: val b := c d" "a: val b := c\n    d"
unfolding computed
label = (refl, refl)

-- two bindings, with two parameters and with one, and two properties, with two triggers and with one; on broken lines the same
abbrev closure-text : String
closure-text = "lift a(b: c, d: e) := f, g(h: i) := j into k: l by { trigger m, n trigger o :: p, trigger q :: r }"

closure : Prints
    (ClosureExpr
    (closure_binding "a" (binding "b" "c" ∷ binding "d" "e" ∷ []) (v "f") (closure_binding "g" (binding "h" "i" ∷ []) (v "j") no_closure_bindings))
    "k"
    "l"
    (closure_property
    (pattern (list (v "m" ∷ v "n" ∷ [])) (pattern (list (v "o" ∷ [])) no_patterns))
    (v "p")
    (closure_property (pattern (list (v "q" ∷ [])) no_patterns) (v "r") no_closure_properties)))
    closure-text closure-text
unfolding computed
closure = (refl, refl)

-- neither parameters nor triggers
bare-closure : Prints
    (ClosureExpr (closure_binding "a" [] (v "b") no_closure_bindings) "c" "d" (closure_property no_patterns (v "e") no_closure_properties))
    "lift a := b into c: d by { e }" "lift a := b into c: d by { e }"
unfolding computed
bare-closure = (refl, refl)

custom-literal : Prints (CustomLiteral "1+" "a") "|1+: a|" "|1+: a|"
unfolding computed
custom-literal = (refl, refl)

call-in-call : Prints
    (FunctionCallExpr "a" (list (FunctionCallExpr "b" (list (v "c" ∷ v "d" ∷ [])) ∷ v "e" ∷ FunctionCallExpr "f" (list []) ∷ [])))
    "a(b(c, d), e, f())" "a(b(c, d), e, f())"
unfolding computed
call-in-call = (refl, refl)

old : Prints (FunctionCallExpr "a" (list (IdExpr "b" true ∷ v "c" ∷ []))) "a(old b, c)" "a(old b, c)"
unfolding computed
old = (refl, refl)

literals : Prints (FunctionCallExpr "a" (list (BLiteral true ∷ BLiteral false ∷ ILiteral 0 ∷ ILiteral 9 ∷ ILiteral 10 ∷ ILiteral 18446744073709551615 ∷ [])))
    "a(true, false, 0, 9, 10, 18446744073709551615)" "a(true, false, 0, 9, 10, 18446744073709551615)"
unfolding computed
literals = (refl, refl)

-- a quantifier without bindings prints neither word
no-bindings : Prints (QuantifierExpr true [] (pattern (list (v "a" ∷ v "b" ∷ [])) no_patterns) (v "c")) " pattern a, b c" "\n       pattern a, b\n       c"
unfolding computed
no-bindings = (refl, refl)
