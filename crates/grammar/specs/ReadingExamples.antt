-- Closed examples of reading, by computation. `unfolding computed` opens the reading rules, so that they compute on a closed text.
use Rattle.std.specs.Prelude.{ℕ, ◌≡◌, refl, true, false, List, [], ◌∷◌}
use Prim.Native.String.{String}
use Rattle.std.proofs.Math.Option.{Option, none, some}
use Rattle.lexing.specs.Answer.{Answer, ok, refused}
use Rattle.lexing.specs.Examples.{computed as tokens}
use Rattle.tree.specs.Ast.{Span, binding, Expr, CustomLiteral, IdExpr, OperatorExpr, IfThenElse, FunctionCallExpr, LabeledExpr, LetExpr, QuantifierExpr, ClosureExpr}
use Rattle.tree.specs.Ast.{Exprs, no_exprs, ◌then◌, Patterns, no_patterns, pattern, no_closure_bindings, closure_binding, no_closure_properties, closure_property}
use Rattle.tree.specs.Resolve.{part, resolve_expr}
use Rattle.lexing.specs.Bytes.{bytes}
use Rattle.grammar.specs.Grammar.{Tree}
use Rattle.grammar.specs.Steps.{after}
use Rattle.grammar.specs.Rules
use Rattle.grammar.specs.Reading.{Outcome, words, refusal, parse_text, read_tree, read_expression}

unfoldable pub computed : Unit {0}
unfolding tokens read_expression read_tree parse_text after Rules.left_tail Rules.right_tail Rules.once_tail Rules.comma_tail
    Rules.parse_nonempty_comma_delimited_seq Rules.parse_comma_delimited_seq Rules.equiv_operator Rules.implies_operator Rules.explies_operator
    Rules.and_operator Rules.or_operator Rules.equality_operator Rules.less_operator Rules.more_operator Rules.parse_comparison_operator
    Rules.term_operator Rules.factor_operator Rules.unary_operator Rules.parse_id_type Rules.parse_optional_type Rules.parse_listed Rules.after_if
    Rules.after_val Rules.parse_marked Rules.after_quantifier Rules.parse_parameters Rules.parse_closure_binding Rules.parse_closure_property
    Rules.after_lift Rules.after_bar Rules.after_old Rules.after_name Rules.after_label Rules.after_call Rules.after_colon Rules.after_paren
    Rules.parse_atomic_expr Rules.parse_primary_expr Rules.unary_tail Rules.parse_unary_expr Rules.parse_factor_expr Rules.parse_term_expr
    Rules.parse_juct_expr Rules.logical_tail Rules.parse_logical_expr Rules.imp_exp_tail Rules.parse_imp_exp_expr Rules.parse_equiv_expr Rules.opens_expr
    Rules.opens_at Rules.parse_expr
computed = tt

-- no blank stands after a custom literal's text
blank-in-literal : read_expression (bytes "|x :t|") 2 ≡ refusal 2 2 (0 ∷ 0 ∷ [])
unfolding computed
blank-in-literal = refl

-- at one place the depth is judged before a natural
depth-before-natural : Rules.parse_expr (bytes "18446744073709551616") 21 0 0 ≡ refused 3 0
unfolding computed
depth-before-natural = refl

-- seven bytes with 31 words: none have more than 34 (`expression-words-few`)
abbrev count : Outcome → ℕ
count (words n table) = n
count (refusal number place table) = 0

dense : count (read_expression (bytes "a+b+c+d") 34) ≡ 31
unfolding computed
dense = refl

-- ---- the forms without an operator, with a different name in every place

-- a tree that is read, its names as bytes
abbrev named : List ℕ → Answer (Expr Span) → Option Tree
named text (ok e next) = some (resolve_expr text e)
named text Answer.none = none
named text (refused number place) = none

-- the tree that a text is read as
abbrev tree_of : String → Option Tree
tree_of s = named (bytes s) (read_tree (bytes s))

abbrev variable : String → Tree
variable w = IdExpr (bytes w) false

-- variables one after the other
abbrev variables : List String → Exprs (List ℕ)
variables [] = no_exprs
variables (w ∷ ws) = ◌then◌ (variable w) (variables ws)

-- patterns and triggers of variables
abbrev patterns : List (List String) → Patterns (List ℕ)
patterns [] = no_patterns
patterns (ws ∷ ps) = pattern (variables ws) (patterns ps)

conditional : tree_of "if a b else c" ≡ some (OperatorExpr IfThenElse (variables ("a" ∷ "b" ∷ "c" ∷ [])))
unfolding computed part
conditional = refl

val-typed : tree_of "val x : t := a b" ≡ some (LetExpr (bytes "x") (some (bytes "t")) (variable "a") (variable "b"))
unfolding computed part
val-typed = refl

val-untyped : tree_of "val x := a b" ≡ some (LetExpr (bytes "x") none (variable "a") (variable "b"))
unfolding computed part
val-untyped = refl

-- two bindings and two patterns
universal : tree_of "forall x : t, y : u pattern a, b pattern c d"
    ≡ some (QuantifierExpr true (binding (bytes "x") (bytes "t") ∷ binding (bytes "y") (bytes "u") ∷ []) (patterns (("a" ∷ "b" ∷ []) ∷ ("c" ∷ []) ∷ []))
    (variable "d"))
unfolding computed part
universal = refl

existential : tree_of "exists x : t, y : u pattern a, b pattern c d"
    ≡ some (QuantifierExpr false (binding (bytes "x") (bytes "t") ∷ binding (bytes "y") (bytes "u") ∷ []) (patterns (("a" ∷ "b" ∷ []) ∷ ("c" ∷ []) ∷ []))
    (variable "d"))
unfolding computed part
existential = refl

-- no pattern, and three expressions in one
patternless : tree_of "forall x : t a" ≡ some (QuantifierExpr true (binding (bytes "x") (bytes "t") ∷ []) no_patterns (variable "a"))
unfolding computed part
patternless = refl

three-in-pattern : tree_of "exists x : t pattern a, b, c d"
    ≡ some (QuantifierExpr false (binding (bytes "x") (bytes "t") ∷ []) (patterns (("a" ∷ "b" ∷ "c" ∷ []) ∷ [])) (variable "d"))
unfolding computed part
three-in-pattern = refl

label : tree_of "l : a" ≡ some (LabeledExpr (bytes "l") (variable "a"))
unfolding computed part
label = refl

-- two bindings, of which one has parameters, and two properties, of which one has triggers
closure : tree_of "lift f(x : t, y : u) := a, g := b into n : v by { trigger c, d trigger e p, q }"
    ≡ some (ClosureExpr
    (closure_binding (bytes "f") (binding (bytes "x") (bytes "t") ∷ binding (bytes "y") (bytes "u") ∷ []) (variable "a")
    (closure_binding (bytes "g") [] (variable "b") no_closure_bindings)) (bytes "n") (bytes "v")
    (closure_property (patterns (("c" ∷ "d" ∷ []) ∷ ("e" ∷ []) ∷ [])) (variable "p") (closure_property no_patterns (variable "q") no_closure_properties)))
unfolding computed part
closure = refl

-- a closure without parameters and properties
closure-bare : tree_of "lift f() := a into n : v by { }"
    ≡ some (ClosureExpr (closure_binding (bytes "f") [] (variable "a") no_closure_bindings) (bytes "n") (bytes "v") no_closure_properties)
unfolding computed part
closure-bare = refl

custom-literal : tree_of "|s:t|" ≡ some (CustomLiteral (bytes "s") (bytes "t"))
unfolding computed part
custom-literal = refl

call-in-call : tree_of "f(a, g(b, c), h())"
    ≡ some (FunctionCallExpr (bytes "f")
    (◌then◌ (variable "a")
    (◌then◌ (FunctionCallExpr (bytes "g") (variables ("b" ∷ "c" ∷ []))) (◌then◌ (FunctionCallExpr (bytes "h") no_exprs) no_exprs))))
unfolding computed part
call-in-call = refl

-- a word may stand after `old` that is no name elsewhere
old : tree_of "f(old a, old val)"
    ≡ some (FunctionCallExpr (bytes "f") (◌then◌ (IdExpr (bytes "a") true) (◌then◌ (IdExpr (bytes "val") true) no_exprs)))
unfolding computed part
old = refl
