-- Texts and what the grammar makes of them, computed. Each row of the operator table stands here with two operands that differ, each chain
-- with three, so that no wrong entry passes; and what has no derivation, at any depth.
use Rattle.std.specs.Prelude.{ℕ, suc, ◌≡◌, refl, Bool, true, false, List, [], ◌∷◌, map, length}
use Prim.Native.String.{String}
use Rattle.std.proofs.Math.Option.{Option, none, some}
use Rattle.lexing.specs.Bytes.{is_space, is_digit, can_start_identifier_char, identifier_char, not_newline, run, starts_with, same_bytes, bytes}
use Rattle.lexing.specs.Blanks.{mark as comment_mark, long_comment, blank, blanks_from, W}
use Rattle.lexing.specs.Tokens.{identifier_length, decimal}
use Rattle.tree.specs.Ast.{BLiteral, ILiteral, IdExpr, OperatorExpr, FunctionCallExpr, no_exprs, ◌then◌}
use Rattle.tree.specs.Ast.{Operator, Equiv, LogicalImp, LogicalAnd, LogicalOr, Eq, Neq, Less, AtMost, Plus, Minus, Times, Div, Mod, LogicalNot}
use Rattle.tree.specs.Ast.{UnaryMinus}
use Rattle.grammar.specs.Words.{one_of, is_name, is_identifier, is_faithful_name, excluded_words, keywords}
use Rattle.grammar.specs.Tokens.{Spelling, ◌is◌, signs, sign_at, natural_at, name_at, token_at, at_token, tokens_after, cut}
use Rattle.grammar.specs.Grammar.{Tree, sign_role, word_role, role, binary, unary, single}
use Rattle.grammar.specs.OperatorTrees.{Operators, Faithful, not_on_the_right, is_none_of, fits_right}
use Rattle.grammar.specs.Parser.{after, see, is_nat, is_word, is_mark, in_class, parse_series, parse_items, parse_named, parse_excluded}
use Rattle.grammar.specs.Parser.{parse_bracketed, parse_operand, parse_unary}
use Rattle.grammar.specs.Parser.{left_tail, right_tail, once_tail, either_tail, continued, parse_expr, parse}
use Rattle.tree.specs.Clash.{impossible}

infixl 70 ◌gives◌
-- the tree that the token parser gives for a text, at a depth
unfoldable tree_of : ℕ → String → Option Tree
unfolding is_space is_digit can_start_identifier_char identifier_char not_newline run starts_with same_bytes
    comment_mark long_comment blank blanks_from W identifier_length decimal
    sign_at natural_at name_at token_at at_token tokens_after cut one_of is_name sign_role word_role role binary unary
    after see is_nat is_word is_mark in_class parse_series parse_items parse_named parse_excluded parse_bracketed parse_operand parse_unary
    left_tail right_tail once_tail either_tail continued parse_expr parse
tree_of d text = parse d (cut (bytes text))

data Trial : Type 0 where
  ◌gives◌ : String → Tree → Trial

abbrev text_of : Trial → String
text_of (◌gives◌ s t) = s

abbrev expected : Trial → Option Tree
expected (◌gives◌ s t) = some t

abbrev name' : String → Tree
name' w = IdExpr (bytes w) false

abbrev two : Operator → Tree → Tree → Tree
two op t u = OperatorExpr op (◌then◌ t (◌then◌ u no_exprs))

abbrev a : Tree
a = name' "a"

abbrev b : Tree
b = name' "b"

abbrev c : Tree
c = name' "c"

-- the operator table
abbrev rows : List Trial
rows =
    "a * b" gives two Times a b
    ∷ "a div b" gives two Div a b
    ∷ "a mod b" gives two Mod a b
    ∷ "a + b" gives two Plus a b
    ∷ "a - b" gives two Minus a b
    ∷ "a == b" gives two Eq a b
    ∷ "a != b" gives two Neq a b
    ∷ "a < b" gives two Less a b
    ∷ "a <= b" gives two AtMost a b
    ∷ "a >= b" gives two AtMost b a
    ∷ "a > b" gives two Less b a
    ∷ "a && b" gives two LogicalAnd a b
    ∷ "a || b" gives two LogicalOr a b
    ∷ "a ==> b" gives two LogicalImp a b
    ∷ "a <== b" gives two LogicalImp b a
    ∷ "a <==> b" gives two Equiv a b
    ∷ "!a" gives single LogicalNot a
    ∷ "-a" gives single UnaryMinus a
    ∷ []

rows-hold : (d : ℕ) → map (λ r. tree_of (suc d) (text_of r)) rows ≡ map expected rows
unfolding tree_of
rows-hold d = refl

-- chains to the left and to the right, and one level inside another
abbrev chains : List Trial
chains =
    "a * b div c" gives two Div (two Times a b) c
    ∷ "a mod b * c" gives two Times (two Mod a b) c
    ∷ "a - b + c" gives two Plus (two Minus a b) c
    ∷ "a && b && c" gives two LogicalAnd (two LogicalAnd a b) c
    ∷ "a || b || c" gives two LogicalOr (two LogicalOr a b) c
    ∷ "a ==> b ==> c" gives two LogicalImp a (two LogicalImp b c)
    ∷ "a <== b <== c" gives two LogicalImp c (two LogicalImp b a)
    ∷ "a <==> b <==> c" gives two Equiv (two Equiv a b) c
    ∷ "--5" gives single UnaryMinus (single UnaryMinus (ILiteral 5))
    ∷ "!-a" gives single LogicalNot (single UnaryMinus a)
    ∷ "-a * b" gives two Times (single UnaryMinus a) b
    ∷ "a + b * c" gives two Plus a (two Times b c)
    ∷ "a - -b" gives two Minus a (single UnaryMinus b)
    ∷ "a < b + c" gives two Less a (two Plus b c)
    ∷ "a || b > c" gives two LogicalOr a (two Less c b)
    ∷ "a && b ==> c" gives two LogicalImp (two LogicalAnd a b) c
    ∷ "a <== b || c" gives two LogicalImp (two LogicalOr b c) a
    ∷ "a <==> b ==> c" gives two Equiv a (two LogicalImp b c)
    ∷ []

chains-hold : (d : ℕ) → map (λ r. tree_of (suc d) (text_of r)) chains ≡ map expected chains
unfolding tree_of
chains-hold d = refl

-- operands, names and blanks
abbrev operands : List Trial
operands =
    "false" gives BLiteral false
    ∷ "true" gives BLiteral true
    ∷ "18446744073709551616" gives ILiteral 18446744073709551616
    ∷ "old a" gives IdExpr (bytes "a") true
    ∷ "old if" gives IdExpr (bytes "if") true
    ∷ "old old" gives IdExpr (bytes "old") true
    ∷ "f()" gives FunctionCallExpr (bytes "f") no_exprs
    ∷ "falsee" gives name' "falsee"
    ∷ "a%b" gives name' "a%b"
    ∷ "%a.b_c$1" gives name' "%a.b_c$1"
    ∷ "div div mod" gives two Div (name' "div") (name' "mod")
    ∷ "5div 3" gives two Div (ILiteral 5) (ILiteral 3)
    ∷ "a<==>b" gives two Equiv a b
    ∷ " /* a /* b */ */ a // *" gives a
    ∷ []

operands-hold : (d : ℕ) → map (λ r. tree_of (suc d) (text_of r)) operands ≡ map expected operands
unfolding tree_of
operands-hold d = refl

-- brackets and arguments lie one deeper
abbrev bracketed : List Trial
bracketed =
    "(a)" gives a
    ∷ "(a + b) * c" gives two Times (two Plus a b) c
    ∷ "a && (b || c)" gives two LogicalAnd a (two LogicalOr b c)
    ∷ "f(a)" gives FunctionCallExpr (bytes "f") (◌then◌ a no_exprs)
    ∷ "f (a, b < c)" gives FunctionCallExpr (bytes "f") (◌then◌ a (◌then◌ (two Less b c) no_exprs))
    ∷ "a div(b)" gives two Div a b
    ∷ []

bracketed-hold : (d : ℕ) → map (λ r. tree_of (suc (suc d)) (text_of r)) bracketed ≡ map expected bracketed
unfolding tree_of
bracketed-hold d = refl

too-deep : map (λ r. tree_of 1 (text_of r)) bracketed ≡ map (λ r. none) bracketed
unfolding tree_of
too-deep = refl

deeper : (tree_of 2 "((a))" ≡ none) × (tree_of 3 "((a))" ≡ some a) × (tree_of 2 "f(g(a))" ≡ none) × (tree_of 2 "f(g())" ≡ tree_of 3 "f(g())")
unfolding tree_of
deeper = (refl, refl, refl, refl)

-- texts without a derivation
abbrev refused : List String
refused =
    "a < b < c" ∷ "a == b != c" ∷ "a && b || c" ∷ "a || b && c" ∷ "a ==> b <== c" ∷ "a <== b ==> c" ∷ "" ∷ " " ∷ "a b" ∷ "a 5" ∷ "a divx" ∷ "a +"
    ∷ "* a" ∷ "!=a" ∷ "a !" ∷ "a <== > b" ∷ "a = b" ∷ "a & b" ∷ "a | b" ∷ "a : b" ∷ "a / b" ∷ "a ? b" ∷ "if" ∷ "val" ∷ "forall" ∷ "exists" ∷ "lift"
    ∷ "old" ∷ "old 5" ∷ "if()" ∷ "false()" ∷ ")" ∷ "a)" ∷ "a, b" ∷ "5()" ∷ "/* b" ∷ "a /* b" ∷ "a /*/" ∷ "a /* b */ /* c" ∷ "/*/**/ a" ∷ []

refused-hold : (d : ℕ) → map (λ s. tree_of (suc d) s) refused ≡ map (λ s. none) refused
unfolding tree_of
refused-hold d = refl

abbrev refused_deeper : List String
refused_deeper = "()" ∷ "(a" ∷ "f(" ∷ "f(a" ∷ "f(,a)" ∷ "f(a,)" ∷ "f(a b)" ∷ "old f(a)" ∷ "(a, b)" ∷ "a(b)(c)" ∷ []

refused_deeper-hold : (d : ℕ) → map (λ s. tree_of (suc (suc d)) s) refused_deeper ≡ map (λ s. none) refused_deeper
unfolding tree_of
refused_deeper-hold d = refl

-- longer signs stand before shorter ones, so the first that stands in a text is the longest
abbrev spelling_length : Spelling → ℕ
spelling_length (◌is◌ w t) = length (bytes w)

signs-sorted : map spelling_length signs ≡ 4 ∷ 3 ∷ 3 ∷ 2 ∷ 2 ∷ 2 ∷ 2 ∷ 2 ∷ 2 ∷ 1 ∷ 1 ∷ 1 ∷ 1 ∷ 1 ∷ 1 ∷ 1 ∷ 1 ∷ 1 ∷ []
signs-sorted = refl

-- the words
words-counted : (length excluded_words ≡ 8) × (length keywords ≡ 46)
words-counted = (refl, refl)

abbrev fitting : List Bool
fitting =
    fits_right Equiv (two Equiv a b) ∷ fits_right LogicalAnd (two LogicalAnd a b) ∷ fits_right LogicalOr (two LogicalOr a b) ∷ fits_right Plus (two Plus a b)
    ∷ fits_right Plus (two Minus a b) ∷ fits_right Times (two Times a b) ∷ fits_right Times (two Div a b) ∷ fits_right Times (two Mod a b)
    ∷ fits_right LogicalImp (two LogicalImp a b) ∷ fits_right Minus (two Minus a b) ∷ fits_right Minus (two Plus a b) ∷ fits_right Div (two Times a b)
    ∷ fits_right LogicalAnd (two LogicalOr a b) ∷ fits_right Plus (two Times a b) ∷ fits_right Times (two Plus a b) ∷ fits_right Plus a ∷ []

fitting-holds : fitting ≡ false ∷ false ∷ false ∷ false ∷ false ∷ false ∷ false ∷ false ∷ true ∷ true ∷ true ∷ true ∷ true ∷ true ∷ true ∷ true ∷ []
unfolding fits_right not_on_the_right is_none_of
fitting-holds = refl

faithful-names : map (λ s. is_faithful_name (bytes s)) ("a" ∷ "%a1" ∷ "divx" ∷ "" ∷ "1a" ∷ "a b" ∷ "div" ∷ "if" ∷ "requires" ∷ "invariant" ∷ [])
    ≡ true ∷ true ∷ true ∷ false ∷ false ∷ false ∷ false ∷ false ∷ false ∷ false ∷ []
unfolding is_faithful_name is_identifier one_of same_bytes identifier_length can_start_identifier_char identifier_char is_digit run
faithful-names = refl

-- P8's tree is faithful, P9's is not
p8-faithful : Faithful (two Minus a (two Minus b c))
unfolding is_faithful_name is_identifier one_of same_bytes identifier_length can_start_identifier_char identifier_char is_digit run
    fits_right not_on_the_right is_none_of
p8-faithful =
    Operators.binary refl (Operators.variable refl) (Operators.binary refl (Operators.variable refl) (Operators.variable refl) refl) refl

p9-not-faithful : Faithful (two Times a (two Div b c)) → ⊥
unfolding fits_right not_on_the_right is_none_of
p9-not-faithful (Operators.binary n x y h) = impossible (cc)
