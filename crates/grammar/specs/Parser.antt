-- A parser on tokens, with one combinator for each pattern of the grammar. Laws/Sound.antt and Laws/Complete.antt say that it gives a tree
-- exactly when there is a derivation within the depth. The number m bounds the turns of each repetition: any m of at least the number of
-- tokens gives the same.
use Rattle.std.specs.Prelude.{ℕ, zero, suc, true, false, List, [], ◌∷◌, length}
use Rattle.std.proofs.Math.Option.{Option, none, some}
use Rattle.lexing.specs.Answer.{pick}
use Rattle.lexing.specs.Bytes.{same_bytes, bytes}
use Rattle.tree.specs.Ast.{BLiteral, ILiteral, IdExpr, FunctionCallExpr, Exprs, no_exprs, ◌then◌}
use Rattle.grammar.specs.Words.{is_name}
use Rattle.grammar.specs.Tokens.{Token, name, nat, mark, sign, illegal, Mark, Mark-discrete, lparen, rparen, comma}
use Rattle.grammar.specs.Grammar.{Tree, Class, Class-discrete, product, sum, comparison, conjunction, disjunction, implication}
use Rattle.grammar.specs.Grammar.{explication, equivalence}
use Rattle.grammar.specs.Grammar.{Build, single, build, Row, row, binary, unary}

-- a value and the tokens after it, or nothing
pub data Parsed (A : Type 0) : Type 0 where
  parsed : A → List Token → Parsed A
  failed : Parsed A

abbrev pub Parser : Type 0
Parser = List Token → Parsed Tree

unfoldable pub after : {A B : Type 0} → Parsed A → (A → List Token → Parsed B) → Parsed B
after (parsed a ts) go = go a ts
after failed go = failed

abbrev pub looked : {X B : Type 0} → Option X → List Token → Parsed B → (X → List Token → Parsed B) → Parsed B
looked none ts stop go = stop
looked (some x) ts stop go = go x ts

-- where `look` accepts the next token: `go` with what it gives and the tokens after it; else `stop`
unfoldable pub see : {X B : Type 0} → (Token → Option X) → List Token → Parsed B → (X → List Token → Parsed B) → Parsed B
see look [] stop go = stop
see look (o ∷ ts) stop go = looked (look o) ts stop go

unfoldable pub is_nat : Token → Option ℕ
is_nat (name w) = none
is_nat (nat n) = some n
is_nat (mark k) = none
is_nat (sign g) = none
is_nat illegal = none

unfoldable pub is_word : Token → Option (List ℕ)
is_word (name w) = some w
is_word (nat n) = none
is_word (mark k) = none
is_word (sign g) = none
is_word illegal = none

unfoldable pub is_mark : Mark → Token → Option (Unit {0})
is_mark k (name w) = none
is_mark k (nat n) = none
is_mark k (mark k') = elim (Mark-discrete k k') [ yes e ↦ some tt | no n ↦ none ]
is_mark k (sign g) = none
is_mark k illegal = none

abbrev pub of_class : Class → Option Row → Option Build
of_class c none = none
of_class c (some (row c' b)) = elim (Class-discrete c c') [ yes e ↦ some b | no n ↦ none ]

unfoldable pub in_class : Class → Token → Option Build
in_class c o = of_class c (binary o)

-- `Series` and the closing bracket
unfoldable pub parse_series : ℕ → Parser → List Token → Parsed (Exprs (List ℕ))
parse_series zero e ts = failed
parse_series (suc m) e ts =
    after (e ts)
    (λ t us.
    see (is_mark comma) us (see (is_mark rparen) us failed (λ x vs. parsed (◌then◌ t no_exprs) vs))
    (λ x vs. after (parse_series m e vs) (λ es ws. parsed (◌then◌ t es) ws)))

-- `Items` and the closing bracket
unfoldable pub parse_items : ℕ → Parser → List Token → Parsed (Exprs (List ℕ))
parse_items m e ts = see (is_mark rparen) ts (parse_series (suc m) e ts) (λ x us. parsed no_exprs us)

-- after a name: a call's arguments, or nothing
unfoldable pub parse_named : ℕ → Parser → List ℕ → List Token → Parsed Tree
parse_named m e w ts =
    see (is_mark lparen) ts (parsed (IdExpr w false) ts) (λ x us. after (parse_items m e us) (λ es vs. parsed (FunctionCallExpr w es) vs))

-- after a word that is no name
unfoldable pub parse_excluded : List ℕ → List Token → Parsed Tree
parse_excluded w ts =
    pick (same_bytes w (bytes "false")) (parsed (BLiteral false) ts)
    (pick (same_bytes w (bytes "true")) (parsed (BLiteral true) ts)
    (pick (same_bytes w (bytes "old")) (see is_word ts failed (λ v us. parsed (IdExpr v true) us)) failed))

-- after an opening bracket
unfoldable pub parse_bracketed : Parser → Parser
parse_bracketed e ts = after (e ts) (λ t us. see (is_mark rparen) us failed (λ x vs. parsed t vs))

unfoldable pub parse_operand : ℕ → Parser → Parser
parse_operand m e ts =
    see is_nat ts
    (see is_word ts (see (is_mark lparen) ts failed (λ x us. parse_bracketed e us))
    (λ w us. pick (is_name w) (parse_named m e w us) (parse_excluded w us)))
    (λ n us. parsed (ILiteral n) us)

unfoldable pub parse_unary : ℕ → Parser → Parser
parse_unary zero p ts = p ts
parse_unary (suc m) p ts = see unary ts (p ts) (λ op us. after (parse_unary m p us) (λ t vs. parsed (single op t) vs))

-- after an operand t: the rest of a `Left`, a `Right`, a `Once`, an `Either`
abbrev pub Tail : Type 0
Tail = Tree → List Token → Parsed Tree

unfoldable pub left_tail : ℕ → Class → Parser → Tail
left_tail zero c p t ts = parsed t ts
left_tail (suc m) c p t ts = see (in_class c) ts (parsed t ts) (λ b us. after (p us) (λ u vs. left_tail m c p (build b t u) vs))

unfoldable pub right_tail : ℕ → Class → Parser → Tail
right_tail zero c p t ts = parsed t ts
right_tail (suc m) c p t ts =
    see (in_class c) ts (parsed t ts) (λ b us. after (p us) (λ u vs. after (right_tail m c p u vs) (λ w ws. parsed (build b t w) ws)))

unfoldable pub once_tail : Class → Parser → Tail
once_tail c p t ts = see (in_class c) ts (parsed t ts) (λ b us. after (p us) (λ u vs. parsed (build b t u) vs))

-- the tail q where an operator of the class c follows, else the tail q'
unfoldable pub either_tail : Class → Tail → Tail → Tail
either_tail c q q' t ts = see (in_class c) ts (q' t ts) (λ b us. q t ts)

unfoldable pub continued : Parser → Tail → Parser
continued p q ts = after (p ts) q

abbrev pub parse_unary_expr : ℕ → Parser → Parser
parse_unary_expr m e = parse_unary m (parse_operand m e)

abbrev pub parse_factor_expr : ℕ → Parser → Parser
parse_factor_expr m e = continued (parse_unary_expr m e) (left_tail m product (parse_unary_expr m e))

abbrev pub parse_term_expr : ℕ → Parser → Parser
parse_term_expr m e = continued (parse_factor_expr m e) (left_tail m sum (parse_factor_expr m e))

abbrev pub parse_juct_expr : ℕ → Parser → Parser
parse_juct_expr m e = continued (parse_term_expr m e) (once_tail comparison (parse_term_expr m e))

abbrev pub parse_logical_expr : ℕ → Parser → Parser
parse_logical_expr m e =
    continued (parse_juct_expr m e)
    (either_tail conjunction (left_tail m conjunction (parse_juct_expr m e)) (left_tail m disjunction (parse_juct_expr m e)))

abbrev pub parse_imp_exp_expr : ℕ → Parser → Parser
parse_imp_exp_expr m e =
    continued (parse_logical_expr m e)
    (either_tail implication (right_tail m implication (parse_logical_expr m e)) (left_tail m explication (parse_logical_expr m e)))

abbrev pub parse_equiv_expr : ℕ → Parser → Parser
parse_equiv_expr m e = continued (parse_imp_exp_expr m e) (left_tail m equivalence (parse_imp_exp_expr m e))

-- an expression of at most the depth d, at the start of the tokens
unfoldable pub parse_expr : ℕ → ℕ → Parser
parse_expr m zero ts = failed
parse_expr m (suc d) ts = parse_equiv_expr m (parse_expr m d) ts

abbrev pub whole : Parsed Tree → Option Tree
whole (parsed t []) = some t
whole (parsed t (o ∷ ts)) = none
whole failed = none

-- the tree of all the tokens
unfoldable pub parse : ℕ → List Token → Option Tree
parse d ts = whole (parse_expr (length ts) d ts)
