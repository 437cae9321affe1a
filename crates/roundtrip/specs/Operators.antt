-- Each operator's token, the level at which its expression is derived, and the levels at which its operands are. A conditional is no operator
-- of the grammar, and a unary operator has no operand on its left: those entries are never used.
use Rattle.std.specs.Prelude.{◌≡◌, List, ◌∷◌, ◌++◌}
use Rattle.std.proofs.Math.Path.{refl}
use Rattle.lexing.specs.Bytes.{same_bytes}
use Rattle.tree.specs.Ast.{Operator, IfThenElse, Equiv, LogicalImp, LogicalAnd, LogicalOr, Eq, Neq, Less, AtMost, Plus, Minus, Times, Div, Mod, ArgumentCount}
use Rattle.tree.specs.Ast.{LogicalNot, UnaryMinus, OperatorExpr, no_exprs, ◌then◌}
use Rattle.grammar.specs.Tokens.{Token, sign, illegal, '!', '-', '*', '+', '==', '!=', '<', '<=', '&&', '||', '==>', '<==>'}
use Rattle.grammar.specs.Grammar.{Tree, Rule, single, word, sign_role, word_role, role, unary, binary, Left, Right, Once, prefixed}
use Rattle.tree.specs.Clash.{impossible}
use Rattle.layout.specs.declared.power.Side.{Side}
use Rattle.layout.specs.declared.power.Side.TheVariants.{Left as on_left, Right as on_right}
use Rattle.roundtrip.specs.Levels.{Level, operand, prefixes, factor, term, juct, conjuncts, disjuncts, logical, implications, imp_exp, equiv, At}

-- an operator's token
abbrev pub token_of : Operator → Token
token_of IfThenElse = illegal
token_of Equiv = sign '<==>'
token_of LogicalImp = sign '==>'
token_of LogicalAnd = sign '&&'
token_of LogicalOr = sign '||'
token_of Eq = sign '=='
token_of Neq = sign '!='
token_of Less = sign '<'
token_of AtMost = sign '<='
token_of Plus = sign '+'
token_of Minus = sign '-'
token_of Times = sign '*'
token_of Div = word "div"
token_of Mod = word "mod"
token_of LogicalNot = sign '!'
token_of UnaryMinus = sign '-'

-- the level of an operator's expression without brackets round it
abbrev pub level_of : Operator → Level
level_of IfThenElse = operand
level_of Equiv = equiv
level_of LogicalImp = implications
level_of LogicalAnd = conjuncts
level_of LogicalOr = disjuncts
level_of Eq = juct
level_of Neq = juct
level_of Less = juct
level_of AtMost = juct
level_of Plus = term
level_of Minus = term
level_of Times = factor
level_of Div = factor
level_of Mod = factor
level_of LogicalNot = prefixes
level_of UnaryMinus = prefixes

-- the level that the operand at a side has to fit in
abbrev pub place : Operator → Side → Level
place IfThenElse side = equiv
place Equiv on_left = equiv
place Equiv on_right = imp_exp
place LogicalImp on_left = logical
place LogicalImp on_right = implications
place LogicalAnd on_left = conjuncts
place LogicalAnd on_right = juct
place LogicalOr on_left = disjuncts
place LogicalOr on_right = juct
place Eq side = term
place Neq side = term
place Less side = term
place AtMost side = term
place Plus on_left = term
place Plus on_right = factor
place Minus on_left = term
place Minus on_right = factor
place Times on_left = factor
place Times on_right = prefixes
place Div on_left = factor
place Div on_right = prefixes
place Mod on_left = factor
place Mod on_right = prefixes
place LogicalNot side = prefixes
place UnaryMinus side = prefixes

module _ {E : Rule} where
  -- an operator between operands that fit
  pub join : (op : Operator) → ArgumentCount op ≡ 2 → {ts us : List Token} {t u : Tree}
      → At (place op on_left) E ts t → At (place op on_right) E us u
      → At (level_of op) E (ts ++ token_of op ∷ us) (OperatorExpr op (◌then◌ t (◌then◌ u no_exprs)))
  unfolding binary role sign_role word_role same_bytes
  join IfThenElse n x y = impossible (cc)
  join Equiv n x y = record { derived = Left.more x.derived (sign '<==>') refl y.derived }
  join LogicalImp n x y = record { derived = Right.more x.derived (sign '==>') refl y.derived }
  join LogicalAnd n x y = record { derived = Left.more x.derived (sign '&&') refl y.derived }
  join LogicalOr n x y = record { derived = Left.more x.derived (sign '||') refl y.derived }
  join Eq n x y = record { derived = Once.two x.derived (sign '==') refl y.derived }
  join Neq n x y = record { derived = Once.two x.derived (sign '!=') refl y.derived }
  join Less n x y = record { derived = Once.two x.derived (sign '<') refl y.derived }
  join AtMost n x y = record { derived = Once.two x.derived (sign '<=') refl y.derived }
  join Plus n x y = record { derived = Left.more x.derived (sign '+') refl y.derived }
  join Minus n x y = record { derived = Left.more x.derived (sign '-') refl y.derived }
  join Times n x y = record { derived = Left.more x.derived (sign '*') refl y.derived }
  join Div n x y = record { derived = Left.more x.derived (word "div") refl y.derived }
  join Mod n x y = record { derived = Left.more x.derived (word "mod") refl y.derived }
  join LogicalNot n x y = impossible (cc)
  join UnaryMinus n x y = impossible (cc)

-- what holds of both unary operators holds of each operator that takes one operand
pub unary-operators : (P : Operator → Type 0) → P LogicalNot → P UnaryMinus → (op : Operator) → ArgumentCount op ≡ 1 → P op
unary-operators P p q IfThenElse n = impossible (cc)
unary-operators P p q Equiv n = impossible (cc)
unary-operators P p q LogicalImp n = impossible (cc)
unary-operators P p q LogicalAnd n = impossible (cc)
unary-operators P p q LogicalOr n = impossible (cc)
unary-operators P p q Eq n = impossible (cc)
unary-operators P p q Neq n = impossible (cc)
unary-operators P p q Less n = impossible (cc)
unary-operators P p q AtMost n = impossible (cc)
unary-operators P p q Plus n = impossible (cc)
unary-operators P p q Minus n = impossible (cc)
unary-operators P p q Times n = impossible (cc)
unary-operators P p q Div n = impossible (cc)
unary-operators P p q Mod n = impossible (cc)
unary-operators P p q LogicalNot n = p
unary-operators P p q UnaryMinus n = q

-- an operator before an operand that fits
pub prefix : {E : Rule} (op : Operator) → ArgumentCount op ≡ 1 → {ts : List Token} {t : Tree} → At (place op on_right) E ts t
    → At (level_of op) E (token_of op ∷ ts) (single op t)
unfolding unary role sign_role
prefix {E} op n {ts} {t} =
    unary-operators (λ op. At (place op on_right) E ts t → At (level_of op) E (token_of op ∷ ts) (single op t))
    (λ x. record { derived = prefixed refl x.derived })
    (λ x. record { derived = prefixed refl x.derived })
    op n
