-- The operator grammar (REFERENCE, "The operator grammar"): derivations as a relation between runs of tokens and trees, written without
-- the parser. A run is split wherever `++` stands, and every split counts. The rules stand tightest first, each over an arbitrary relation
-- for the next tighter one.
use Rattle.std.specs.Prelude.{ℕ, zero, suc, ◌≡◌, true, false, List, [], ◌∷◌, ◌++◌}
use Prim.Native.String.{String}
use Rattle.std.proofs.Math.Option.{Option, none, some}
use Rattle.lexing.specs.Answer.{pick}
use Rattle.lexing.specs.Bytes.{same_bytes, bytes}
use Rattle.tree.specs.Ast.{Expr, BLiteral, ILiteral, IdExpr, OperatorExpr, FunctionCallExpr, Exprs, no_exprs, ◌then◌}
use Rattle.tree.specs.Ast.{Operator, Equiv, LogicalImp, LogicalAnd, LogicalOr, Eq, Neq, Less, AtMost, Plus, Minus, Times, Div, Mod, LogicalNot}
use Rattle.tree.specs.Ast.{UnaryMinus}
use Rattle.grammar.specs.Words.{is_name}
use Rattle.grammar.specs.Tokens.{Token, name, nat, mark, sign, illegal, lparen, rparen, comma, cut}
use Rattle.grammar.specs.Tokens.{Sign, '!', '-', '*', '+', '==', '!=', '<', '<=', '>=', '>', '&&', '||', '==>', '<==', '<==>'}

-- trees with names as bytes
abbrev pub Tree : Type 0
Tree = Expr (List ℕ)

-- the binary operators by the rule that takes them
pub data Class : Type 0 where
  product sum comparison conjunction disjunction implication explication equivalence : Class
  deriving Discrete as Class-discrete

-- the tree of the operands before and after an operator: in text order, or swapped
pub data Build : Type 0 where
  straight swapped : Operator → Build

abbrev pub single : {N : Type 0} → Operator → Expr N → Expr N
single op t = OperatorExpr op (◌then◌ t no_exprs)

abbrev pub build : {N : Type 0} → Build → Expr N → Expr N → Expr N
build (straight op) t u = OperatorExpr op (◌then◌ t (◌then◌ u no_exprs))
build (swapped op) t u = OperatorExpr op (◌then◌ u (◌then◌ t no_exprs))

-- what a token is as an operator: before an operand, between two, both, or neither
pub data Role : Type 0 where
  before : Operator → Role
  between : Class → Build → Role
  both : Operator → Class → Build → Role
  neither : Role

-- the operator table
unfoldable pub sign_role : Sign → Role
sign_role '!' = before LogicalNot
sign_role '-' = both UnaryMinus sum (straight Minus)
sign_role '*' = between product (straight Times)
sign_role '+' = between sum (straight Plus)
sign_role '==' = between comparison (straight Eq)
sign_role '!=' = between comparison (straight Neq)
sign_role '<' = between comparison (straight Less)
sign_role '<=' = between comparison (straight AtMost)
sign_role '>=' = between comparison (swapped AtMost)
sign_role '>' = between comparison (swapped Less)
sign_role '&&' = between conjunction (straight LogicalAnd)
sign_role '||' = between disjunction (straight LogicalOr)
sign_role '==>' = between implication (straight LogicalImp)
sign_role '<==' = between explication (swapped LogicalImp)
sign_role '<==>' = between equivalence (straight Equiv)

-- of the identifiers, `div` and `mod` are operators
unfoldable pub word_role : List ℕ → Role
word_role w =
    pick (same_bytes w (bytes "div")) (between product (straight Div)) (pick (same_bytes w (bytes "mod")) (between product (straight Mod)) neither)

unfoldable pub role : Token → Role
role (name w) = word_role w
role (nat n) = neither
role (mark k) = neither
role (sign g) = sign_role g
role illegal = neither

-- a token between two operands: its class and its tree
pub data Row : Type 0 where
  row : Class → Build → Row

abbrev pub as_binary : Role → Option Row
as_binary (before op) = none
as_binary (between c b) = some (row c b)
as_binary (both op c b) = some (row c b)
as_binary neither = none

abbrev pub as_unary : Role → Option Operator
as_unary (before op) = some op
as_unary (between c b) = none
as_unary (both op c b) = some op
as_unary neither = none

unfoldable pub binary : Token → Option Row
binary o = as_binary (role o)

unfoldable pub unary : Token → Option Operator
unary o = as_unary (role o)

-- a relation between runs of tokens and trees
abbrev pub Rule : Type 1
Rule = List Token → Tree → Type 0

abbrev pub word : String → Token
word w = name (bytes w)

-- a comma list of at least one expression
pub data Series (E : Rule) : List Token → Exprs (List ℕ) → Type 0 where
  last : {ts : List Token} {t : Tree} → E ts t → Series E ts (◌then◌ t no_exprs)
  also : {ts us : List Token} {t : Tree} {es : Exprs (List ℕ)} → E ts t → Series E us es → Series E (ts ++ mark comma ∷ us) (◌then◌ t es)

-- a comma list
pub data Items (E : Rule) : List Token → Exprs (List ℕ) → Type 0 where
  empty : Items E [] no_exprs
  series : {ts : List Token} {es : Exprs (List ℕ)} → Series E ts es → Items E ts es

pub data Operand (E : Rule) : List Token → Tree → Type 0 where
  falsehood : Operand E (word "false" ∷ []) (BLiteral false)
  truth : Operand E (word "true" ∷ []) (BLiteral true)
  natural : {n : ℕ} → Operand E (nat n ∷ []) (ILiteral n)
  variable : {w : List ℕ} → is_name w ≡ true → Operand E (name w ∷ []) (IdExpr w false)
  old_variable : {w : List ℕ} → Operand E (word "old" ∷ name w ∷ []) (IdExpr w true)
  call : {w : List ℕ} {ts : List Token} {es : Exprs (List ℕ)} → is_name w ≡ true → Items E ts es
      → Operand E (name w ∷ mark lparen ∷ ts ++ mark rparen ∷ []) (FunctionCallExpr w es)
  bracketed : {ts : List Token} {t : Tree} → E ts t → Operand E (mark lparen ∷ ts ++ mark rparen ∷ []) t

-- any number of `!` and `-` before an operand
pub data Unary (S : Rule) : List Token → Tree → Type 0 where
  bare : {ts : List Token} {t : Tree} → S ts t → Unary S ts t
  prefixed : {ts : List Token} {t : Tree} {o : Token} {op : Operator} → unary o ≡ some op → Unary S ts t → Unary S (o ∷ ts) (single op t)

-- operators of a class, to the left
pub data Left (c : Class) (S : Rule) : List Token → Tree → Type 0 where
  one : {ts : List Token} {t : Tree} → S ts t → Left c S ts t
  more : {ts us : List Token} {t u : Tree} {b : Build} → Left c S ts t → (o : Token) → binary o ≡ some (row c b) → S us u
      → Left c S (ts ++ o ∷ us) (build b t u)

-- operators of a class, to the right
pub data Right (c : Class) (S : Rule) : List Token → Tree → Type 0 where
  one : {ts : List Token} {t : Tree} → S ts t → Right c S ts t
  more : {ts us : List Token} {t u : Tree} {b : Build} → S ts t → (o : Token) → binary o ≡ some (row c b) → Right c S us u
      → Right c S (ts ++ o ∷ us) (build b t u)

-- at most one operator of a class
pub data Once (c : Class) (S : Rule) : List Token → Tree → Type 0 where
  one : {ts : List Token} {t : Tree} → S ts t → Once c S ts t
  two : {ts us : List Token} {t u : Tree} {b : Build} → S ts t → (o : Token) → binary o ≡ some (row c b) → S us u
      → Once c S (ts ++ o ∷ us) (build b t u)

pub data Either (R R' : Rule) : List Token → Tree → Type 0 where
  first : {ts : List Token} {t : Tree} → R ts t → Either R R' ts t
  second : {ts : List Token} {t : Tree} → R' ts t → Either R R' ts t

-- the levels, by Parser.dfy's names, over the relation for bracketed expressions and arguments
abbrev pub UnaryExpr : Rule → Rule
UnaryExpr E = Unary (Operand E)

abbrev pub FactorExpr : Rule → Rule
FactorExpr E = Left product (UnaryExpr E)

abbrev pub TermExpr : Rule → Rule
TermExpr E = Left sum (FactorExpr E)

abbrev pub JuctExpr : Rule → Rule
JuctExpr E = Once comparison (TermExpr E)

abbrev pub LogicalExpr : Rule → Rule
LogicalExpr E = Either (Left conjunction (JuctExpr E)) (Left disjunction (JuctExpr E))

abbrev pub ImpExpExpr : Rule → Rule
ImpExpExpr E = Either (Right implication (LogicalExpr E)) (Left explication (LogicalExpr E))

abbrev pub EquivExpr : Rule → Rule
EquivExpr E = Left equivalence (ImpExpExpr E)

-- a whole of at most the depth d: the whole is at depth 1, each bracketed expression or argument one deeper
unfoldable pub Whole : ℕ → Rule
Whole zero ts t = ⊥
Whole (suc d) ts t = EquivExpr (Whole d) ts t

-- a text has a derivation of at most the depth d with the tree t
abbrev pub Derives : ℕ → List ℕ → Tree → Type 0
Derives d text t = Whole d (cut text) t
