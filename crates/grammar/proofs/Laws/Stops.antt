-- Where an expression stops: no token follows that would continue it.
use Rattle.std.specs.Prelude.{ℕ, ◌≤◌, ◌<◌, ◌≡◌, refl, List, [], ◌∷◌}
use Rattle.std.proofs.Common.{ap, arith}
use Rattle.std.proofs.Math.Option.{Option, none, some}
use Rattle.grammar.specs.Tokens.{Token, name, nat, mark, sign, illegal, Mark, lparen, rparen, comma}
use Rattle.grammar.specs.Grammar.{Class, Class-discrete, product, sum, comparison, conjunction, disjunction, implication, explication}
use Rattle.grammar.specs.Grammar.{equivalence}
use Rattle.grammar.specs.Grammar.{Build, Row, row, role, binary}
use Rattle.grammar.specs.Parser.{Parsed, see, is_mark, in_class}
use Rattle.tree.specs.Clash.{impossible}

-- no token that `look` accepts stands at the start
abbrev pub Misses : {X : Type 0} → (Token → Option X) → List Token → Type 0
Misses look [] = Unit {0}
Misses look (o ∷ ts) = look o ≡ none

-- a test that misses stops
pub see-misses : {X B : Type 0} (look : Token → Option X) (ts : List Token) (stop : Parsed B) (go : X → List Token → Parsed B) → Misses look ts
    → see look ts stop go ≡ stop
unfolding see
see-misses look [] stop go h = refl
see-misses look (o ∷ ts) stop go h = rw h

-- a test that accepts no first token misses
pub misses : {X : Type 0} (look : Token → Option X) (ts : List Token) → ((o : Token) (us : List Token) (x : X) → ts ≡ o ∷ us → look o ≡ some x → ⊥) → Misses look ts
misses look [] f = tt
misses {X} look (o ∷ ts) f = by-look (look o) refl
  where
    by-look : (x : Option X) → look o ≡ x → x ≡ none
    by-look none e = refl
    by-look (some x) e = absurd (f o ts x refl e)

-- the classes in order, tightest first
abbrev pub rank : Class → ℕ
rank product = 1
rank sum = 2
rank comparison = 3
rank conjunction = 4
rank disjunction = 5
rank implication = 6
rank explication = 7
rank equivalence = 8

-- neither a call's bracket nor an operator of the first n classes stands at the start
pub record Stops (n : ℕ) (ts : List Token) : Type 0 where
  pub no_call : Misses (is_mark lparen) ts
  pub no_operator : (c : Class) → rank c ≤ n → Misses (in_class c) ts

-- what stops at a strength stops at each lower one
pub stops-fewer : {n n' : ℕ} {ts : List Token} → n ≤ n' → Stops n' ts → Stops n ts
stops-fewer h s = record { no_call = s.no_call; no_operator = λ c k. s.no_operator c (omega arith) }

-- the end stops every expression
pub stops_end : {n : ℕ} → Stops n []
stops_end = record { no_call = tt; no_operator = λ c k. tt }

-- a closing bracket stops every expression
pub stops-rparen : {n : ℕ} {ts : List Token} → Stops n (mark rparen ∷ ts)
unfolding is_mark in_class binary role
stops-rparen = record { no_call = refl; no_operator = λ c k. refl }

-- a comma stops every expression
pub stops-comma : {n : ℕ} {ts : List Token} → Stops n (mark comma ∷ ts)
unfolding is_mark in_class binary role
stops-comma = record { no_call = refl; no_operator = λ c k. refl }

-- an operator is no bracket
unmarked : (k : Mark) (o : Token) {r : Row} → binary o ≡ some r → is_mark k o ≡ none
unfolding is_mark binary role
unmarked k (name w) e = refl
unmarked k (nat n) e = refl
unmarked k (mark k') e = impossible (cc)
unmarked k (sign g) e = refl
unmarked k illegal e = refl

-- an operator of one class is none of another
pub other-class : (c : Class) (o : Token) {c' : Class} {b : Build} → binary o ≡ some (row c' b) → (c ≡ c' → ⊥) → in_class c o ≡ none
unfolding in_class
other-class c o {c'} {b} e n = rw e (by-class (Class-discrete c c'))
  where
    by-class : (d : Dec (c ≡ c')) → ◌≡◌ {A = Option Build} (elim d [ yes p ↦ some b | no n ↦ none ]) none
    by-class (yes p) = absurd (n p)
    by-class (no q) = refl

-- an operator stops the expressions that bind tighter
pub stops-operator : {n : ℕ} {c : Class} {b : Build} {ts : List Token} (o : Token) → binary o ≡ some (row c b) → n < rank c → Stops n (o ∷ ts)
stops-operator {c} o e h =
    record { no_call = unmarked lparen o e; no_operator = λ c' k. other-class c' o e (λ p. let q = ap rank p in omega arith) }
