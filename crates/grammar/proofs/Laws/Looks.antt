-- What the parser's tests say of the token that they accept, and when they accept it.
use Rattle.std.specs.Prelude.{ℕ, ◌≡◌, refl, List}
use Rattle.std.proofs.Math.Option.{Option, none, some}
use Rattle.grammar.specs.Tokens.{Token, name, nat, mark, sign, illegal, Mark, Mark-discrete}
use Rattle.grammar.specs.Grammar.{Class, Class-discrete, Build, Row, row, binary}
use Rattle.grammar.specs.Parser.{is_nat, is_word, is_mark, of_class, in_class}
use Rattle.tree.specs.Clash.{impossible}

-- a token that `is_nat` accepts
pub nat-inv : (o : Token) {n : ℕ} → is_nat o ≡ some n → o ≡ nat n
unfolding is_nat
nat-inv (name w) e = impossible (cc)
nat-inv (nat n) e = cc
nat-inv (mark k) e = impossible (cc)
nat-inv (sign g) e = impossible (cc)
nat-inv illegal e = impossible (cc)

-- a token that `is_word` accepts
pub word-inv : (o : Token) {w : List ℕ} → is_word o ≡ some w → o ≡ name w
unfolding is_word
word-inv (name w) e = cc
word-inv (nat n) e = impossible (cc)
word-inv (mark k) e = impossible (cc)
word-inv (sign g) e = impossible (cc)
word-inv illegal e = impossible (cc)

-- a token that `is_mark` accepts
pub mark-inv : (k : Mark) (o : Token) {x : Unit {0}} → is_mark k o ≡ some x → o ≡ mark k
unfolding is_mark
mark-inv k (name w) e = impossible (cc)
mark-inv k (nat n) e = impossible (cc)
mark-inv k (mark k') {x} e = same (Mark-discrete k k') e
  where
    same : (d : Dec (k ≡ k')) → (elim d as (λ z. Option (Unit {0})) [ yes p ↦ some tt | no n ↦ none ]) ≡ some x → mark k' ≡ mark k
    same (yes p) e = cc
    same (no n) e = impossible (cc)
mark-inv k (sign g) e = impossible (cc)
mark-inv k illegal e = impossible (cc)

-- a token that is an operator of the class
pub class-inv : (c : Class) (o : Token) {b : Build} → in_class c o ≡ some b → binary o ≡ some (row c b)
unfolding in_class
class-inv c o {b} e = at (binary o) refl e
  where
    same : (c' : Class) (b' : Build) (d : Dec (c ≡ c')) → binary o ≡ some (row c' b') → (elim d as (λ z. Option Build) [ yes p ↦ some b' | no n ↦ none ]) ≡ some b
        → binary o ≡ some (row c b)
    same c' b' (yes p) l e = cc
    same c' b' (no n) l e = impossible (cc)

    at : (r : Option Row) → binary o ≡ r → of_class c r ≡ some b → binary o ≡ some (row c b)
    at none l e = impossible (cc)
    at (some (row c' b')) l e = same c' b' (Class-discrete c c') l e

-- an operator is one of its class
pub class-sees : (c : Class) (o : Token) {b : Build} → binary o ≡ some (row c b) → in_class c o ≡ some b
unfolding in_class
class-sees c o {b} e = rw e (same (Class-discrete c c))
  where
    same : (d : Dec (c ≡ c)) → (elim d as (λ z. Option Build) [ yes p ↦ some b | no n ↦ none ]) ≡ some b
    same (yes p) = refl
    same (no n) = absurd (n refl)
