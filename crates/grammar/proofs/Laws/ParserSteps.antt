-- The two ways in which a step of the parser goes on: `after` another parser, and where it may `see` a token.
use Rattle.tree.specs.Clash.{impossible}
use Rattle.std.specs.Prelude.{◌≡◌, refl, List, [], ◌∷◌}
use Rattle.std.proofs.Math.Option.{Option, none, some}
use Rattle.grammar.specs.Tokens.{Token}
use Rattle.grammar.specs.Parser.{Parsed, parsed, failed, after, looked, see}

-- what a success `after` another parser comes from
pub record After {A B : Type 0} (r : Parsed A) (go : A → List Token → Parsed B) (b : B) (rest : List Token) : Type 0 where
  pub value : A
  pub left : List Token
  pub first : r ≡ parsed value left
  pub next : go value left ≡ parsed b rest

-- a success comes from a success of both
pub after-inv : {A B : Type 0} (r : Parsed A) {go : A → List Token → Parsed B} {b : B} {rest : List Token} → after r go ≡ parsed b rest
    → After r go b rest
unfolding after
after-inv (parsed a us) e = record { value = a; left = us; first = refl; next = e }
after-inv failed e = impossible (cc)

-- what `see` gives, by whether it saw the token
pub see-cases : {X B : Type 0} {look : Token → Option X} {stop : Parsed B} {go : X → List Token → Parsed B} {r : Parsed B} (Q : List Token → Type 0) (ts : List Token)
    → see look ts stop go ≡ r → (stop ≡ r → Q ts) → ((o : Token) (us : List Token) (x : X) → look o ≡ some x → go x us ≡ r → Q (o ∷ us)) → Q ts
unfolding see
see-cases Q [] e f g = f e
see-cases {X} {look} {stop} {go} {r} Q (o ∷ us) e f g = at (look o) refl e
  where
    at : (x : Option X) → look o ≡ x → looked x us stop go ≡ r → Q (o ∷ us)
    at none l e = f e
    at (some x) l e = g o us x l e
