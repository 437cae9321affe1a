-- The parser gives a tree exactly when there is a derivation within the depth, and derivations are unambiguous.
use Rattle.std.specs.Prelude.{ℕ, ◌≤◌, ◌+◌, ◌≡◌, refl, ◌↔◌, List, [], ◌∷◌, ◌++◌, length}
use Rattle.std.proofs.Common.{sym, ◌∙◌, subst, append-nil, arith}
use Rattle.std.proofs.Math.Option.{Option, none, some}
use Rattle.grammar.specs.Tokens.{Token}
use Rattle.grammar.specs.Grammar.{Tree, Whole}
use Rattle.grammar.specs.Parser.{Parsed, parsed, failed, parse_expr, whole, parse}
use Rattle.tree.specs.Clash.{impossible}
use Rattle.grammar.proofs.Laws.Stops.{stops_end}
use Rattle.grammar.proofs.Laws.SoundWhole.{whole-sound}
use Rattle.grammar.proofs.Laws.CompleteWhole.{whole-complete}

whole-inv : (r : Parsed Tree) {t : Tree} → whole r ≡ some t → r ≡ parsed t []
whole-inv (parsed t []) e = cc
whole-inv (parsed t (o ∷ ts)) e = impossible (cc)
whole-inv failed e = impossible (cc)

-- with any number of turns
pub turns-sound : (m d : ℕ) (ts : List Token) {t : Tree} → whole (parse_expr m d ts) ≡ some t → Whole d ts t
turns-sound m d ts {t} e =
    let r = (whole-sound m d).reads (whole-inv (parse_expr m d ts) e) in
    subst (λ us. Whole d us t) (sym (r.split ∙ append-nil r.run)) r.derived

-- with turns for all the tokens, at any depth of at least the derivation's
pub turns-complete : (m d d' : ℕ) → d ≤ d' → (ts : List Token) → length ts ≤ m → (t : Tree) → Whole d ts t → whole (parse_expr m d' ts) ≡ some t
turns-complete m d d' k ts h t x =
    let e : parse_expr m d' (ts ++ []) ≡ parsed t [] = (whole-complete m d d' k).parses x h [] stops_end in
    rw (rw (append-nil ts) at e) refl

-- the parser's tree has a derivation
pub parse-sound : (d : ℕ) (ts : List Token) {t : Tree} → parse d ts ≡ some t → Whole d ts t
unfolding parse
parse-sound d ts e = turns-sound (length ts) d ts e

parse-deeper : (d d' : ℕ) → d ≤ d' → (ts : List Token) {t : Tree} → Whole d ts t → parse d' ts ≡ some t
unfolding parse
parse-deeper d d' k ts {t} x = turns-complete (length ts) d d' k ts (omega arith) t x

-- a derivation's tree is the parser's
pub parse-complete : (d : ℕ) (ts : List Token) {t : Tree} → Whole d ts t → parse d ts ≡ some t
parse-complete d = parse-deeper d d (omega arith)

-- the parser gives none exactly where there is no derivation
pub no-parse : (d : ℕ) (ts : List Token) → (parse d ts ≡ none) ↔ ((t : Tree) → Whole d ts t → ⊥)
no-parse d ts = (λ e t x. let e' = parse-complete d ts x in impossible (cc), λ f. by-parse f (parse d ts) refl)
  where
    by-parse : ((t : Tree) → Whole d ts t → ⊥) → (r : Option Tree) → parse d ts ≡ r → r ≡ none
    by-parse f none e = refl
    by-parse f (some t) e = absurd (f t (parse-sound d ts e))

-- a derivation is one of any greater depth
pub deeper : (d d' : ℕ) → d ≤ d' → (ts : List Token) (t : Tree) → Whole d ts t → Whole d' ts t
deeper d d' k ts t x = parse-sound d' ts (parse-deeper d d' k ts x)

-- two derivations of the same tokens have the same tree
pub unambiguous : (ts : List Token) (d d' : ℕ) {t t' : Tree} → Whole d ts t → Whole d' ts t' → t ≡ t'
unambiguous ts d d' x x' = let e = parse-deeper d (d + d') (omega arith) ts x in let e' = parse-deeper d' (d + d') (omega arith) ts x' in cc
