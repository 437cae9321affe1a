-- The tokens of a text with each natural that exceeds the limit counted as illegal: what a reader with the limit is compared with.
use Rattle.std.specs.Prelude.{ℕ, suc, ◌≤◌, ◌<◌, length, ◌≡◌, refl, ◌↔◌, Bool, true, false, ◌&&◌, List, [], ◌∷◌, leb}
use Rattle.std.proofs.Common.{arith, sym, ap, subst}
use Rattle.std.proofs.Math.Option.{some}
use Rattle.lexing.specs.Answer.{pick}
use Rattle.lexing.specs.Tokens.{most_natural}
use Rattle.grammar.specs.Tokens.{Token, name, nat, mark, sign, illegal, cut}
use Rattle.grammar.specs.Grammar.{Tree, Whole, Derives}
use Rattle.grammar.specs.OperatorTrees.{small_naturals}
use Rattle.grammar.specs.Parser.{whole, parse_expr}
use Rattle.tree.specs.Clash.{impossible}
use Rattle.grammar.proofs.Laws.Exact.{turns-sound, turns-complete}
use Rattle.grammar.proofs.Laws.Cut.{cut-few}
use Rattle.grammar.proofs.Laws.Every.{all_legal, legal}

abbrev pub limited : List Token → List Token
limited [] = []
limited (name w ∷ ts) = name w ∷ limited ts
limited (nat n ∷ ts) = pick (leb n most_natural) (nat n) illegal ∷ limited ts
limited (mark k ∷ ts) = mark k ∷ limited ts
limited (sign g ∷ ts) = sign g ∷ limited ts
limited (illegal ∷ ts) = illegal ∷ limited ts

limited-small : (ts : List Token) → all_legal (limited ts) ≡ true → small_naturals ts ≡ true
unfolding small_naturals
limited-small [] e = refl
limited-small (name w ∷ ts) e = limited-small ts e
limited-small (nat n ∷ ts) e = by-limit (leb n most_natural) (limited-small ts) e
  where
    by-limit : (b : Bool) → (all_legal (limited ts) ≡ true → small_naturals ts ≡ true) → all_legal (pick b (nat n) illegal ∷ limited ts) ≡ true
        → (b && small_naturals ts) ≡ true
    by-limit true ih e = ih e
    by-limit false ih e = e
limited-small (mark k ∷ ts) e = limited-small ts e
limited-small (sign g ∷ ts) e = limited-small ts e
limited-small (illegal ∷ ts) e = impossible (cc)

limited-same : (ts : List Token) → small_naturals ts ≡ true → limited ts ≡ ts
unfolding small_naturals
limited-same [] e = refl
limited-same (name w ∷ ts) e = ap (λ l. name w ∷ l) (limited-same ts e)
limited-same (nat n ∷ ts) e = by-limit (leb n most_natural) (limited-same ts) e
  where
    by-limit : (b : Bool) → (small_naturals ts ≡ true → limited ts ≡ ts) → (b && small_naturals ts) ≡ true → pick b (nat n) illegal ∷ limited ts ≡ nat n ∷ ts
    by-limit true ih e = ap (λ l. nat n ∷ l) (ih e)
    by-limit false ih e = impossible (cc)
limited-same (mark k ∷ ts) e = ap (λ l. mark k ∷ l) (limited-same ts e)
limited-same (sign g ∷ ts) e = ap (λ l. sign g ∷ l) (limited-same ts e)
limited-same (illegal ∷ ts) e = ap (λ l. illegal ∷ l) (limited-same ts e)

-- exactly the derivations whose naturals keep the limit
pub limited-whole : (d : ℕ) (ts : List Token) (t : Tree) → Whole d (limited ts) t ↔ (Whole d ts t × (small_naturals ts ≡ true))
limited-whole d ts t = (
  λ x. let h : small_naturals ts ≡ true = limited-small ts (legal d (limited ts) t x) in (subst (λ l. Whole d l t) (limited-same ts h) x, h),
  λ r. subst (λ l. Whole d l t) (sym (limited-same ts r.1)) r.0,
)

limited-length : (ts : List Token) → length (limited ts) ≡ length ts
limited-length [] = refl
limited-length (name w ∷ ts) = ap suc (limited-length ts)
limited-length (nat n ∷ ts) = ap suc (limited-length ts)
limited-length (mark k ∷ ts) = ap suc (limited-length ts)
limited-length (sign g ∷ ts) = ap suc (limited-length ts)
limited-length (illegal ∷ ts) = ap suc (limited-length ts)

-- the parser on a text's limited tokens, with a turn for each byte and one more
pub parse-limited : (m d : ℕ) (text : List ℕ) (t : Tree) → length text < m
    → (whole (parse_expr m d (limited (cut text))) ≡ some t) ↔ (Derives d text t × (small_naturals (cut text) ≡ true))
parse-limited m d text t h =
    let few : length (limited (cut text)) ≤ m = omega (arith, limited-length (cut text), cut-few text) in (
      λ e. (limited-whole d (cut text) t).0 (turns-sound m d (limited (cut text)) e),
      λ r. turns-complete m d d (omega arith) (limited (cut text)) few t ((limited-whole d (cut text) t).1 r),
    )
