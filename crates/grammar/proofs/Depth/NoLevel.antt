-- Where no level is left, each rule of a gallery (Statements.antt) keeps nothing or is refused by 3 where it stands. The blanks after a statement's first
-- name stand before its mark, and may be refused.
use Rattle.std.specs.Prelude.{◌≡◌, refl, ℕ, zero, Bool, true, false, List, drop}
use Rattle.lexing.specs.Answer.{Answer, ok, refused, moved, unclosed_comment, pick}
use Rattle.lexing.specs.Tokens.{parse_id}
use Rattle.lexing.proofs.Claims.{names-refused}
use Rattle.std.proofs.Common.{sym, ◌∙◌}
use Rattle.tree.specs.Ast.{Span}
use Rattle.grammar.specs.Steps.{after, ◌or◌, spanned, parse_name}
use Rattle.grammar.specs.Rules.{opens_expr, parse_expr}
use Rattle.grammar.specs.Statements as rules
use Rattle.grammar.specs.ClaimTerms.{Unopened, nothing, too-deep, UnopenedStmt, unopened, open-comment, GalleryUnopened}

-- refusal 3 where a token stands
deep : {A B : Type 0} (at : ℕ) (r : Answer A) → Unopened at (rules.too_deep {B = B} at r)
unfolding rules.too_deep
deep at (ok a next) = too-deep
deep at Answer.none = nothing
deep at (refused number place) = too-deep

-- and where a test is true
opens : {A : Type 0} (at : ℕ) (b : Bool) → Unopened {A = A} at (pick b (refused 3 at) Answer.none)
opens at true = too-deep
opens at false = nothing

-- one of two branches
either : {A : Type 0} {text : List ℕ} {at : ℕ} {r q : Answer A} → Unopened at r → UnopenedStmt text at q → UnopenedStmt text at (r or q)
unfolding after
either nothing h = h
either too-deep h = unopened too-deep

module _ (text : List ℕ) where
  -- a name is refused only by the blanks after it
  named : (at : ℕ) {number place : ℕ} → parse_name text at ≡ refused number place → number ≡ unclosed_comment
  unfolding after
  named at {number} {place} e = by_answer (parse_id (drop at text)) refl e
    where
      by_answer : (r : Answer ℕ) → parse_id (drop at text) ≡ r → spanned text at (moved at r) ≡ refused number place → number ≡ unclosed_comment
      by_answer (ok v n) p e = cc
      by_answer Answer.none p e = cc
      by_answer (refused m k) p e = let h : m ≡ number = cc in let (filled, blanks) = (names-refused m k (drop at text)).0 p in sym h ∙ blanks.1

  -- a name and its mark
  deep_name : {B : Type 0} (at : ℕ) → UnopenedStmt text at (after (parse_name text at) Answer.none (λ _ at₁. rules.too_deep {B = B} at (rules.mark text at₁)))
  unfolding after
  deep_name {B} at = by_name (parse_name text at) refl
    where
      by_name : (r : Answer Span) → parse_name text at ≡ r → UnopenedStmt text at (after r Answer.none (λ _ at₁. rules.too_deep {B = B} at (rules.mark text at₁)))
      by_name (ok n next) e = unopened (deep at (rules.mark text next))
      by_name Answer.none e = unopened nothing
      by_name (refused number place) e = let n : number ≡ unclosed_comment = named at e in rw n (open-comment (rw n at e))

  -- No rule is opened where no level is left.
  pub none_left : (m : ℕ) → GalleryUnopened text (rules.gallery text m zero)
  unfolding rules.gallery parse_expr
  none_left m =
      record {
        expr = λ at. opens at (opens_expr (drop at text));
        block = λ at. deep at _;
        stmt = λ at. either (deep at _) (either (deep at (rules.word_of text rules.statement_words at)) (deep_name at));
        if_cont = λ at. opens at (opens_expr (drop at text));
        loop = λ at. deep at _;
      }
