-- The rules of declarations step by step, as their methods read them.
use Rattle.std.proofs.Common.{ℕ, ◌≡◌, ◌∙◌, refl, sym, ap, List, length, drop, true}
use Rattle.std.proofs.Math.Option.{none, some}
use Rattle.lexing.specs.Answer.{Answer, ok, refused, moved, unusable_token}
use Rattle.lexing.specs.Blanks.{Blanks, passed, unclosed, W}
use Rattle.lexing.specs.Tokens.{keyword, closed, lexeme, identifier_length}
use Rattle.tree.specs.Ast.{Span, Expr, Exprs, no_exprs, ◌then◌}
use Rattle.tree.specs.Clash.{impossible}
use Rattle.grammar.specs.Steps.{Reader, after, need, must, mapped, T, Sym}
use Rattle.grammar.specs.Rules.{exprs}
use Rattle.grammar.specs.Statements.{rep}
use Rattle.grammar.specs.Declarations.{undefined, parse_when_clause, parse_function_definition}
use Rattle.parsing.specs.Contract.{word_here, word}
use Rattle.parsing.specs.Code.{turns, inner, opened, opening}
use Rattle.parsing.specs.declared.parser.Parser.{Parser}
use Rattle.parsing.proofs.Laws.{after-none}
use Rattle.parsing.proofs.StatementEquations.{opened-expr, expr-needed}

-- an expression where a declaration has one
pub ruleset having_expr = (opened-expr, expr-needed)

-- a word that stands is read as its keyword, or is refused
pub keyword-stands : (p : Parser) (w : List ℕ) → word_here p w ≡ true → word w p.text.now p.at ≡ Answer.none → ⊥
unfolding keyword lexeme
keyword-stands p w h e = by-blanks (W (drop (identifier_length (drop p.at p.text.now)) (drop p.at p.text.now))) (rw h at e)
  where
    by-blanks : (b : Blanks) → moved p.at (closed 0 (identifier_length (drop p.at p.text.now)) b) ≡ Answer.none → ⊥
    by-blanks (passed k) e = impossible cc
    by-blanks (unclosed k) e = impossible cc

module _ (text : List ℕ) (depth : ℕ) where
  -- the clauses of a function
  abbrev pub whens : Reader (Exprs Span)
  whens at = rep exprs (turns text) (parse_when_clause text (turns text) (opened depth text)) at

  pub definition-is : (at : ℕ)
      → opening parse_function_definition depth text at
      ≡ need at (whens at)
      (λ when at₁. after (Sym text "{" at₁) (undefined when at₁)
      (λ _ at₂. need at₂ (inner depth text at₂) (λ e at₃. need at₃ (Sym text "}" at₃) (λ _ at₄. ok (some (record { when = when; body = e })) at₄))))
  unfolding parse_function_definition
  definition-is at = rw (opened-expr text depth) refl

  -- the clauses that were read
  abbrev clauses : Answer (Exprs Span) → Exprs Span
  clauses (ok l next) = l
  clauses Answer.none = no_exprs
  clauses (refused number place) = no_exprs

  module _ (at : ℕ) {l : Exprs Span} {next : ℕ} (h : whens at ≡ ok l next) where
    -- where `when` does not stand there are none
    pub no-clauses : T text "when" at ≡ Answer.none → undefined l next ≡ ok none next
    unfolding rep parse_when_clause
    no-clauses e =
        let q : whens at ≡ ok no_exprs at = after-none _ _ _ (after-none _ _ _ e) in
        sym (ap (λ r. undefined (clauses r) next) (sym q ∙ h))

    -- where it does there is one at least
    pub some-clauses : (T text "when" at ≡ Answer.none → ⊥) → undefined l next ≡ refused unusable_token next
    unfolding rep parse_when_clause after
    some-clauses s = by-word (T text "when" at) refl h
      where
        more : Expr Span → ℕ → Answer (Exprs Span)
        more a at₁ = rep exprs (length text) (parse_when_clause text (turns text) (opened depth text)) at₁

        by-rest : (e : Expr Span) (r : Answer (Exprs Span)) → mapped (◌then◌ e) r ≡ ok l next → undefined l next ≡ refused unusable_token next
        by-rest e (ok es n) h = sym (ap (λ r. undefined (clauses r) next) h)
        by-rest e Answer.none h = impossible cc
        by-rest e (refused number place) h = impossible cc

        by-expr : (n : ℕ) (x : Answer (Expr Span)) → after (must n x) (ok no_exprs at) (λ a at₁. mapped (◌then◌ a) (more a at₁)) ≡ ok l next
            → undefined l next ≡ refused unusable_token next
        by-expr n (ok e n₁) h = by-rest e (more e n₁) h
        by-expr n Answer.none h = impossible cc
        by-expr n (refused number place) h = impossible cc

        by-word : (r : Answer ℕ) → T text "when" at ≡ r
            → after (after r Answer.none (λ _ at₁. must at₁ (mapped (λ e. e) ((opened depth text).expr at₁)))) (ok no_exprs at) (λ a at₁. mapped (◌then◌ a) (more a at₁)) ≡ ok l next
            → undefined l next ≡ refused unusable_token next
        by-word (ok v n) e h = by-expr n (mapped (λ e. e) ((opened depth text).expr n)) h
        by-word Answer.none e h = absurd (s e)
        by-word (refused number place) e h = impossible cc
