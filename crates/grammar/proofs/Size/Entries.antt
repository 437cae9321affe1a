-- The words of the tree that a text holds are few, so a table of five words and five for each byte of the text is long enough.
use Rattle.std.specs.Prelude.{ℕ, suc, ◌+◌, ◌*◌, ◌≤◌, ◌<◌, ◌≡◌, false, List, [], leb, eqb}
use native.Mathlib.Omega.{arith}
use Rattle.std.proofs.Math.Path.{refl, subst}
use Rattle.std.proofs.Common.{◌∙◌, ap}
use Rattle.std.proofs.Math.ListN.{length}
use borrow.Author.Tests.{eqb-true, ne_eqb}
use Rattle.lexing.specs.RunLaws.{pick-cases}
use Rattle.lexing.specs.Answer.{Answer, ok, refused}
use Rattle.lexing.specs.Blanks.{Blanks, passed, unclosed, W}
use Rattle.tree.specs.Ast.{Span, Expr, Program}
use Rattle.tree.specs.Clash.{impossible}
use Rattle.tree.specs.Limits.{most_text, most_words}
use Rattle.tree.specs.Words.{expr_words, program_words}
use Rattle.grammar.specs.OperatorTrees.{most_depth}
use Rattle.grammar.specs.Steps.{Reader, after, need}
use Rattle.grammar.specs.Reading.{leading, to_end, whole_text, outcome_by, parse_text, parse_program, read_tree_of_program, program_outcome, read_program}
use Rattle.grammar.proofs.Tables.{short, told-short}
use Rattle.grammar.proofs.Bridge.Limits.{stored-fits}
use Rattle.grammar.proofs.Refusals.Entries.{program-rules-refused}
use Rattle.grammar.proofs.Size.Sizes.{expr-sized, program-sized}
use Rattle.grammar.proofs.Size.Answers.{FewAt, few, nothing, refuses, FewWords}
use Rattle.grammar.proofs.Size.Expressions.{parse_expr-few}
use Rattle.grammar.proofs.Size.Statements.{gallery-few}
use Rattle.grammar.proofs.Size.Declarations.{TopLevel-few}

-- what a rule reads of a whole text
module _ {A : Type 0} (size : A → ℕ) (more : ℕ) (text : List ℕ) where
  abbrev Within : A → Type 0
  Within a = size a ≤ 5 * length text + more

  to_end_lem : {at : ℕ} {r : Answer A} → FewAt size at more r → {a : A} {next : ℕ} → need at r (to_end text) ≡ ok a next → Within a
  unfolding after
  to_end_lem (few {a = b} {next = k} p) {a} e =
      pick-cases (eqb k (length text)) e
      (λ h r. let same : b ≡ a = cc in let p₁ : Within b = omega (arith, eqb-true k (length text) h) in subst Within same p₁)
      (λ _ r. impossible (cc))
  to_end_lem nothing e = impossible (cc)
  to_end_lem refuses e = impossible (cc)

  whole-few : {rule : Reader A} → FewWords size more rule → {a : A} {next : ℕ} → whole_text text rule ≡ ok a next → Within a
  unfolding after
  whole-few {rule} h {a} {next} = by-blanks (W text)
    where
      by-blanks : (b : Blanks) → after (leading b) Answer.none (λ at _. need at (rule at) (to_end text)) ≡ ok a next → Within a
      by-blanks (passed n) e = to_end_lem (h n) e
      by-blanks (unclosed n) e = impossible (cc)

module _ (text : List ℕ) where
  -- An expression has fewer words than five for each byte.
  pub expression-few : {e : Expr Span} {next : ℕ} → parse_text text ≡ ok e next → length (expr_words (λ s. s) e []) < 5 * length text
  unfolding parse_text
  expression-few {e} r = omega (arith, whole-few _ _ text (parse_expr-few text (suc (length text)) most_depth) r, expr-sized e [])

  -- A program has at most five words for each byte, and five.
  pub program-few : {p : Program Span} {next : ℕ} → parse_program text ≡ ok p next → length (program_words (λ s. s) p []) ≤ 5 * length text + 5
  unfolding parse_program
  program-few {p} r =
      omega (arith, whole-few _ _ text (TopLevel-few text (suc (length text)) (gallery-few text (suc (length text)) most_depth)) r, program-sized p [])

  -- A table of so many words is not too short.
  pub program-roomy : (n : ℕ) → 5 * length text + 5 ≤ n → n ≤ most_words → short (read_program text n) ≡ false
  unfolding read_program read_tree_of_program
  program-roomy n l h = told-short text (program_outcome text n) ∙ answer-roomy (read_tree_of_program text) refl
    where
      fits : {p : Program Span} {next : ℕ} → read_tree_of_program text ≡ ok p next → length (program_words (λ s. s) p []) ≤ n
      fits {p} e =
          let few = pick-cases (leb (length text) most_text) e (λ _ r. program-few r) (λ _ r. impossible (cc)) in omega arith

      answer-roomy : (r : Answer (Program Span)) → read_tree_of_program text ≡ r → short (outcome_by (λ p. program_words (λ s. s) p []) n r) ≡ false
      answer-roomy (ok p next) e = ap short (stored-fits [] n (program_words (λ s. s) p []) (fits e) (omega (arith, fits e)))
      answer-roomy Answer.none e = refl
      answer-roomy (refused number place) e = ne_eqb number 5 (program-rules-refused text e)
