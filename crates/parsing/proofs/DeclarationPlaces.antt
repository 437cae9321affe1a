-- Places of declarations: a declaration's name with its list in parentheses.
use Rattle.std.proofs.Common.{ℕ, ◌+◌, ◌*◌, ◌-◌, [], ◌∷◌, arith}
use Rattle.std.proofs.lemmas.Bool.{le-leb}
use Rattle.lexing.specs.Answer.{Answer}
use Rattle.lexing.specs.Bytes.{bytes}
use Rattle.tree.specs.Ast.{Span}
use Rattle.tree.specs.Words.{name_words}
use Rattle.grammar.specs.Statements.{rep}
use Rattle.grammar.specs.Steps.{need, parse_name}
use Rattle.parsing.specs.Contract.{Rule, needed, sign, same, Spare, Read, Took, Pushed}
use Rattle.parsing.specs.Expressions.{ListOf, list_words, list_rule}
use Rattle.parsing.specs.Code.{turns}
use Rattle.parsing.specs.Statements.{RepetitionOf, repeated, repeated_rule}
use Rattle.parsing.specs.declared.arena.Node.TheVariants.{Pair}
use Rattle.parsing.specs.declared.expr.seq.Kind.{Kind}
use Rattle.parsing.specs.declared.stmt.Repeated.{Repeated}
use Rattle.parsing.specs.declared.parser.Parser.{Parser}
use Rattle.parsing.proofs.Places.{Place, begin_with, read, read_if, took, paired}

-- clauses of a kind
abbrev pub repetition_rule : (k : Repeated) → ℕ → Rule (RepetitionOf k)
repetition_rule k depth text = rep (repeated k) (turns text) (repeated_rule k depth text)

-- after a declaration's name and its list
module _ {A : Type 0} (k : Kind) (depth : ℕ) {p p₁ p₂ p₃ p₄ : Parser} {name list head : ℕ} where
  pub signed : (go : Span → ListOf k → ℕ → Answer A) {lent : ℕ} → Spare p lent → (n : Read (name_words same) (needed parse_name) 1 0 p p₁ name)
      → Took (needed (sign (bytes "("))) 1 p₁ p₂ → (l : Read (list_words k) (list_rule k (bytes ")") depth) 1 1 p₂ p₃ list) → Pushed (Pair name list) p₃ p₄ head
      → Place (need p.at (parse_name p.text.now p.at)
      (λ n at₁. need at₁ (sign (bytes "(") p.text.now at₁) (λ _ at₂. need at₂ (list_rule k (bytes ")") depth p.text.now at₂) (λ l at₃. go n l at₃)))) lent p p₄
      p₃.at 3 (lent - 0 + 2 * 1 - 1 - 1) (go n.value l.value p₃.at) ((head, λ r. name_words same n.value (list_words k l.value r)) ∷ (list, list_words k l.value) ∷ (name, name_words same n.value) ∷ [])
  signed go r n o l h =
      paired h (read_if (list_rule k (bytes ")") depth) _ _ l (took _ _ o (read _ _ n (begin_with r) (le-leb _ _ (omega arith)))) (le-leb _ _ (omega arith)))
      (le-leb _ _ (omega arith))
