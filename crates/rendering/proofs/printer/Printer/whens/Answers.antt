-- The clauses as a list.
use Rattle.std.proofs.Common.{ℕ, length, subst, ◌≡◌, arith, ap, refl, rules, List, [], ◌∷◌}
use mathlib.Core.Path.{fun_ext}
use Rattle.tree.specs.Ast.{Expr, Exprs, no_exprs, ◌then◌}
use Rattle.tree.specs.Words.{expr_words, exprs_words, seq_words}
use Rattle.tree.specs.Counted.{CountedExprs, CountedItems}
use Rattle.layout.specs.Statements.{separated}
use Rattle.layout.specs.Program.{when_clauses}
use Rattle.rendering.specs.declared.printer.Source.{Source}
use Rattle.rendering.specs.Parts.{N, named}
use Rattle.rendering.specs.Sequences.{one}
use Rattle.rendering.specs.ExprParts.{Numbered}
use Rattle.rendering.specs.DeclParts.{a_when}
use Rattle.rendering.proofs.Walk.{prints, ready, begin, part, done, left-as, as-print}
use Rattle.rendering.proofs.Sequences.{by-call, moves, printed-list}
use Rattle.rendering.proofs.printer.Printer.whens.Goals as goal

abbrev items : {M : Type 0} → Exprs M → List (Expr M)
items no_exprs = []
items (◌then◌ e es) = e ∷ items es

module _ (S : Source) where
  same-words : (es : Exprs (N S)) (rest : List ℕ) → exprs_words (λ n. n.span) es rest ≡ seq_words (a_when.words S) (items es) rest
  same-words no_exprs rest = refl
  same-words (◌then◌ e es) rest = ap (λ (ws : List ℕ). 1 ∷ expr_words (λ n. n.span) e ws) (same-words es rest)

  same-print : (es : Exprs (N S)) (rest : List ℕ) → separated (a_when.print S) [] [] (items es) rest ≡ when_clauses (named S) S.step es rest
  unfolding separated when_clauses
  same-print no_exprs rest = refl
  same-print (◌then◌ e es) rest = ap (a_when.print S e) (same-print es rest)

  same-numbers : (es : Exprs (N S)) (rest : List ℕ) → CountedExprs (λ n. n.span) S.counts.now (length S.words.now) es rest
      → CountedItems (a_when.words S) (a_when.numbers S) (items es) rest
  same-numbers no_exprs rest g = tt
  same-numbers (◌then◌ e es) rest g = (subst (Numbered S e) (same-words es rest) g.0, same-numbers es rest g.1)

pub separated-requires : goal.separated-requires
separated-requires c k = ((refl, tt), (search rules, moves a_when (λ s s' r. by-call (one a_when) r (search rules))))

pub returns : goal.returns
returns c =
    let list = printed-list a_when (λ s s' r. by-call (one a_when) r (search rules)) c.separated.ensures in
    prints list.source list.output list.forward
    (λ es rest g d.
    let S = c.args.self.now.source in
    let all = part list (items es) (ready g.0 (omega arith) (omega arith), same-numbers S es rest g.1) (left-as (same-words S es rest) (begin d)) in
    as-print (fun_ext (same-print S es)) (done all))
