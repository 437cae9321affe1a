use Rattle.std.proofs.Common.{refl, arith}
use Rattle.grammar.specs.Rules.{factor_operator, term_operator, parse_comparison_operator, equality_operator, less_operator, more_operator, and_operator, or_operator, implies_operator, explies_operator, equiv_operator}
use Rattle.parsing.specs.declared.sign.Level.TheVariants.{Product, Sum, Comparison, Conjunction, Disjunction, Implication, Explication, Equivalence}
use Rattle.parsing.proofs.SignTables.{tabled, or-pairs}
use Rattle.parsing.proofs.sign.Level.table.Goals as goal

pub returns-in-Product : goal.returns-in-Product
unfolding factor_operator
returns-in-Product c = rw c.in-Product.is (tabled Product _ (λ text at. refl) (search (arith)))

pub returns-in-Sum : goal.returns-in-Sum
unfolding term_operator
returns-in-Sum c = rw c.in-Sum.is (tabled Sum _ (λ text at. refl) (search (arith)))

pub returns-in-Comparison : goal.returns-in-Comparison
unfolding parse_comparison_operator equality_operator less_operator more_operator
returns-in-Comparison c = rw c.in-Comparison.is (tabled Comparison _ (λ text at. or-pairs _ _ _ _ _) (search (arith)))

pub returns-in-Conjunction : goal.returns-in-Conjunction
unfolding and_operator
returns-in-Conjunction c = rw c.in-Conjunction.is (tabled Conjunction _ (λ text at. refl) (search (arith)))

pub returns-in-Disjunction : goal.returns-in-Disjunction
unfolding or_operator
returns-in-Disjunction c = rw c.in-Disjunction.is (tabled Disjunction _ (λ text at. refl) (search (arith)))

pub returns-in-Implication : goal.returns-in-Implication
unfolding implies_operator
returns-in-Implication c = rw c.in-Implication.is (tabled Implication _ (λ text at. refl) (search (arith)))

pub returns-in-Explication : goal.returns-in-Explication
unfolding explies_operator
returns-in-Explication c = rw c.in-Explication.is (tabled Explication _ (λ text at. refl) (search (arith)))

pub returns-in-Equivalence : goal.returns-in-Equivalence
unfolding equiv_operator
returns-in-Equivalence c = rw c.in-Equivalence.is (tabled Equivalence _ (λ text at. refl) (search (arith)))
