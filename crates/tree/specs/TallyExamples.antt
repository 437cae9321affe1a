-- Closed examples, by computation: the numbers of items after the walk over a table. Places of no sequence keep what stood there.
use Rattle.std.specs.Prelude.{◌≡◌, refl, [], ◌∷◌, replicate}
use Rattle.tree.specs.Tally.{tally, expression_counts, program_counts}

-- P11, `a + 1`: two operands, noted at the place of their sequence
p11 : expression_counts (5 ∷ 10 ∷ 1 ∷ 4 ∷ 0 ∷ 1 ∷ 0 ∷ 1 ∷ 2 ∷ 0 ∷ 1 ∷ 0 ∷ []) 5 (replicate 12 9) ≡ 9 ∷ 9 ∷ 2 ∷ replicate 9 9
unfolding expression_counts tally
p11 = refl

-- `f(-a, b())`: two arguments, one operand, no arguments
nested : expression_counts (6 ∷ 0 ∷ 1 ∷ 1 ∷ 5 ∷ 16 ∷ 1 ∷ 4 ∷ 1 ∷ 1 ∷ 0 ∷ 0 ∷ 1 ∷ 6 ∷ 2 ∷ 1 ∷ 0 ∷ 0 ∷ []) 3 (replicate 18 9)
    ≡ 9 ∷ 9 ∷ 9 ∷ 2 ∷ 9 ∷ 9 ∷ 1 ∷ 9 ∷ 9 ∷ 9 ∷ 9 ∷ 9 ∷ 9 ∷ 9 ∷ 9 ∷ 9 ∷ 0 ∷ 9 ∷ []
unfolding expression_counts tally
nested = refl

-- no types, taggers, functions or axioms; a procedure whose body is a block of a block of a return, and a return
program : program_counts (0 ∷ 0 ∷ 0 ∷ 0 ∷ 1 ∷ 0 ∷ 1 ∷ 0 ∷ 0 ∷ 0 ∷ 1 ∷ 24 ∷ 1 ∷ 24 ∷ 1 ∷ 37 ∷ 0 ∷ 1 ∷ 37 ∷ 0 ∷ 0 ∷ []) 1 (replicate 21 9)
    ≡ 0 ∷ 0 ∷ 0 ∷ 0 ∷ 1 ∷ 9 ∷ 9 ∷ 0 ∷ 0 ∷ 0 ∷ 9 ∷ 9 ∷ 2 ∷ 9 ∷ 1 ∷ 9 ∷ 9 ∷ 9 ∷ 9 ∷ 9 ∷ 9 ∷ []
unfolding program_counts tally
program = refl

-- a misfit ends the walk: the inner call has its number, the outer has none
cut : expression_counts (6 ∷ 0 ∷ 1 ∷ 1 ∷ 6 ∷ 0 ∷ 1 ∷ 0 ∷ 2 ∷ []) 1 (replicate 9 7) ≡ 7 ∷ 7 ∷ 7 ∷ 7 ∷ 7 ∷ 7 ∷ 7 ∷ 0 ∷ 7 ∷ []
unfolding expression_counts tally
cut = refl

-- places that are not there are passed over
short : expression_counts (5 ∷ 10 ∷ 1 ∷ 4 ∷ 0 ∷ 1 ∷ 0 ∷ 1 ∷ 2 ∷ 0 ∷ 1 ∷ 0 ∷ []) 5 (9 ∷ 9 ∷ []) ≡ 9 ∷ 9 ∷ []
unfolding expression_counts tally
short = refl
