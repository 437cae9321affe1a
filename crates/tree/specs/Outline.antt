-- The outline of a table (REFERENCE, "The outline of a table"): for each word the number of the kind that is expected there, and the place
-- after the words that stand for that kind. Where a tree begins that is the place after the tree.
use Rattle.std.specs.Prelude.{ℕ, suc, ◌+◌, Bool, List, [], ◌∷◌, ◌++◌}
use Rattle.std.proofs.Math.Option.{Option, none, some}
use Rattle.tree.specs.Kind.{Kind, program_fields, fits, misfit, turn}
use Rattle.tree.specs.KindNumbers.{kind_number}
use Rattle.tree.specs.Check.{within, Refusal, program_refusal}

-- how many of the words stand for these kinds: those up to the first that misfits, where one does
unfoldable pub extent : (ℕ → ℕ → Bool) → List Kind → List ℕ → ℕ
extent inside [] [] = 0
extent inside [] (w ∷ ws) = 0
extent inside (k ∷ ks) [] = 0
extent inside (k ∷ ks) (w ∷ ws) = elim (turn inside k w) [ fits fs ↦ suc (extent inside (fs ++ ks) ws) | misfit back ↦ 0 ]

-- The kinds' numbers of the words where these kinds are expected; `run` goes the same way.
unfoldable pub kind_numbers : (ℕ → ℕ → Bool) → List Kind → List ℕ → List ℕ
kind_numbers inside [] [] = []
kind_numbers inside [] (w ∷ ws) = []
kind_numbers inside (k ∷ ks) [] = []
kind_numbers inside (k ∷ ks) (w ∷ ws) = kind_number k ∷ elim (turn inside k w) [ fits fs ↦ kind_numbers inside (fs ++ ks) ws | misfit back ↦ [] ]

-- the places after what stands for each of them, the first word being at the place `at`
unfoldable pub end_places : (ℕ → ℕ → Bool) → List Kind → ℕ → List ℕ → List ℕ
unfolding extent
end_places inside [] at [] = []
end_places inside [] at (w ∷ ws) = []
end_places inside (k ∷ ks) at [] = []
end_places inside (k ∷ ks) at (w ∷ ws) =
    (at + extent inside (k ∷ []) (w ∷ ws)) ∷ elim (turn inside k w) [ fits fs ↦ end_places inside (fs ++ ks) (suc at) ws | misfit back ↦ [] ]

-- a list with these numbers in the place of its first, as far as it goes
abbrev pub filled : List ℕ → List ℕ → List ℕ
filled [] before = before
filled (n ∷ numbers) [] = []
filled (n ∷ numbers) (b ∷ before) = n ∷ filled numbers before

-- what an outline leaves: the numbers, or of a refused table what was there
abbrev pub unless_refused : Option Refusal → List ℕ → List ℕ → List ℕ
unless_refused none numbers before = filled numbers before
unless_refused (some r) numbers before = before

-- the kinds and the ends of a program's table over a text of that length
unfoldable pub program_kinds : List ℕ → ℕ → List ℕ → List ℕ
program_kinds words len before = unless_refused (program_refusal words len) (kind_numbers (within len) program_fields words) before

unfoldable pub program_ends : List ℕ → ℕ → List ℕ → List ℕ
program_ends words len before = unless_refused (program_refusal words len) (end_places (within len) program_fields 0 words) before
