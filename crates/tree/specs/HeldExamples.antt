-- Closed examples: what a table holds over its text, and the limits, each from both of its sides.
use Rattle.std.specs.Prelude.{ℕ, ◌≡◌, refl, true, false, List, [], ◌∷◌, replicate}
use Rattle.std.proofs.Common.{lit≤}
use Rattle.tree.specs.Ast.{IdExpr, Program}
use Rattle.tree.specs.Check.{NameIn, run, check_program, program_refusal}
use Rattle.tree.specs.Held.{expression_tables, program_tables, held, refused, held_checked, held_by, program_held, Holds, HoldsProgram}
use Rattle.tree.specs.HeldLaws.{holds, expression-laws, program-laws}

-- the program `type A`
abbrev type_a : List ℕ
type_a = 116 ∷ 121 ∷ 112 ∷ 101 ∷ 32 ∷ 65 ∷ []

abbrev a : NameIn 6
a = record { span = record { start = 5; len = 1 }; inside = lit≤ tt }

abbrev program : Program (NameIn 6)
program = record { types = a ∷ []; taggers = []; functions = []; axioms = []; procedures = [] }

abbrev table : List ℕ
table = 1 ∷ 5 ∷ 1 ∷ 0 ∷ 0 ∷ 0 ∷ 0 ∷ 0 ∷ []

its-words : HoldsProgram type_a table program
its-words = refl

its-program : program_held type_a table ≡ held program
its-program = holds (program_tables 6) type_a table (program-laws type_a) program its-words (lit≤ tt) (lit≤ tt) refl

-- the expression `A` over the same text
its-expression-words : Holds type_a (4 ∷ 5 ∷ 1 ∷ 0 ∷ []) (IdExpr a false)
its-expression-words = refl

its-expression : held_by (expression_tables 6) true type_a (4 ∷ 5 ∷ 1 ∷ 0 ∷ []) ≡ held (IdExpr a false)
its-expression =
    holds (expression_tables 6) type_a (4 ∷ 5 ∷ 1 ∷ 0 ∷ []) (expression-laws type_a) (IdExpr a false) its-expression-words (lit≤ tt) (lit≤ tt) refl

-- a word too few, a word too many, a name past the text
missing : program_held type_a (1 ∷ 5 ∷ 1 ∷ 0 ∷ 0 ∷ 0 ∷ 0 ∷ []) ≡ refused 7 7
unfolding held_by held_checked program_refusal check_program run
missing = refl

surplus : program_held type_a (1 ∷ 5 ∷ 1 ∷ 0 ∷ 0 ∷ 0 ∷ 0 ∷ 0 ∷ 0 ∷ []) ≡ refused 7 8
unfolding held_by held_checked program_refusal check_program run
surplus = refl

past : program_held type_a (1 ∷ 5 ∷ 2 ∷ 0 ∷ 0 ∷ 0 ∷ 0 ∷ 0 ∷ []) ≡ refused 7 1
unfolding held_by held_checked program_refusal check_program run
past = refl

-- a text of 32,768 bytes and one of 32,769, whose table is no program's either
abbrev empty : (len : ℕ) → Program (NameIn len)
empty len = record { types = []; taggers = []; functions = []; axioms = []; procedures = [] }

longest : program_held (replicate 32768 32) (0 ∷ 0 ∷ 0 ∷ 0 ∷ 0 ∷ []) ≡ held (empty 32768)
longest =
    holds (program_tables 32768) (replicate 32768 32) (0 ∷ 0 ∷ 0 ∷ 0 ∷ 0 ∷ []) (program-laws (replicate 32768 32)) (empty 32768) refl
    (lit≤ tt) (lit≤ tt) refl

too_long : program_held (replicate 32769 32) (9 ∷ []) ≡ refused 6 0
unfolding held_by
too_long = refl

-- 16,384 words, of which the first five are a program's, and 16,385
most-words : program_held [] (replicate 16384 0) ≡ refused 7 5
unfolding held_by held_checked program_refusal check_program run
most-words = refl

too_many : program_held [] (replicate 16385 0) ≡ refused 6 0
unfolding held_by held_checked program_refusal check_program
too_many = refl

-- with another limit passed, whatever the table
past-another : held_by (program_tables 6) false type_a table ≡ refused 6 0
unfolding held_by
past-another = refl

misfit-past-another : held_by (program_tables 6) false type_a (9 ∷ []) ≡ refused 6 0
unfolding held_by
misfit-past-another = refl
