-- Closed examples, by computation: the kinds and the ends of a table.
use Rattle.std.specs.Prelude.{ℕ, ◌≡◌, refl, List, [], ◌∷◌, replicate}
use Rattle.tree.specs.Kind.{expr, seq, of_procedure, program_fields}
use Rattle.tree.specs.Check.{within, run, check_program, program_refusal}
use Rattle.tree.specs.Outline.{extent, kind_numbers, end_places, program_kinds, program_ends}

-- P11, `a + 1`: the operator's tree ends after all twelve words, the name after its two
p11-kinds : kind_numbers (within 5) (expr ∷ []) (5 ∷ 10 ∷ 1 ∷ 4 ∷ 0 ∷ 1 ∷ 0 ∷ 1 ∷ 2 ∷ 0 ∷ 1 ∷ 0 ∷ []) ≡ 4 ∷ 2 ∷ 12 ∷ 4 ∷ 27 ∷ 0 ∷ 1 ∷ 12 ∷ 4 ∷ 28 ∷ 0 ∷ 12 ∷ []
unfolding kind_numbers
p11-kinds = refl

p11-ends : end_places (within 5) (expr ∷ []) 0 (5 ∷ 10 ∷ 1 ∷ 4 ∷ 0 ∷ 1 ∷ 0 ∷ 1 ∷ 2 ∷ 0 ∷ 1 ∷ 0 ∷ []) ≡ 12 ∷ 2 ∷ 12 ∷ 7 ∷ 6 ∷ 6 ∷ 7 ∷ 12 ∷ 11 ∷ 11 ∷ 11 ∷ 12 ∷ []
unfolding end_places extent
p11-ends = refl

-- a program whose table has every kind of word
abbrev every_kind : List ℕ
every_kind =
    1 ∷ 0 ∷ 1 ∷ 0  -- the type A
    ∷ 1 ∷ 1 ∷ 1 ∷ 0 ∷ 1 ∷ 0  -- a tagger
    ∷ 1 ∷ 2 ∷ 1 ∷ 1 ∷ 3 ∷ 1 ∷ 1 ∷ 0 ∷ 1 ∷ 0 ∷ 0 ∷ 1 ∷ 1 ∷ 1 ∷ 1 ∷ 1 ∷ 1 ∷ 1 ∷ 1 ∷ 0 ∷ 2 ∷ 0 ∷ 7 ∷ 0  -- a function with an injective parameter, a tag, a `when` clause and a body
    ∷ 1 ∷ 1 ∷ 2 ∷ 1 ∷ 0 ∷ 9 ∷ 0 ∷ 1 ∷ 4 ∷ 1 ∷ 0 ∷ 1 ∷ 0 ∷ 1 ∷ 1 ∷ 4 ∷ 4 ∷ 1 ∷ 0 ∷ 0 ∷ 0 ∷ 10 ∷ 1 ∷ 5 ∷ 1 ∷ 0 ∷ 1 ∷ 1 ∷ 0 ∷ 6 ∷ 1 ∷ 0 ∷ 1 ∷ 1 ∷ 0 ∷ 4 ∷ 6 ∷ 1 ∷ 0 ∷ 0 ∷ 0  -- an axiom that explains it, of a quantifier over a closure
    ∷ 1 ∷ 7 ∷ 1 ∷ 1 ∷ 8 ∷ 1 ∷ 2 ∷ 0 ∷ 1 ∷ 1 ∷ 1 ∷ 1 ∷ 0 ∷ 1 ∷ 1 ∷ 5 ∷ 10 ∷ 1 ∷ 4 ∷ 3 ∷ 1 ∷ 0 ∷ 1 ∷ 2 ∷ 0 ∷ 7 ∷ 0 ∷ 1 ∷ 2 ∷ 37 ∷ 0 ∷ 0 ∷ 1 ∷ 24 ∷ 1 ∷ 33 ∷ 1 ∷ 1 ∷ 1 ∷ 37 ∷ 0 ∷ 1 ∷ 25 ∷ 7 ∷ 1 ∷ 1 ∷ 3 ∷ 4 ∷ 8 ∷ 1 ∷ 0 ∷ 0 ∷ 1 ∷ 36 ∷ 1 ∷ 9 ∷ 1 ∷ 0 ∷ 0  -- a procedure with a parameter that has an invariant, what it requires, and a body
    ∷ []

-- the numbers of its words' kinds
abbrev every_kind_numbers : List ℕ
every_kind_numbers =
    11 ∷ 27 ∷ 0 ∷ 11  -- the type A
    ∷ 21 ∷ 27 ∷ 0 ∷ 27 ∷ 0 ∷ 21  -- a tagger
    ∷ 23 ∷ 27 ∷ 0 ∷ 22 ∷ 27 ∷ 0 ∷ 1 ∷ 27 ∷ 0 ∷ 22 ∷ 27 ∷ 0 ∷ 7 ∷ 27 ∷ 0 ∷ 10 ∷ 12 ∷ 4 ∷ 1 ∷ 12 ∷ 4 ∷ 28 ∷ 0 ∷ 23  -- a function with an injective parameter, a tag, a `when` clause and a body
    ∷ 24 ∷ 11 ∷ 27 ∷ 0 ∷ 11 ∷ 4 ∷ 1 ∷ 13 ∷ 27 ∷ 0 ∷ 27 ∷ 0 ∷ 13 ∷ 14 ∷ 12 ∷ 4 ∷ 27 ∷ 0 ∷ 1 ∷ 12 ∷ 14 ∷ 4 ∷ 15 ∷ 27 ∷ 0 ∷ 13 ∷ 4 ∷ 1 ∷ 15 ∷ 27 ∷ 0 ∷ 27 ∷ 0 ∷ 16 ∷ 14 ∷ 4 ∷ 27 ∷ 0 ∷ 1 ∷ 16 ∷ 24  -- an axiom that explains it, of a quantifier over a closure
    ∷ 26 ∷ 27 ∷ 0 ∷ 25 ∷ 27 ∷ 0 ∷ 3 ∷ 27 ∷ 0 ∷ 8 ∷ 4 ∷ 1 ∷ 25 ∷ 20 ∷ 6 ∷ 4 ∷ 2 ∷ 12 ∷ 4 ∷ 27 ∷ 0 ∷ 1 ∷ 12 ∷ 4 ∷ 28 ∷ 0 ∷ 12 ∷ 20 ∷ 6 ∷ 5 ∷ 20 ∷ 20 ∷ 9 ∷ 5 ∷ 17 ∷ 5 ∷ 19 ∷ 4 ∷ 1 ∷ 5 ∷ 19 ∷ 17 ∷ 5 ∷ 27 ∷ 0 ∷ 18 ∷ 3 ∷ 4 ∷ 27 ∷ 0 ∷ 1 ∷ 18 ∷ 17 ∷ 5 ∷ 7 ∷ 27 ∷ 0 ∷ 17 ∷ 26  -- a procedure with a parameter that has an invariant, what it requires, and a body
    ∷ []

every-kind : kind_numbers (within 10) program_fields every_kind ≡ every_kind_numbers
unfolding kind_numbers
every-kind = refl

-- a procedure with what it requires, whose body is a block of an IfCase and an Exit; each mark of a sequence ends with the sequence
procedure-ends : end_places (within 10) (seq of_procedure ∷ []) 0
    (1 ∷ 7 ∷ 1 ∷ 0 ∷ 1 ∷ 1 ∷ 1 ∷ 1 ∷ 0 ∷ 0 ∷ 1 ∷ 24 ∷ 1 ∷ 33 ∷ 1 ∷ 1 ∷ 1 ∷ 37 ∷ 0 ∷ 1 ∷ 36 ∷ 1 ∷ 8 ∷ 1 ∷ 0 ∷ 0 ∷ [])
    ≡ 26 ∷ 3 ∷ 3 ∷ 4 ∷ 9 ∷ 8 ∷ 8 ∷ 8 ∷ 9 ∷ 10 ∷ 25 ∷ 25 ∷ 25 ∷ 19 ∷ 19 ∷ 17 ∷ 17 ∷ 18 ∷ 19 ∷ 25 ∷ 24 ∷ 24 ∷ 24 ∷ 24 ∷ 25 ∷ 26 ∷ []
unfolding end_places extent
procedure-ends = refl

-- words that are cut off, words that are too many, and a name past the text at its length: as far as the words fit. The word that misfits is
-- noted, and ends where it stands.
cut-extent : extent (within 5) (expr ∷ []) (5 ∷ 10 ∷ 1 ∷ 4 ∷ 0 ∷ []) ≡ 5
unfolding extent
cut-extent = refl

surplus-extent : extent (within 5) (expr ∷ []) (1 ∷ 1 ∷ 1 ∷ []) ≡ 2
unfolding extent
surplus-extent = refl

past-extent : extent (within 1) (expr ∷ expr ∷ []) (4 ∷ 0 ∷ 2 ∷ 0 ∷ 1 ∷ 1 ∷ []) ≡ 2
unfolding extent
past-extent = refl

cut-kinds : kind_numbers (within 5) (expr ∷ []) (5 ∷ 10 ∷ 1 ∷ 4 ∷ 0 ∷ []) ≡ 4 ∷ 2 ∷ 12 ∷ 4 ∷ 27 ∷ []
unfolding kind_numbers
cut-kinds = refl

surplus-kinds : kind_numbers (within 5) (expr ∷ []) (1 ∷ 1 ∷ 1 ∷ []) ≡ 4 ∷ 1 ∷ []
unfolding kind_numbers
surplus-kinds = refl

past-kinds : kind_numbers (within 1) (expr ∷ expr ∷ []) (4 ∷ 0 ∷ 2 ∷ 0 ∷ 1 ∷ 1 ∷ []) ≡ 4 ∷ 27 ∷ 0 ∷ []
unfolding kind_numbers
past-kinds = refl

cut-ends : end_places (within 5) (expr ∷ []) 3 (5 ∷ 10 ∷ 1 ∷ 4 ∷ 0 ∷ []) ≡ 8 ∷ 5 ∷ 8 ∷ 8 ∷ 8 ∷ []
unfolding end_places extent
cut-ends = refl

surplus-ends : end_places (within 5) (expr ∷ []) 3 (1 ∷ 1 ∷ 1 ∷ []) ≡ 5 ∷ 5 ∷ []
unfolding end_places extent
surplus-ends = refl

past-ends : end_places (within 1) (expr ∷ expr ∷ []) 3 (4 ∷ 0 ∷ 2 ∷ 0 ∷ 1 ∷ 1 ∷ []) ≡ 5 ∷ 5 ∷ 5 ∷ []
unfolding end_places extent
past-ends = refl

-- a shorter slice is filled as far as it goes, a longer one keeps what lies past the words
short-kinds : program_kinds (1 ∷ 0 ∷ 1 ∷ 0 ∷ 0 ∷ 0 ∷ 0 ∷ 0 ∷ []) 1 (99 ∷ 99 ∷ []) ≡ 11 ∷ 27 ∷ []
unfolding program_kinds program_refusal check_program run kind_numbers
short-kinds = refl

long-kinds : program_kinds (1 ∷ 0 ∷ 1 ∷ 0 ∷ 0 ∷ 0 ∷ 0 ∷ 0 ∷ []) 1 (replicate 10 99) ≡ 11 ∷ 27 ∷ 0 ∷ 11 ∷ 21 ∷ 23 ∷ 24 ∷ 26 ∷ 99 ∷ 99 ∷ []
unfolding program_kinds program_refusal check_program run kind_numbers
long-kinds = refl

short-ends : program_ends (1 ∷ 0 ∷ 1 ∷ 0 ∷ 0 ∷ 0 ∷ 0 ∷ 0 ∷ []) 1 (99 ∷ 99 ∷ []) ≡ 4 ∷ 3 ∷ []
unfolding program_ends program_refusal check_program run end_places extent
short-ends = refl

long-ends : program_ends (1 ∷ 0 ∷ 1 ∷ 0 ∷ 0 ∷ 0 ∷ 0 ∷ 0 ∷ []) 1 (replicate 10 99) ≡ 4 ∷ 3 ∷ 3 ∷ 4 ∷ 5 ∷ 6 ∷ 7 ∷ 8 ∷ 99 ∷ 99 ∷ []
unfolding program_ends program_refusal check_program run end_places extent
long-ends = refl

-- of a refused table nothing changes: a word too many, a word too few, a name past the text
surplus : program_kinds (0 ∷ 0 ∷ 0 ∷ 0 ∷ 0 ∷ 0 ∷ []) 1 (replicate 6 99) ≡ replicate 6 99
unfolding program_kinds program_refusal check_program run kind_numbers
surplus = refl

missing : program_ends (0 ∷ 0 ∷ 0 ∷ 0 ∷ []) 1 (replicate 4 99) ≡ replicate 4 99
unfolding program_ends program_refusal check_program run end_places extent
missing = refl

outside : program_kinds (1 ∷ 0 ∷ 2 ∷ 0 ∷ 0 ∷ 0 ∷ 0 ∷ 0 ∷ []) 1 (replicate 8 99) ≡ replicate 8 99
unfolding program_kinds program_refusal check_program run kind_numbers
outside = refl

outside-ends : program_ends (1 ∷ 0 ∷ 2 ∷ 0 ∷ 0 ∷ 0 ∷ 0 ∷ 0 ∷ []) 1 (replicate 8 99) ≡ replicate 8 99
unfolding program_ends program_refusal check_program run end_places extent
outside-ends = refl
