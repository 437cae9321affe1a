-- The check of a table: its words, read from the first on, against a list of expected kinds. Refusals 6 and 7 (REFERENCE, "The refusals").
use Rattle.std.specs.Prelude.{ℕ, suc, ◌+◌, ◌-◌, ◌≤◌, Bool, cond, List, [], ◌∷◌, ◌++◌, length, leb, Result, Ok, Err}
use Rattle.std.proofs.Math.Option.{Option, none, some}
use Rattle.tree.specs.Limits.{most_words}
use Rattle.tree.specs.Ast.{Span}
use Rattle.tree.specs.Kind.{Kind, expr, program_fields, fits, misfit, turn}
use Rattle.tree.specs.declared.CheckError.{CheckError}
use Rattle.tree.specs.declared.CheckError.TheVariants.{Misfit, TooManyWords}

-- what the check of a table finds: one tree, or why it is none
abbrev pub Checked : Type 0
Checked = Result (Unit {0}) CheckError

-- one tree
abbrev pub one_tree : Checked
one_tree = Ok tt

-- The words from the place `at` on, where these kinds are expected: each word takes the first kind away and puts the kinds of its fields in
-- its stead. Where words are missing the place is their count, since `at` is it there; surplus words misfit at the first of them.
unfoldable pub run : (ℕ → ℕ → Bool) → List Kind → ℕ → List ℕ → Checked
run inside [] at [] = one_tree
run inside (k ∷ ks) at [] = Err (Misfit at)
run inside [] at (w ∷ ws) = Err (Misfit at)
run inside (k ∷ ks) at (w ∷ ws) =
    elim (turn inside k w) [ fits fs ↦ run inside (fs ++ ks) (suc at) ws | misfit back ↦ Err (Misfit (at - back)) ]

-- whether a name lies inside a text of that length
abbrev pub within : ℕ → ℕ → ℕ → Bool
within len s l = leb (s + l) len

-- a name that lies inside a text of that length
pub record NameIn (len : ℕ) : Type 0 where
  pub span : Span
  pub inside : span.start + span.len ≤ len

-- the table of these kinds
abbrev pub check : List Kind → List ℕ → ℕ → Checked
check ks words len = cond (leb (length words) most_words) (run (within len) ks 0 words) (Err TooManyWords)

-- the table of an expression, and of a program, over a text of that length
unfoldable pub check_expression : List ℕ → ℕ → Checked
check_expression words len = check (expr ∷ []) words len

unfoldable pub check_program : List ℕ → ℕ → Checked
check_program words len = check program_fields words len

-- The numbers of a print's refusals. Text, words or start indent are past their limits:
abbrev pub oversized : ℕ
oversized = 6

-- the words aren't one tree over the text:
abbrev pub misfitting : ℕ
misfitting = 7

-- the number and place of a refusal, of a check that refuses
pub record Refusal : Type 0 where
  pub number : ℕ
  pub place : ℕ

-- those of an error
abbrev pub error_number : CheckError → ℕ
error_number (Misfit at) = misfitting
error_number TooManyWords = oversized

abbrev pub error_place : CheckError → ℕ
error_place (Misfit at) = at
error_place TooManyWords = 0

-- the refusal of an answer, none where it is one tree's words
abbrev pub refusal : Checked → Option Refusal
refusal (Ok u) = none
refusal (Err e) = some (record { number = error_number e; place = error_place e })

-- the refusal of a table, none where it is one expression's, or one program's, over a text of that length
unfoldable pub expression_refusal : List ℕ → ℕ → Option Refusal
unfolding check_expression
expression_refusal words len = refusal (check_expression words len)

unfoldable pub program_refusal : List ℕ → ℕ → Option Refusal
unfolding check_program
program_refusal words len = refusal (check_program words len)
