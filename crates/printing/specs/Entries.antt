-- Print an expression or a program (REFERENCE, "The entries"): what is answered, and the output afterwards, once for whatever is printed.
use Rattle.std.specs.Prelude.{ℕ, ◌≤◌, ◌≡◌, ◌&&◌, List, ◌++◌, length, drop, leb}
use Rattle.lexing.specs.Answer.{pick}
use Rattle.layout.specs.declared.settings.Settings.{Settings}
use Rattle.tree.specs.Held.{Held, held, refused}
use Rattle.rendering.specs.Tables.{Printable, expressions, programs, held_for}
use Rattle.rendering.specs.Errors.{print_too_long, print_error_number, print_error_place}
use Rattle.std.specs.Prelude.{Result, Ok, Err}
use Rattle.rendering.specs.declared.PrintError.{PrintError}

-- the most bytes of a print (REFERENCE, "Limits")
abbrev pub most_print : ℕ
most_print = 65536

-- what a print answers, and the output afterwards
pub data Outcome : Type 0 where
  written : ℕ → List ℕ → Outcome
  refusal : ℕ → ℕ → List ℕ → Outcome

-- the code's answer and the output as an outcome
abbrev pub outcome_of : Result ℕ PrintError → List ℕ → Outcome
outcome_of (Ok n) out = written n out
outcome_of (Err e) out = refusal (print_error_number e) (print_error_place e) out

-- the print and then the output's old bytes, or refusal 8
unfoldable pub stored : List ℕ → List ℕ → Outcome
stored print out =
    pick (leb (length print) (length out) && leb (length print) most_print) (written (length print) (print ++ drop (length print) out)) (refusal print_too_long 0 out)

-- ---- the print of a table

module _ (P : Printable) where
  -- by what the table holds: its tree's print, or refusal 6 or 7
  abbrev pub print_held : Held P.kind.Tree → (out : List ℕ) → Outcome
  print_held (held t) out = stored (P.print t) out
  print_held (refused number place) out = refusal number place out

  unfoldable pub print_table : (text words out : List ℕ) → Outcome
  print_table text words out = print_held (held_for P text words) out

  -- the contract of a print: its answer r and the output afterwards
  abbrev pub Answered : (text words out : List ℕ) → Result ℕ PrintError → (out' : List ℕ) → Type 0
  Answered text words out r out' = outcome_of r out' ≡ print_table text words out

-- print expression, by settings and from a start indent on
abbrev pub print_expression : Settings → (text words : List ℕ) (indent : ℕ) (out : List ℕ) → Outcome
print_expression settings text words indent out = print_table (expressions settings text indent) text words out

-- print program, by settings
abbrev pub print_program : Settings → (text words out : List ℕ) → Outcome
print_program settings text words out = print_table (programs settings text) text words out

-- The contract of the prints of an expression: by `one_line` and from 0 on that of `print_expression`, by `defaults` that of
-- `print_expression_lines`.
abbrev pub PrintAnswered : Settings → (text words : List ℕ) (indent : ℕ) (out : List ℕ) → Result ℕ PrintError → (out' : List ℕ) → Type 0
PrintAnswered settings text words indent out r out' = Answered (expressions settings text indent) text words out r out'

-- The contract of the prints of a program: by `defaults` that of `print_program`.
abbrev pub ProgramAnswered : Settings → (text words out : List ℕ) → Result ℕ PrintError → (out' : List ℕ) → Type 0
ProgramAnswered settings text words out r out' = Answered (programs settings text) text words out r out'

-- the limits that refusal 8 is about
pub record Fits (print out : List ℕ) : Type 0 where
  pub in-output : length print ≤ length out
  pub in-print : length print ≤ most_print
