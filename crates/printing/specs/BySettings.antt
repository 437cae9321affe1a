-- Prints by the bytes of settings (REFERENCE, "The entries"): the settings' refusals come first, then what the print by them answers.
use Rattle.std.specs.Prelude.{ℕ, ◌≡◌, List, Result, Ok, Err}
use Rattle.tree.specs.Check.{Refusal}
use Rattle.layout.specs.declared.settings.Settings.{Settings}
use Rattle.settings.specs.Errors.{record_refusal}
use Rattle.settings.specs.Records.{settings_in}
use Rattle.rendering.specs.Errors.{print_error_number, print_error_place}
use Rattle.rendering.specs.Tables.{Printable, expressions, programs}
use Rattle.printing.specs.declared.error.PrintByError.{PrintByError}
use Rattle.printing.specs.declared.error.PrintByError.TheVariants.{Settings as OfSettings, Print as OfPrint}
use Rattle.printing.specs.Entries.{Outcome, written, refusal, print_table}

abbrev pub print_by_refusal : PrintByError → Refusal
print_by_refusal (OfSettings e) = record_refusal e
print_by_refusal (OfPrint e) = record { number = print_error_number e; place = print_error_place e }

-- the code's answer and the output as an outcome
abbrev pub outcome_by : Result ℕ PrintByError → List ℕ → Outcome
outcome_by (Ok n) out = written n out
outcome_by (Err e) out = refusal (print_by_refusal e).number (print_by_refusal e).place out

-- the print by the settings that were read, or their refusal
abbrev pub by_read : Result Settings Refusal → (print : Settings → Outcome) (out : List ℕ) → Outcome
by_read (Ok s) print out = print s
by_read (Err r) print out = refusal r.number r.place out

module _ (P : Settings → Printable) where
  unfoldable pub print_by : (bytes text words out : List ℕ) → Outcome
  print_by bytes text words out = by_read (settings_in bytes) (λ s. print_table (P s) text words out) out

  -- the contract of a print by the bytes of settings: its answer r and the output afterwards
  abbrev pub AnsweredBy : (bytes text words out : List ℕ) → Result ℕ PrintByError → (out' : List ℕ) → Type 0
  AnsweredBy bytes text words out r out' = outcome_by r out' ≡ print_by bytes text words out

-- The contract of `print_expression_by`.
abbrev pub PrintAnsweredBy : (bytes text words : List ℕ) (indent : ℕ) (out : List ℕ) → Result ℕ PrintByError → (out' : List ℕ) → Type 0
PrintAnsweredBy bytes text words indent out r out' = AnsweredBy (λ s. expressions s text indent) bytes text words out r out'

-- The contract of `print_program_by`.
abbrev pub ProgramAnsweredBy : (bytes text words out : List ℕ) → Result ℕ PrintByError → (out' : List ℕ) → Type 0
ProgramAnsweredBy bytes text words out r out' = AnsweredBy (λ s. programs s text) bytes text words out r out'
