-- The errors of tidy, by the numbers and places of their refusals (REFERENCE, "The refusals").
use Rattle.std.specs.Prelude.{List, ℕ, ◌++◌, codes}
use Rattle.std.specs.Fmt.{decimal}
use Rattle.lexing.specs.CodeAnswers.{number}
use Rattle.rendering.specs.Errors.{print_error_number, print_error_place}
use Rattle.tidy.specs.declared.error.TidyError.{TidyError}
use Rattle.tidy.specs.declared.error.TidyError.TheVariants.{Read, Print}

abbrev pub error_number : TidyError → ℕ
error_number (Read r) = number r.reason
error_number (Print e) = print_error_number e

abbrev pub error_place : TidyError → ℕ
error_place (Read r) = r.place
error_place (Print e) = print_error_place e

-- how a refusal is shown
abbrev pub error_text : TidyError → List ℕ
error_text e = codes "refused " ++ (decimal (error_number e) ++ (codes " at " ++ decimal (error_place e)))
