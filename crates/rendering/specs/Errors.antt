-- The errors of a print, by the numbers and places of its refusals (REFERENCE, "The refusals").
use Rattle.std.specs.Prelude.{ℕ, ◌≡◌, Result, Err}
use Rattle.tree.specs.Check.{oversized, misfitting}
use Rattle.tree.specs.declared.CheckError.{CheckError}
use Rattle.tree.specs.declared.CheckError.TheVariants.{Misfit as CheckMisfit, TooManyWords as CheckTooManyWords}
use Rattle.rendering.specs.declared.PrintError.{PrintError}
use Rattle.rendering.specs.declared.PrintError.TheVariants.{Oversized, Misfit, TooLong}

-- The number of a refusal of a print: it is longer than where it is to stand, or than a print may be.
abbrev pub print_too_long : ℕ
print_too_long = 8

abbrev pub print_error_number : PrintError → ℕ
print_error_number Oversized = oversized
print_error_number (Misfit place) = misfitting
print_error_number TooLong = print_too_long

abbrev pub print_error_place : PrintError → ℕ
print_error_place Oversized = 0
print_error_place (Misfit place) = place
print_error_place TooLong = 0

-- the error of a table that the check refuses
abbrev pub of_check : CheckError → PrintError
of_check (CheckMisfit place) = Misfit place
of_check CheckTooManyWords = Oversized

-- the answer is a refusal by this number at this place
pub record Refuses (r : Result ℕ PrintError) (number place : ℕ) : Type 0 where
  pub error : PrintError
  pub answers : r ≡ Err error
  pub numbered : print_error_number error ≡ number
  pub placed : print_error_place error ≡ place
