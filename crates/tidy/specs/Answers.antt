-- What `tidied` answers: tidy's number, as a count or an error.
use Rattle.std.specs.Prelude.{ℕ, ◌≤◌, ◌≡◌, List, length, Result, Ok, Err}
use Rattle.tree.specs.Limits.{most_text}
use Rattle.grammar.specs.Reading.{read_program}
use Rattle.tidy.specs.Tidy.{Answered, refusal_number, of_reading, tidied}
use Rattle.tidy.specs.Errors.{error_number, error_place}
use Rattle.tidy.specs.declared.error.TidyError.{TidyError}

-- the number that stands for an answer
abbrev pub number_of : Result ℕ TidyError → ℕ
number_of (Ok n) = n
number_of (Err e) = refusal_number (error_number e) (error_place e)

-- the answer r and the output afterwards stand for w; a count is one of bytes of the output, and a refusal's place is one of a text
pub record Gives (w : Answered) (r : Result ℕ TidyError) (out' : List ℕ) : Type 0 where
  pub answered : record { answer = number_of r; output = out' } ≡ w
  pub counted : (n : ℕ) → r ≡ Ok n → n ≤ length out'
  pub placed : (e : TidyError) → r ≡ Err e → error_place e ≤ most_text

-- The contract of `tidied`: its answer r, and the output after the call.
abbrev pub Tidies : List ℕ → List ℕ → Result ℕ TidyError → List ℕ → Type 0
Tidies text out r out' = Gives (tidied text out) r out'

-- and of the same by way of a table of so many words
abbrev pub TidiesIn : List ℕ → ℕ → List ℕ → Result ℕ TidyError → List ℕ → Type 0
TidiesIn text m out r out' = Gives (of_reading text out (read_program text m)) r out'
