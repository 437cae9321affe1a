-- Tidy (REFERENCE, "The entries"): a program is read with a table of 16,384 words and printed; the answer is one number.
use Rattle.std.specs.Prelude.{ℕ, ◌+◌, ◌*◌, ◌≡◌, List, take}
use Rattle.tree.specs.Limits.{most_words}
use Rattle.grammar.specs.Reading.{Outcome, words, refusal, read_program}
use Rattle.layout.specs.Settings.{defaults}
use Rattle.printing.specs.Entries.{Outcome as PrintOutcome, written, refusal as unprinted, print_program}

-- what tidy answers, and the output afterwards
pub record Answered : Type 0 where
  pub answer : ℕ
  pub output : List ℕ

-- a refusal as one number: its number times 2^32, plus its place
abbrev pub refusal_number : ℕ → ℕ → ℕ
refusal_number number place = number * 4294967296 + place

-- a print: the bytes written, or the refusal
abbrev pub of_print : PrintOutcome → Answered
of_print (written n out) = record { answer = n; output = out }
of_print (unprinted number place out) = record { answer = refusal_number number place; output = out }

-- a reading: the print of the words read, or the refusal, which leaves the output as it was
abbrev pub of_reading : List ℕ → List ℕ → Outcome → Answered
of_reading text out (words n table) = of_print (print_program defaults text (take n table) out)
of_reading text out (refusal number place table) = record { answer = refusal_number number place; output = out }

-- tidy of a text, with an output's bytes before the call
unfoldable pub tidied : List ℕ → List ℕ → Answered
tidied text out = of_reading text out (read_program text most_words)

-- The contract of `tidy`: its answer r, and the output after the call.
abbrev pub Tidied : List ℕ → List ℕ → ℕ → List ℕ → Type 0
Tidied text out r out' = record { answer = r; output = out' } ≡ tidied text out
