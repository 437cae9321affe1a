-- The three cases of tidy's answer, and what the answer's size says.
use Rattle.std.specs.Prelude.{ℕ, ◌≤◌, ◌≡◌, List, [], ◌++◌, length, drop, take}
use Rattle.tree.specs.Ast.{Program}
use Rattle.tree.specs.Check.{NameIn}
use Rattle.tree.specs.Limits.{most_text, most_words}
use Rattle.tree.specs.Words.{program_words}
use Rattle.grammar.specs.Reading.{words, refusal, read_program}
use Rattle.grammar.specs.ClaimTerms.{OfReading}
use Rattle.rendering.specs.Errors.{print_too_long}
use Rattle.rendering.specs.Tables.{program_print_of}
use Rattle.layout.specs.Settings.{defaults}
use Rattle.printing.specs.Entries.{Fits}
use Rattle.tidy.specs.Tidy.{Answered, refusal_number}

-- the text reads as the program t: the words in a table of 16,384 are t's
pub record ReadsAs (text : List ℕ) (t : Program (NameIn (length text))) : Type 0 where
  pub count : ℕ
  pub table : List ℕ
  pub read : read_program text most_words ≡ words count table
  pub holds : program_words (λ n. n.span) t [] ≡ take count table

module _ (text : List ℕ) where
  -- the print of a program over the text
  abbrev pub print_of : Program (NameIn (length text)) → List ℕ
  print_of t = program_print_of defaults text t

  -- what tidy answers
  pub data Cases (out : List ℕ) : Answered → Type 0 where
    -- the print, before the output's old bytes
    prints : (t : Program (NameIn (length text))) → ReadsAs text t → Fits (print_of t) out
        → Cases out (record { answer = length (print_of t); output = print_of t ++ drop (length (print_of t)) out })
    -- a refusal of reading: 1 to 5, 12 or 13
    refuses : {number place : ℕ} {table : List ℕ} → OfReading text number place → read_program text most_words ≡ refusal number place table
        → Cases out (record { answer = refusal_number number place; output = out })
    -- refusal 8
    overflows : (t : Program (NameIn (length text))) → ReadsAs text t → (Fits (print_of t) out → ⊥)
        → Cases out (record { answer = refusal_number print_too_long 0; output = out })

  -- the refusals of tidy, by number and place: those of a reading, and 8 at 0
  pub data OfTidy : ℕ → ℕ → Type 0 where
    of-reading : {number place : ℕ} → OfReading text number place → OfTidy number place
    short-output : OfTidy print_too_long 0

  -- an answer from 2^32 on is such a refusal, at a place of at most 32,768, and leaves the output as it was
  pub record Refusal (out : List ℕ) (w : Answered) : Type 0 where
    pub number : ℕ
    pub place : ℕ
    pub answered : w.answer ≡ refusal_number number place
    pub refusal : OfTidy number place
    pub inside : place ≤ most_text
    pub kept : w.output ≡ out
