-- What is proved of tidy (REFERENCE, "The entries"). `Tidied` is the contract of `tidy`, `Tidies` that of `tidied`: r is the answer, out the output
-- before the call and out' the output after it.
use Rattle.std.specs.Prelude.{ℕ, ◌≤◌, ◌<◌, List, Result}
use Rattle.std.proofs.Common.{sym, subst}
use Rattle.printing.specs.Entries.{most_print}
use Rattle.tidy.specs.Tidy.{Tidied}
use Rattle.tidy.specs.Cases.{Cases, Refusal}
use Rattle.tidy.specs.Answers.{number_of, Tidies}
use Rattle.tidy.specs.declared.error.TidyError.{TidyError}
use Rattle.tidy.proofs.CaseLaws.{tidied-cases, below-is-count, above-is-refusal}

module _ (text out : List ℕ) (r : ℕ) (out' : List ℕ) (a : Tidied text out r out') where
  -- One of three: the print of the program that the text reads as, before the output's old bytes, where it fits; a refusal of reading; refusal
  -- 8. Both refusals leave the output as it was.
  pub answer-cases : Cases text out (record { answer = r; output = out' })
  answer-cases = subst (Cases text out) (sym a) (tidied-cases text out)

  -- Below 2^32 the answer is a byte count of at most 65,536.
  pub counted : r < 4294967296 → r ≤ most_print
  counted = below-is-count text answer-cases

  -- From 2^32 on it is a refusal by 1, 2, 3, 4, 5, 8, 12 or 13 with a place of at most 32,768, and the output is as it was.
  pub refused : 4294967296 ≤ r → Refusal text out (record { answer = r; output = out' })
  refused = above-is-refusal text answer-cases

-- The same of `tidied`: the number that stands for its answer is tidy's.
module _ (text out : List ℕ) (r : Result ℕ TidyError) (out' : List ℕ) (a : Tidies text out r out') where
  pub tidied-number : Tidied text out (number_of r) out'
  tidied-number = a.answered

  pub tidied-answer-cases : Cases text out (record { answer = number_of r; output = out' })
  tidied-answer-cases = answer-cases text out (number_of r) out' a.answered

  pub tidied-counted : number_of r < 4294967296 → number_of r ≤ most_print
  tidied-counted = counted text out (number_of r) out' a.answered

  pub tidied-refused : 4294967296 ≤ number_of r → Refusal text out (record { answer = number_of r; output = out' })
  tidied-refused = refused text out (number_of r) out' a.answered
