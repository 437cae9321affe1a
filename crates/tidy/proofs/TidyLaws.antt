-- Laws of tidy's answer: a shorter table gives the same, and which refusals a print of what was read has.
use Rattle.std.specs.Prelude.{ℕ, ◌≤◌, ◌≡◌, refl, Bool, true, false, ◌&&◌, List, [], ◌++◌, length, drop, leb}
use Rattle.std.proofs.Common.{ap, sym, subst, ◌∙◌, arith, leb-true}
use Rattle.std.proofs.Math.Option.{none}
use Rattle.lexing.specs.RunLaws.{both_true}
use Rattle.lexing.specs.Answer.{pick}
use Rattle.tree.specs.Ast.{Program}
use Rattle.tree.specs.Words.{program_words}
use Rattle.tree.specs.Refused.{program-unrefused}
use Rattle.tree.specs.Limits.{most_text, most_words}
use Rattle.tree.specs.Check.{NameIn, program_refusal}
use Rattle.grammar.specs.Reading.{Outcome, words, refusal, read_program}
use Rattle.grammar.proofs.Tables.{gist, short, program-gist}
use Rattle.rendering.specs.Tables.{programs, program_print_of}
use Rattle.tree.specs.HeldLaws.{program-laws}
use Rattle.layout.specs.Settings.{defaults}
use Rattle.printing.specs.Entries.{most_print, Outcome as PrintOutcome, written, refusal as unprinted, stored, print_program}
use Rattle.printing.specs.EntryLaws.{prints}
use Rattle.tidy.specs.Tidy.{Answered, refusal_number, of_print, of_reading, tidied}

-- what tidy answers by the words alone
abbrev of_gist : List ℕ → List ℕ → Outcome → Answered
of_gist text out (words n ws) = of_print (print_program defaults text ws out)
of_gist text out (refusal number place table) = record { answer = refusal_number number place; output = out }

by-gist : (text out : List ℕ) (o : Outcome) → of_reading text out o ≡ of_gist text out (gist o)
by-gist text out (words n table) = refl
by-gist text out (refusal number place table) = refl

-- a table that is not too short gives tidy's answer
pub shorter : (text out : List ℕ) (m : ℕ) → m ≤ most_words → short (read_program text m) ≡ false
    → of_reading text out (read_program text m) ≡ tidied text out
unfolding tidied
shorter text out m h e =
    by-gist text out (read_program text m) ∙ ap (of_gist text out) (program-gist text m most_words h e) ∙ sym (by-gist text out (read_program text most_words))

-- a print of a table that the check accepts: at most 65,536 bytes, or refusal 8 and the output as it was
abbrev pub Limited : List ℕ → PrintOutcome → Type 0
Limited out (written n out') = n ≤ most_print
Limited out (unprinted number place out') = (number ≡ 8) × (place ≡ 0) × (out' ≡ out)

stored-limited : (print out : List ℕ) → Limited out (stored print out)
unfolding stored
stored-limited print out = by-fit (leb (length print) (length out) && leb (length print) most_print) refl
  where
    by-fit : (b : Bool) → (leb (length print) (length out) && leb (length print) most_print) ≡ b
        → Limited out (pick b (written (length print) (print ++ drop (length print) out)) (unprinted 8 0 out))
    by-fit true e = leb-true (length print) most_print (both_true (leb (length print) (length out)) (leb (length print) most_print) e).1
    by-fit false e = (refl, refl, refl)

-- a table's words are those of the program t, and its print is stored
pub record Stores (text ws out : List ℕ) : Type 0 where
  pub tree : Program (NameIn (length text))
  pub holds : program_words (λ n. n.span) tree [] ≡ ws
  pub stores : print_program defaults text ws out ≡ stored (program_print_of defaults text tree) out

module _ (text ws out : List ℕ) (short : length text ≤ most_text) (accepted : program_refusal ws (length text) ≡ none) where
  pub print-stores : Stores text ws out
  print-stores =
      let a = (program-unrefused ws (length text)).0 accepted in
      record { tree = a.1.0; holds = a.1.1; stores = prints (programs defaults text) text ws out (program-laws text) a.1.0 a.1.1 short a.0 (omega arith) }

  pub print-limited : Limited out (print_program defaults text ws out)
  print-limited = subst (Limited out) (sym print-stores.stores) (stored-limited _ out)
