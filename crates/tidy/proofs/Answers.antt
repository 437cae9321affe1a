-- What the answers of the reading and of the print say of tidy's answer, case by case.
use Prim.Native.Nat.{ℕ, ◌≤◌}
use native.Mathlib.Omega.{arith}
use mathlib.Core.Path.{◌≡◌, refl, sym, ap, subst, ◌∙◌}
use mathlib.Core.Option.{none}
use mathlib.Core.List.{List}
use lib.ListN.{length, take, length-append}
use Rattle.std.specs.Prelude.{Result, Ok, Err}
use Rattle.lexing.specs.CodeAnswers.{number}
use Rattle.lexing.specs.declared.refusal.Refusal.{Refusal}
use Rattle.tree.specs.Clash.{impossible}
use Rattle.tree.specs.Limits.{most_text, most_words}
use Rattle.tree.specs.Check.{program_refusal}
use Rattle.grammar.specs.Reading.{words, refusal, read_program}
use Rattle.grammar.proofs.Refusals.Entries.{Held, refusal-inside, program-refused, program-held}
use Rattle.grammar.proofs.Claims.{read-program-accepted, program-table-long}
use Rattle.reading.specs.TreeRead.{ProgramAnswered}
use Rattle.rendering.specs.Errors.{print_error_number, print_error_place}
use Rattle.rendering.specs.Tables.{programs}
use Rattle.tree.specs.HeldLaws.{program-laws}
use Rattle.rendering.specs.declared.PrintError.{PrintError}
use Rattle.layout.specs.Settings.{defaults}
use Rattle.printing.specs.Entries.{written, refusal as unprinted, print_program}
use Rattle.printing.specs.Entries.{ProgramAnswered as ProgramPrinted}
use Rattle.printing.specs.Claims.{written-tree, tree-printed}
use Rattle.tidy.specs.Tidy.{Answered, of_print, of_reading, tidied}
use Rattle.tidy.specs.Answers.{Gives}
use Rattle.tidy.specs.declared.error.TidyError.{TidyError}
use Rattle.tidy.specs.declared.error.TidyError.TheVariants.{Read, Print}
use Rattle.tidy.proofs.TidyLaws.{shorter, Limited, print-limited}

-- the same of an equal answer
pub gives-same : {w v : Answered} {r : Result ℕ TidyError} {out : List ℕ} → w ≡ v → Gives w r out → Gives v r out
gives-same {r = r} {out = out} e g = subst (λ (x : Answered). Gives x r out) e g

-- ---- the print

module _ (text ws out : List ℕ) (r : Result ℕ PrintError) (out' : List ℕ) (a : ProgramPrinted defaults text ws out r out') where
  -- what is written is no longer than the output
  pub print-gives : {n : ℕ} → r ≡ Ok n → Gives (of_print (print_program defaults text ws out)) (Ok n) out'
  print-gives {n} e =
      let o : written n out' ≡ print_program defaults text ws out = rw e at a in
      let w = written-tree (programs defaults text) (program-laws text) text ws out r out' a n e in
      let p = tree-printed (programs defaults text) (program-laws text) text ws out r out' a w.1.0 w.1.1.0 w.0 w.1.1.1 in
      let h : ◌≡◌ {A = Result ℕ PrintError} (Ok n) (Ok (length ((programs defaults text).print w.1.0))) = sym e ∙ p.0 in
      let k : n ≡ length ((programs defaults text).print w.1.0) = cc in
      let l : n ≤ length out' = omega (arith, k, simp length-append at (ap length p.1)) in
      record {
        answered = ap of_print o;
        counted = λ m q. let z : m ≡ n = cc in omega arith;
        placed = λ e q. impossible cc;
      }

  pub print-fails : {e : PrintError} → r ≡ Err e → (length text ≤ most_text) × (program_refusal ws (length text) ≡ none)
      → Gives (of_print (print_program defaults text ws out)) (Err (Print e)) out'
  print-fails {e} q h =
      let o : unprinted (print_error_number e) (print_error_place e) out' ≡ print_program defaults text ws out = rw q at a in
      let l : Limited out (unprinted (print_error_number e) (print_error_place e) out') = subst (Limited out) (sym o) (print-limited text ws out h.0 h.1) in
      record {
        answered = ap of_print o;
        counted = λ m q. impossible cc;
        placed = λ x q. let z : x ≡ Print e = cc in rw z (omega (arith, l.1));
      }

-- ---- the reading, by way of a table of m words

module _ (text table : List ℕ) (m : ℕ) (read : Result ℕ Refusal) (a : ProgramAnswered text m read table) where
  module _ {n : ℕ} (e : read ≡ Ok n) where
    read-words : read_program text m ≡ words n table
    read-words = let o : words n table ≡ read_program text m = rw e at a in sym o

    held : Held text m n
    held = program-held text m read-words

    pub words-inside : n ≤ m
    words-inside = held.fits

    pub words-printable : (length text ≤ most_text) × (program_refusal (take n table) (length text) ≡ none)
    words-printable = (held.short, read-program-accepted text m n table read-words)

    pub words-answered : (out : List ℕ) → of_print (print_program defaults text (take n table) out) ≡ of_reading text out (read_program text m)
    words-answered out = sym (ap (of_reading text out) read-words)

  pub reading-fails : {e : Refusal} → read ≡ Err e → (out : List ℕ) → Gives (of_reading text out (read_program text m)) (Err (Read e)) out
  reading-fails {e} q out =
      let o : refusal (number e.reason) e.place table ≡ read_program text m = rw q at a in
      let l = program-refused text m (sym o) in
      record {
        answered = ap (of_reading text out) o;
        counted = λ k p. impossible cc;
        placed = λ x p. let z : x ≡ Read e = cc in rw z (refusal-inside l);
      }

-- ---- the size of the table

-- five words, and five for each of at most 512 bytes
pub small-tidied : (text out : List ℕ) → length text ≤ 512 → of_reading text out (read_program text 2565) ≡ tidied text out
small-tidied text out l = shorter text out 2565 (omega arith) (program-table-long text 2565 (omega arith) (omega arith))

pub any-tidied : (text out : List ℕ) → of_reading text out (read_program text most_words) ≡ tidied text out
unfolding tidied
any-tidied text out = refl
