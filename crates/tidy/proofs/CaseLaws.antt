-- Tidy's answer is one of the three cases, and what the answer's size says.
use Rattle.std.specs.Prelude.{ℕ, ◌≤◌, ◌<◌, ◌≡◌, Bool, ◌&&◌, List, ◌++◌, length, take}
use Rattle.std.proofs.Common.{arith, sym, ◌∙◌}
use Rattle.std.proofs.Math.Path.{refl, subst}
use Rattle.std.proofs.Math.Bool.{true, false, false≢true}
use Rattle.std.proofs.Math.ListN.{drop}
use Rattle.std.proofs.Math.Dec.{leb}
use borrow.Author.Tests.{leb-true, le-leb}
use Rattle.lexing.specs.RunLaws.{both_true}
use Rattle.lexing.specs.Answer.{pick}
use Rattle.tree.specs.Ast.{Program}
use Rattle.tree.specs.Check.{NameIn}
use Rattle.tree.specs.Limits.{most_words}
use Rattle.grammar.specs.Reading.{Outcome, words, refusal, read_program}
use Rattle.grammar.proofs.Claims.{read-program-accepted}
use Rattle.grammar.proofs.Refusals.Entries.{Held, refusal-numbered, refusal-inside, program-refused, program-held}
use Rattle.rendering.specs.Errors.{print_too_long}
use Rattle.printing.specs.Entries.{most_print, written, refusal as unprinted, stored}
use Rattle.tidy.specs.Tidy.{Answered, of_print, of_reading, tidied}
use Rattle.tidy.specs.Cases.{ReadsAs, print_of, Cases, prints, refuses, overflows, of-reading, short-output, Refusal}
use Rattle.tidy.proofs.TidyLaws.{Stores, print-stores}

module _ (text : List ℕ) where
  module _ (out : List ℕ) where
    stored-cases : (t : Program (NameIn (length text))) → ReadsAs text t → Cases text out (of_print (stored (print_of text t) out))
    unfolding stored
    stored-cases t r = by-fit (leb (length (print_of text t)) (length out) && leb (length (print_of text t)) most_print) refl
      where
        by-fit : (b : Bool) → (leb (length (print_of text t)) (length out) && leb (length (print_of text t)) most_print) ≡ b
            → Cases text out (of_print (pick b (written (length (print_of text t)) (print_of text t ++ drop (length (print_of text t)) out)) (unprinted 8 0 out)))
        by-fit true e =
            let (a, b) = both_true (leb (length (print_of text t)) (length out)) (leb (length (print_of text t)) most_print) e in
            prints t r (record { in-output = leb-true (length (print_of text t)) (length out) a; in-print = leb-true (length (print_of text t)) most_print b })
        by-fit false e =
            overflows t r
            (λ f. false≢true (sym e ∙ rw (le-leb (length (print_of text t)) (length out) f.in-output, le-leb (length (print_of text t)) most_print f.in-print) refl))

    -- Tidy's answer is one of the three.
    pub tidied-cases : Cases text out (tidied text out)
    unfolding tidied
    tidied-cases = by-reading (read_program text most_words) refl
      where
        by-reading : (o : Outcome) → read_program text most_words ≡ o → Cases text out (of_reading text out o)
        by-reading (words k table) e =
            let h : Held text most_words k = program-held text most_words e in
            let s : Stores text (take k table) out = print-stores text (take k table) out h.short (read-program-accepted text most_words k table e) in
            subst (λ w. Cases text out (of_print w)) (sym s.stores)
            (stored-cases s.tree (record { count = k; table = table; read = e; holds = s.holds }))
        by-reading (refusal number place table) e = refuses (program-refused text most_words e) e

  -- an answer below 2^32 is a byte count of at most 65,536
  pub below-is-count : {out : List ℕ} {w : Answered} → Cases text out w → w.answer < 4294967296 → w.answer ≤ most_print
  below-is-count (prints t r f) h = f.in-print
  below-is-count (refuses {number} {place} l e) h = absurd (omega (arith, refusal-numbered l, h))
  below-is-count (overflows t r f) h = absurd (omega (arith, h))

  pub above-is-refusal : {out : List ℕ} {w : Answered} → Cases text out w → 4294967296 ≤ w.answer → Refusal text out w
  above-is-refusal (prints t r f) h = absurd (omega (arith, f.in-print, h))
  above-is-refusal (refuses {number} {place} l e) h =
      record { number = number; place = place; answered = refl; refusal = of-reading l; inside = refusal-inside l; kept = refl }
  above-is-refusal (overflows t r f) h = record { number = print_too_long; place = 0; answered = refl; refusal = short-output; inside = omega arith; kept = refl }
