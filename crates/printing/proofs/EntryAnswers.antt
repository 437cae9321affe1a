-- What the entries answer: a print in a buffer handed to the output, and the refusals.
use Prim.Native.Nat.{ℕ, ◌≤◌, ◌<◌, min}
use native.Mathlib.Omega.{arith}
use mathlib.Core.Path.{◌≡◌, refl, sym, ap, ◌∙◌, subst}
use mathlib.Core.Bool.{Bool, true, false, ◌&&◌}
use mathlib.Core.List.{List, ◌++◌}
use lib.ListN.{length, take, drop}
use lib.Dec.{leb}
use borrow.Author.Tests.{leb-true, leb-false, le-leb, lt-leb}
use Rattle.tree.specs.Clash.{impossible}
use Rattle.lexing.specs.Answer.{pick}
use Rattle.lexing.specs.RunLaws.{pick-cases}
use Rattle.std.specs.Prelude.{Result, Ok, Err}
use Rattle.rendering.specs.declared.PrintError.{PrintError}
use Rattle.rendering.specs.declared.PrintError.TheVariants.{TooLong}
use Rattle.rendering.specs.Errors.{print_too_long, print_error_number, print_error_place}
use Rattle.tree.specs.Held.{Held, held, refused}
use Rattle.rendering.specs.Tables.{Printable, held_for}
use Rattle.rendering.specs.Render.{Made, Gives, Renders}
use Rattle.printing.specs.Entries.{most_print, Outcome, written, refusal, stored, print_held, print_table}
use Rattle.printing.specs.Delivery.{delivered}

-- ---- from a buffer to the output

module _ (print out : List ℕ) where
  -- where the output has room for it it is copied
  pub copied : {first : List ℕ} → length print ≤ length out → first ≡ print → written (length print) (first ++ drop (length print) out) ≡ delivered print out
  unfolding delivered
  copied h e = ap (λ (l : List ℕ). written (length print) (l ++ drop (length print) out)) e ∙ sym (simp (le-leb (length print) (length out) h))

  -- an output that is too short is refused
  pub too_short : length out < length print → refusal print_too_long 0 out ≡ delivered print out
  unfolding delivered
  too_short h = sym (simp (lt-leb (length print) (length out) h))

-- ---- what a buffer holds of a table's print

-- a print that is longer than the output or than every print
too_long : (n l : ℕ) → min l most_print < n → (leb n l && leb n most_print) ≡ false
too_long n l h = by-test (leb n l) refl
  where
    by-test : (v : Bool) → leb n l ≡ v → (v && leb n most_print) ≡ false
    by-test true e = let m = leb-true n l e in lt-leb n most_print (omega arith)
    by-test false e = refl

-- a print's length, where it is answered
made-length : {print b b' : List ℕ} {n : ℕ} → Made print b (Ok n) b' → (n ≡ length print) × (n ≤ length b)
made-length {print} {b} {n = n} m =
    pick-cases (leb (length print) (length b)) (sym m.answers)
    (λ t e. let l : n ≡ length print = cc in let h : length print ≤ length b = leb-true _ _ t in (l, omega arith))
    (λ t e. impossible cc)

module _ (P : Printable) (b b' : List ℕ) where
  module _ (out : List ℕ) (h : length b ≤ most_print) (k : min (length out) most_print ≤ length b) where
    -- a print in the buffer is stored
    print-stored : (n : ℕ) (x : Held P.kind.Tree) → Gives P b (Ok n) b' x → delivered (take n b') out ≡ print_held P x out
    unfolding delivered stored
    print-stored n (held t) m =
        let e : n ≡ length (P.print t) = (made-length m).0 in
        let l : n ≤ length b = (made-length m).1 in
        rw (m.bytes n refl, le-leb (length (P.print t)) most_print (omega arith)) (by-test (leb (length (P.print t)) (length out)))
      where
        by-test : (v : Bool) → pick v (written (length (P.print t)) (P.print t ++ drop (length (P.print t)) out)) (refusal print_too_long 0 out)
            ≡ pick (v && true) (written (length (P.print t)) (P.print t ++ drop (length (P.print t)) out)) (refusal print_too_long 0 out)
        by-test true = refl
        by-test false = refl
    print-stored n (refused number place) e = let f = e.answers in impossible cc

    -- a refusal is the print's
    print-refused : (error : PrintError) (x : Held P.kind.Tree) → Gives P b (Err error) b' x
        → refusal (print_error_number error) (print_error_place error) out ≡ print_held P x out
    unfolding stored
    print-refused error (held t) m =
        pick-cases (leb (length (P.print t)) (length b)) (sym m.answers)
        (λ v e. impossible cc)
        (λ v e. let l : length b < length (P.print t) = leb-false _ _ v in
        let s : error ≡ TooLong = cc in
        let f : refusal (print_error_number error) (print_error_place error) out ≡ refusal print_too_long 0 out = rw s in
        f ∙ sym (simp (too_long (length (P.print t)) (length out) (omega arith))))
    print-refused error (refused m q) e =
        let h = e.answers in
        let k : error ≡ e.error = cc in
        rw (k, e.numbered, e.placed)

-- ---- by what `render` ensures

module _ {P : Printable} {text words b b' : List ℕ} {r : Result ℕ PrintError} (x : Renders P text words b r b') where
  by_answer : {q : Result ℕ PrintError} → r ≡ q → Gives P b q b' (held_for P text words)
  by_answer e = subst (λ (q : Result ℕ PrintError). Gives P b q b' (held_for P text words)) e x.gives

  module _ (out : List ℕ) (h : length b ≤ most_print) (k : min (length out) most_print ≤ length b) where
    -- the first n bytes of the buffer are the print, and are handed over
    pub handed : {n : ℕ} {o : Outcome} → r ≡ Ok n → o ≡ delivered (take n b') out → o ≡ print_table P text words out
    unfolding print_table
    handed {n} e d = d ∙ print-stored P b b' out h k n (held_for P text words) (by_answer e)

    -- so is a refusal
    pub refused-too : {error : PrintError} → r ≡ Err error → refusal (print_error_number error) (print_error_place error) out ≡ print_table P text words out
    unfolding print_table
    refused-too {error} e = print-refused P b b' out h k error (held_for P text words) (by_answer e)
