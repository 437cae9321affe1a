-- The limits of prints (REFERENCE, "Limits"), each from both of its sides: the start indent 255, and the print of 65,536 bytes.
use Rattle.std.specs.Prelude.{ℕ, ◌+◌, ◌≤◌, ◌<◌, ◌≡◌, Bool, true, false, ◌&&◌, length, drop, replicate}
use Rattle.std.proofs.Common.{arith, ◌∙◌, lit≤, lit<, length-append, length-drop, le-leb}
use Rattle.std.proofs.Math.Path.{refl, ap}
use mathlib.Core.List.{List, [], ◌∷◌, ◌++◌, append-nil}
use Rattle.std.proofs.Math.ListN.{length-take}
use Rattle.std.proofs.lemmas.List.{length-replicate}
use Rattle.std.proofs.lemmas.Bool.{lt-leb}
use Rattle.lexing.specs.Bytes.{bytes}
use Rattle.tree.specs.Ast.{Expr, IdExpr, OperatorExpr, Plus, no_exprs, ◌then◌}
use Rattle.tree.specs.Check.{NameIn}
use Rattle.tree.specs.Resolve.{part}
use Rattle.layout.specs.Settings.{defaults, one_line}
use Rattle.layout.specs.Examples.{computed}
use Rattle.tree.specs.Held.{held_by}
use Rattle.rendering.specs.Tables.{expressions, print_of}
use Rattle.printing.specs.Entries.{most_print, written, refusal, stored, print_table, print_expression}
use Rattle.tree.specs.HeldLaws.{expression-laws}
use Rattle.printing.specs.EntryLaws.{prints}

-- ---- the start indent

-- the words of the name `a` over the text `a`
abbrev name-words : List ℕ
name-words = 4 ∷ 0 ∷ 1 ∷ 0 ∷ []

indent-255 : print_expression defaults (bytes "a") name-words 255 (bytes "~~") ≡ written 1 (bytes "a~")
unfolding computed print_of stored part
indent-255 =
    prints (expressions defaults (bytes "a") 255) (bytes "a") name-words (bytes "~~") (expression-laws (bytes "a"))
    (IdExpr (record { span = record { start = 0; len = 1 }; inside = lit≤ tt }) false) refl (lit≤ tt) (lit≤ tt) (lit≤ tt)

indent-256 : print_expression defaults (bytes "a") name-words 256 (bytes "~~") ≡ refusal 6 0 (bytes "~~")
unfolding print_table held_by
indent-256 = refl

-- the limit stands on one line too
one-line-256 : print_expression one_line (bytes "a") name-words 256 (bytes "~~") ≡ refusal 6 0 (bytes "~~")
unfolding print_table held_by
one-line-256 = refl

-- ---- the bytes of a print

-- a print that fits is stored
fits : (print out : List ℕ) (n : ℕ) → length print ≡ n → n ≤ length out → n ≤ most_print → stored print out ≡ written n (print ++ drop n out)
unfolding stored
fits print out n e h k = rw e (simp (le-leb _ _ h, le-leb _ _ k))

-- one that is too long is not, whatever the output
too_long : (print out : List ℕ) (n : ℕ) → length print ≡ n → most_print < n → stored print out ≡ refusal 8 0 out
unfolding stored
too_long print out n e h = rw e (simp (lt-leb _ _ h, not-both))
  where
    not-both : (t : Bool) → (t && false) ≡ false
    not-both true = refl
    not-both false = refl

module _ (text : List ℕ) (full : length text ≡ 32768) where
  within : (n : ℕ) → n ≤ 32768 → 0 + n ≤ length text
  within n h = omega arith

  -- the first n bytes of the text as a name
  abbrev name : (n : ℕ) → n ≤ 32768 → Expr (NameIn (length text))
  name n h = IdExpr (record { span = record { start = 0; len = n }; inside = within n h }) false

  -- the sum of the whole text and of its first n bytes
  abbrev sum : (n : ℕ) → n ≤ 32768 → Expr (NameIn (length text))
  sum n h = OperatorExpr Plus (◌then◌ (name 32768 (lit≤ tt)) (◌then◌ (name n h) no_exprs))

  abbrev sum-words : ℕ → List ℕ
  sum-words n = 5 ∷ 10 ∷ 1 ∷ 4 ∷ 0 ∷ 32768 ∷ 0 ∷ 1 ∷ 4 ∷ 0 ∷ n ∷ 0 ∷ 0 ∷ []

  abbrev sum-print : ℕ → List ℕ
  sum-print n = part text 0 32768 ++ (bytes " + " ++ part text 0 n)

  sum-length : (n : ℕ) → n ≤ 32768 → length (sum-print n) ≡ 32771 + n
  unfolding part
  sum-length n h = simp (length-append, length-take, length-drop) (omega arith)

  -- the sum's print is stored
  sum-stored : (n : ℕ) → n ≤ 32768 → (out : List ℕ) → print_expression one_line text (sum-words n) 0 out ≡ stored (sum-print n) out
  unfolding computed print_of
  sum-stored n h out =
      prints (expressions one_line text 0) text (sum-words n) out (expression-laws text) (sum n h) refl (omega arith) (lit≤ tt) (lit≤ tt)
      ∙ ap (λ (p : List ℕ). stored p out) (simp append-nil)

  print-65536 : (out : List ℕ) → 65536 ≤ length out
      → print_expression one_line text (sum-words 32765) 0 out ≡ written 65536 (sum-print 32765 ++ drop 65536 out)
  print-65536 out h = sum-stored 32765 (lit≤ tt) out ∙ fits _ out 65536 (sum-length 32765 (lit≤ tt)) h (lit≤ tt)

  print-65537 : (out : List ℕ) → print_expression one_line text (sum-words 32766) 0 out ≡ refusal 8 0 out
  print-65537 out = sum-stored 32766 (lit≤ tt) out ∙ too_long _ out 65537 (sum-length 32766 (lit≤ tt)) (lit< tt)

-- there is such a text
full-text : length (replicate {A = ℕ} 32768 97) ≡ 32768
full-text = length-replicate {A = ℕ} 32768 97
