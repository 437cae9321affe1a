-- Document 01's trials that are proved (REFERENCE, "Trials"). A row is a text, a table's length, and what reading an expression or a program
-- answers and leaves in the table; or a text, a table's words, the output, and what printing on one line answers and leaves in the output.
use Rattle.std.specs.Prelude.{◌≡◌, refl, ℕ, ◌+◌, ◌≤◌, false, List, [], ◌∷◌, length}
use Prim.Native.String.{String}
use Rattle.std.proofs.Common.{lit≤}
use Rattle.tree.specs.Ast.{Expr, IdExpr, Operator, OperatorExpr, no_exprs, ◌then◌, LogicalAnd, LogicalOr, Minus, Times, Div}
use Rattle.tree.specs.Words.{expr_words}
use Rattle.tree.specs.Check.{NameIn}
use Rattle.tree.specs.Resolve.{part}
use Rattle.lexing.specs.Bytes.{bytes}
use Rattle.grammar.specs.ProgramExamples.{computed as read-computed}
use Rattle.grammar.specs.Reading.{words, refusal, read_expression, read_program}
use Rattle.grammar.specs.Reading as Reading
use Rattle.layout.specs.Examples.{computed as print-computed}
use Rattle.rendering.specs.Tables.{expressions, print_of}
use Rattle.layout.specs.Settings.{one_line}
use Rattle.printing.specs.Entries.{written, stored, print_expression}
use Rattle.printing.specs.Entries as Printing
use Rattle.printing.specs.EntryLaws as Entry
use Rattle.tree.specs.HeldLaws.{expression-laws}

-- a row of the list
pub data Trial : Type 0 where
  reads : String → ℕ → Reading.Outcome → Trial
  reads_program : String → ℕ → Reading.Outcome → Trial
  prints : String → List ℕ → String → Printing.Outcome → Trial

-- each row is what the definitions give
abbrev pub Given : List Trial → Type 0
Given [] = Unit {0}
Given (reads s n o ∷ ts) = (read_expression (bytes s) n ≡ o) × Given ts
Given (reads_program s n o ∷ ts) = (read_program (bytes s) n ≡ o) × Given ts
Given (prints s ws out o ∷ ts) = (print_expression one_line (bytes s) ws 0 (bytes out) ≡ o) × Given ts

-- the list
abbrev pub trials : List Trial
trials =
    reads "a ==> b ==> c" 22 (words 22 (5 ∷ 3 ∷ 1 ∷ 4 ∷ 0 ∷ 1 ∷ 0 ∷ 1 ∷ 5 ∷ 3 ∷ 1 ∷ 4 ∷ 6 ∷ 1 ∷ 0 ∷ 1 ∷ 4 ∷ 12 ∷ 1 ∷ 0 ∷ 0 ∷ 0 ∷ []))  -- P1
    ∷ reads "a <== b <== c" 22 (words 22 (5 ∷ 3 ∷ 1 ∷ 4 ∷ 12 ∷ 1 ∷ 0 ∷ 1 ∷ 5 ∷ 3 ∷ 1 ∷ 4 ∷ 6 ∷ 1 ∷ 0 ∷ 1 ∷ 4 ∷ 0 ∷ 1 ∷ 0 ∷ 0 ∷ 0 ∷ []))  -- P2
    ∷ reads "a >= b" 13 (words 13 (5 ∷ 9 ∷ 1 ∷ 4 ∷ 5 ∷ 1 ∷ 0 ∷ 1 ∷ 4 ∷ 0 ∷ 1 ∷ 0 ∷ 0 ∷ []))  -- P3
    ∷ reads "a < b < c" 3 (refusal 2 6 (0 ∷ 0 ∷ 0 ∷ []))  -- P4
    ∷ reads "a && b || c" 3 (refusal 2 7 (0 ∷ 0 ∷ 0 ∷ []))  -- P5
    ∷ reads "a divx" 3 (refusal 2 2 (0 ∷ 0 ∷ 0 ∷ []))  -- P6
    ∷ reads "--5" 11 (words 11 (5 ∷ 16 ∷ 1 ∷ 5 ∷ 16 ∷ 1 ∷ 2 ∷ 0 ∷ 5 ∷ 0 ∷ 0 ∷ []))  -- P7
    ∷ prints "abc" (5 ∷ 11 ∷ 1 ∷ 4 ∷ 0 ∷ 1 ∷ 0 ∷ 1 ∷ 5 ∷ 11 ∷ 1 ∷ 4 ∷ 1 ∷ 1 ∷ 0 ∷ 1 ∷ 4 ∷ 2 ∷ 1 ∷ 0 ∷ 0 ∷ 0 ∷ []) "~~~~~~~~~~~~~~~~" (written 11 (bytes "a - (b - c)~~~~~"))  -- P8
    ∷ prints "abc" (5 ∷ 12 ∷ 1 ∷ 4 ∷ 0 ∷ 1 ∷ 0 ∷ 1 ∷ 5 ∷ 13 ∷ 1 ∷ 4 ∷ 1 ∷ 1 ∷ 0 ∷ 1 ∷ 4 ∷ 2 ∷ 1 ∷ 0 ∷ 0 ∷ 0 ∷ []) "~~~~~~~~~~~~~~~~" (written 11 (bytes "a * b div c~~~~~"))  -- P9
    ∷ prints "abc" (5 ∷ 4 ∷ 1 ∷ 5 ∷ 5 ∷ 1 ∷ 4 ∷ 0 ∷ 1 ∷ 0 ∷ 1 ∷ 4 ∷ 1 ∷ 1 ∷ 0 ∷ 0 ∷ 1 ∷ 4 ∷ 2 ∷ 1 ∷ 0 ∷ 0 ∷ []) "~~~~~~~~~~~~~~~~" (written 13 (bytes "(a || b) && c~~~"))  -- P10
    ∷ reads "a + 1" 14 (words 12 (5 ∷ 10 ∷ 1 ∷ 4 ∷ 0 ∷ 1 ∷ 0 ∷ 1 ∷ 2 ∷ 0 ∷ 1 ∷ 0 ∷ 0 ∷ 0 ∷ []))  -- P11
    ∷ reads_program "/* q" 6 (refusal 12 0 (0 ∷ 0 ∷ 0 ∷ 0 ∷ 0 ∷ 0 ∷ []))  -- P12
    ∷ []

-- the trees of the tables over `abc`
abbrev name : (at : ℕ) → at + 1 ≤ 3 → Expr (NameIn 3)
name at h = IdExpr (record { span = record { start = at; len = 1 }; inside = h }) false

abbrev two : Operator → Expr (NameIn 3) → Expr (NameIn 3) → Expr (NameIn 3)
two op a b = OperatorExpr op (◌then◌ a (◌then◌ b no_exprs))

abbrev a : Expr (NameIn 3)
a = name 0 (lit≤ tt)

abbrev b : Expr (NameIn 3)
b = name 1 (lit≤ tt)

abbrev c : Expr (NameIn 3)
c = name 2 (lit≤ tt)

printed : (e : Expr (NameIn 3)) (ws : List ℕ) → expr_words (λ n. n.span) e [] ≡ ws → length ws ≤ 16384
    → print_expression one_line (bytes "abc") ws 0 (bytes "~~~~~~~~~~~~~~~~") ≡ stored (print_of one_line (bytes "abc") 0 e) (bytes "~~~~~~~~~~~~~~~~")
printed e ws h l = Entry.prints (expressions one_line (bytes "abc") 0) (bytes "abc") ws (bytes "~~~~~~~~~~~~~~~~") (expression-laws (bytes "abc")) e h (lit≤ tt) l (lit≤ tt)

-- the theorem
pub trials-given : Given trials
unfolding read-computed print-computed print_of stored part
trials-given = (
  refl,
  (
    refl,
    (
      refl,
      (
        refl,
        (
          refl,
          (
            refl,
            (
              refl,
              (
                printed (two Minus a (two Minus b c)) _ refl (lit≤ tt),
                (
                  printed (two Times a (two Div b c)) _ refl (lit≤ tt),
                  (printed (two LogicalAnd (two LogicalOr a b) c) _ refl (lit≤ tt), (refl, (refl, tt))),
                ),
              ),
            ),
          ),
        ),
      ),
    ),
  ),
)
