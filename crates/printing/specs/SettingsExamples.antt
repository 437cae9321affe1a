-- Closed examples: prints by settings, and by their bytes, over the text `ab`; and the order of refusals.
use Rattle.std.specs.Prelude.{ℕ, ◌+◌, ◌≤◌, ◌≡◌, refl, false, List, [], ◌∷◌, Ok, Err}
use Rattle.std.proofs.Common.{lit≤, sym, ◌∙◌}
use Rattle.lexing.specs.Bytes.{bytes}
use Rattle.tree.specs.Ast.{Expr, IdExpr, OperatorExpr, IfThenElse, LogicalAnd, no_exprs, ◌then◌, Program}
use Rattle.tree.specs.Check.{NameIn, run, check_program, program_refusal}
use Rattle.tree.specs.Resolve.{part}
use Rattle.tree.specs.Held.{held_by, held_checked}
use Rattle.tree.specs.HeldLaws.{expression-laws, program-laws}
use Rattle.layout.specs.declared.settings.Form.TheVariants.{OneLine, Broken}
use Rattle.layout.specs.declared.settings.Settings.{Settings}
use Rattle.layout.specs.Examples.{computed}
use Rattle.layout.specs.ProgramExamples.{program-computed}
use Rattle.layout.specs.Settings.{defaults, one_line}
use Rattle.settings.specs.declared.error.RecordError.TheVariants.{Layout, Version, Content}
use Rattle.settings.specs.declared.error.ContentError.TheVariants.{Step}
use Rattle.settings.specs.Fields.{misplaced}
use Rattle.settings.specs.Records.{settings_of, settings_in}
use Rattle.rendering.specs.declared.PrintError.TheVariants.{Misfit}
use Rattle.rendering.specs.Tables.{expressions, programs, print_of, program_print_of}
use Rattle.printing.specs.Entries.{Outcome, written, refusal, stored, print_table, print_expression, print_program, PrintAnswered, ProgramAnswered}
use Rattle.printing.specs.EntryLaws.{prints}
use Rattle.printing.specs.BySettings.{print_by_refusal, print_by, PrintAnsweredBy, ProgramAnsweredBy}
use Rattle.printing.specs.declared.error.PrintByError.TheVariants.{Settings as OfSettings, Print as OfPrint}

abbrev text : List ℕ
text = bytes "ab"

abbrev three : Settings
three = record { step = 3; form = Broken }

abbrev three-on-one-line : Settings
three-on-one-line = record { step = 3; form = OneLine }

abbrev name : (at : ℕ) → at + 1 ≤ 2 → Expr (NameIn 2)
name at h = IdExpr (record { span = record { start = at; len = 1 }; inside = h }) false

abbrev a : Expr (NameIn 2)
a = name 0 (lit≤ tt)

abbrev b : Expr (NameIn 2)
b = name 1 (lit≤ tt)

-- `if a b else a`
abbrev conditional : Expr (NameIn 2)
conditional = OperatorExpr IfThenElse (◌then◌ a (◌then◌ b (◌then◌ a no_exprs)))

abbrev conditional-words : List ℕ
conditional-words = 5 ∷ 1 ∷ 1 ∷ 4 ∷ 0 ∷ 1 ∷ 0 ∷ 1 ∷ 4 ∷ 1 ∷ 1 ∷ 0 ∷ 1 ∷ 4 ∷ 0 ∷ 1 ∷ 0 ∷ 0 ∷ []

-- the axiom `a && b`
abbrev axiom-program : Program (NameIn 2)
axiom-program =
    record {
      types = [];
      taggers = [];
      functions = [];
      axioms = record { explains = []; expr = OperatorExpr LogicalAnd (◌then◌ a (◌then◌ b no_exprs)) } ∷ [];
      procedures = [];
    }

abbrev axiom-words : List ℕ
axiom-words = 0 ∷ 0 ∷ 0 ∷ 1 ∷ 0 ∷ 5 ∷ 4 ∷ 1 ∷ 4 ∷ 0 ∷ 1 ∷ 0 ∷ 1 ∷ 4 ∷ 1 ∷ 1 ∷ 0 ∷ 0 ∷ 0 ∷ 0 ∷ []

-- an output
abbrev room : List ℕ
room = bytes "~~~~~~~~~~~~~~~~~~~~~~~~~~~~~~~~~~~~"

-- ---- by settings

-- the output with the conditional on broken lines from indent 2 on, and with the program, by a step of 3
abbrev broken : List ℕ
broken = bytes "if a\n     b\n  else\n     a~~~~~~~~~~~"

abbrev broken-program : List ℕ
broken-program = bytes "// B3 program\n\naxiom\n   a &&\n   b\n~~"

broken-lines : print_expression three text conditional-words 2 room ≡ written 25 broken
unfolding computed print_of stored part
broken-lines = prints (expressions three text 2) text conditional-words room (expression-laws text) conditional refl (lit≤ tt) (lit≤ tt) (lit≤ tt)

-- one line from every start indent
one-line : print_expression three-on-one-line text conditional-words 2 room ≡ written 13 (bytes "if a b else a~~~~~~~~~~~~~~~~~~~~~~~")
unfolding computed print_of stored part
one-line = prints (expressions three-on-one-line text 2) text conditional-words room (expression-laws text) conditional refl (lit≤ tt) (lit≤ tt) (lit≤ tt)

default-lines : print_expression defaults text conditional-words 2 room ≡ written 23 (bytes "if a\n    b\n  else\n    a~~~~~~~~~~~~~")
unfolding computed print_of stored part
default-lines = prints (expressions defaults text 2) text conditional-words room (expression-laws text) conditional refl (lit≤ tt) (lit≤ tt) (lit≤ tt)

default-one-line : print_expression one_line text conditional-words 0 room ≡ written 13 (bytes "if a b else a~~~~~~~~~~~~~~~~~~~~~~~")
unfolding computed print_of stored part
default-one-line = prints (expressions one_line text 0) text conditional-words room (expression-laws text) conditional refl (lit≤ tt) (lit≤ tt) (lit≤ tt)

default-axiom : print_program defaults text axiom-words room ≡ written 32 (bytes "// B3 program\n\naxiom\n  a &&\n  b\n~~~~")
unfolding program-computed program_print_of stored part
default-axiom = prints (programs defaults text) text axiom-words room (program-laws text) axiom-program refl (lit≤ tt) (lit≤ tt) (lit≤ tt)

broken-axiom : print_program three text axiom-words room ≡ written 34 broken-program
unfolding program-computed program_print_of stored part
broken-axiom = prints (programs three text) text axiom-words room (program-laws text) axiom-program refl (lit≤ tt) (lit≤ tt) (lit≤ tt)

one-line-axiom : print_program three-on-one-line text axiom-words room ≡ written 31 (bytes "// B3 program\n\naxiom\n   a && b\n~~~~~")
unfolding program-computed program_print_of stored part
one-line-axiom = prints (programs three-on-one-line text) text axiom-words room (program-laws text) axiom-program refl (lit≤ tt) (lit≤ tt) (lit≤ tt)

-- ---- by their bytes

-- step 3 on broken lines, and the same of another version
abbrev three-bytes : List ℕ
three-bytes = 1 ∷ 0 ∷ 1 ∷ 1 ∷ 2 ∷ 0 ∷ 1 ∷ 3 ∷ 3 ∷ 0 ∷ 1 ∷ 1 ∷ []

abbrev of-version-2 : List ℕ
of-version-2 = 1 ∷ 0 ∷ 1 ∷ 2 ∷ 2 ∷ 0 ∷ 1 ∷ 3 ∷ 3 ∷ 0 ∷ 1 ∷ 1 ∷ []

abbrev expression-by : (bytes text words : List ℕ) (indent : ℕ) (out : List ℕ) → Outcome
expression-by bytes text words indent out = print_by (λ s. expressions s text indent) bytes text words out

abbrev program-by : (bytes text words out : List ℕ) → Outcome
program-by bytes text words out = print_by (λ s. programs s text) bytes text words out

by-settings : expression-by three-bytes text conditional-words 2 room ≡ print_expression three text conditional-words 2 room
unfolding print_by settings_in settings_of misplaced
by-settings = refl

program-by-settings : program-by three-bytes text axiom-words room ≡ print_program three text axiom-words room
unfolding print_by settings_in settings_of misplaced
program-by-settings = refl

-- settings are refused before the start indent, the table and the output are
unread : expression-by [] text [] 256 [] ≡ refusal 9 0 []
unfolding print_by settings_in misplaced
unread = refl

another-version : program-by of-version-2 text [] [] ≡ refusal 10 0 []
unfolding print_by settings_in misplaced
another-version = refl

step-past : expression-by (1 ∷ 0 ∷ 1 ∷ 1 ∷ 2 ∷ 0 ∷ 1 ∷ 9 ∷ 3 ∷ 0 ∷ 1 ∷ 1 ∷ []) text conditional-words 2 room ≡ refusal 11 7 room
unfolding print_by settings_in settings_of misplaced
step-past = refl

-- by settings that are read 6, 7 and 8 are refused as ever
indent-past : expression-by three-bytes text [] 256 [] ≡ refusal 6 0 []
unfolding print_by settings_in settings_of misplaced print_table held_by
indent-past = refl

no-tree : program-by three-bytes text [] [] ≡ refusal 7 0 []
unfolding print_by settings_in settings_of misplaced print_table held_by held_checked program_refusal check_program run
no-tree = refl

no-room : program-by three-bytes text axiom-words [] ≡ refusal 8 0 []
unfolding program-computed print_by settings_in settings_of misplaced program_print_of stored part
no-room = prints (programs three text) text axiom-words [] (program-laws text) axiom-program refl (lit≤ tt) (lit≤ tt) (lit≤ tt)

-- ---- errors

settings-error : print_by_refusal (OfSettings (Layout 3)) ≡ record { number = 9; place = 3 }
settings-error = refl

content-error : print_by_refusal (OfSettings (Content Step)) ≡ record { number = 11; place = 7 }
content-error = refl

print-error : print_by_refusal (OfPrint (Misfit 5)) ≡ record { number = 7; place = 5 }
print-error = refl

-- ---- the contracts, of the right answers

lines-answered : PrintAnswered three text conditional-words 2 room (Ok 25) broken
lines-answered = sym broken-lines

lines-answered-by : PrintAnsweredBy three-bytes text conditional-words 2 room (Ok 25) broken
lines-answered-by = sym (by-settings ∙ broken-lines)

axiom-answered : ProgramAnswered three text axiom-words room (Ok 34) broken-program
axiom-answered = sym broken-axiom

axiom-answered-by : ProgramAnsweredBy three-bytes text axiom-words room (Ok 34) broken-program
axiom-answered-by = sym (program-by-settings ∙ broken-axiom)

refused-by : ProgramAnsweredBy of-version-2 text [] room (Err (OfSettings Version)) room
unfolding print_by settings_in misplaced
refused-by = refl
