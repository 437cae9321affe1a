-- What is printed: the prints of expressions and programs over a text by settings, once for both. What a table holds over its text, a tree or refusal 6 or 7
-- (REFERENCE, "The refusals"), is tree's `held_by`.
use Rattle.std.specs.Prelude.{ℕ, ◌≤◌, List, [], length, leb}
use Rattle.tree.specs.Limits.{most_text, most_words}
use Rattle.tree.specs.Ast.{Expr, Program as Tree}
use Rattle.tree.specs.Resolve.{bytes_of}
use Rattle.tree.specs.Check.{NameIn}
use Rattle.tree.specs.Held.{TableKind, expression_tables, program_tables, Held, held_by}
use Rattle.layout.specs.declared.settings.Settings.{Settings}
use Rattle.layout.specs.PrintUtil.{Init}
use Rattle.layout.specs.Settings.{format_at}
use Rattle.layout.specs.Printer.{Expression}
use Rattle.layout.specs.Program.{Program}

-- the greatest start indent (REFERENCE, "Limits")
abbrev pub most_indent : ℕ
most_indent = 255

-- ---- what is printed

-- a kind of table, with the prints of its trees, and the start indent, 0 where there is none
pub record Printable : Type 1 where
  pub kind : TableKind
  pub print : kind.Tree → List ℕ
  pub indent : ℕ

-- a name as the part of the text that it occupies
abbrev pub name_in : (text : List ℕ) → NameIn (length text) → List ℕ
name_in text n = bytes_of text n.span

-- the print of an expression from a start indent on, and that of a program, without what follows
unfoldable pub print_of : Settings → (text : List ℕ) (indent : ℕ) → Expr (NameIn (length text)) → List ℕ
print_of settings text indent e = Expression (name_in text) settings.step e Init (format_at settings.form indent) []

unfoldable pub program_print_of : Settings → (text : List ℕ) → Tree (NameIn (length text)) → List ℕ
program_print_of settings text p = Program (name_in text) settings.step settings.form p []

-- the expressions over a text from a start indent on, and the programs
abbrev pub expressions : Settings → (text : List ℕ) (indent : ℕ) → Printable
expressions settings text indent =
    record { kind = expression_tables (length text); print = print_of settings text indent; indent = indent }

abbrev pub programs : Settings → (text : List ℕ) → Printable
programs settings text = record { kind = program_tables (length text); print = program_print_of settings text; indent = 0 }

-- ---- what is printed of a table

-- what it holds: a tree, or refusal 6 or 7; the start indent has a limit too
abbrev pub held_for : (P : Printable) (text words : List ℕ) → Held P.kind.Tree
held_for P text words = held_by P.kind (leb P.indent most_indent) text words

-- the limits that refusal 6 is about
pub record Within (P : Printable) (text words : List ℕ) : Type 0 where
  pub text-fits : length text ≤ most_text
  pub words-fit : length words ≤ most_words
  pub indent-fits : P.indent ≤ most_indent
