-- What `render` does by settings, once over the root of a table's tree.
use Rattle.std.specs.Prelude.{ℕ, ◌≤◌, ◌≡◌, List, [], length, take, leb, Result, Ok, Err}
use Rattle.lexing.specs.Answer.{pick}
use Rattle.tree.specs.Limits.{most_words}
use Rattle.tree.specs.Check.{NameIn}
use Rattle.tree.specs.Tally.{expression_counts, program_counts}
use Rattle.tree.specs.Counted.{CountedExpr, CountedProgram}
use Rattle.rendering.specs.declared.PrintError.{PrintError}
use Rattle.rendering.specs.declared.PrintError.TheVariants.{TooLong}
use Rattle.rendering.specs.Errors.{Refuses}
use Rattle.rendering.specs.declared.Root.{Root}
use Rattle.rendering.specs.declared.printer.Source.{Source}
use Rattle.rendering.specs.declared.Root.TheVariants.{AnExpression, AProgram}
use Rattle.layout.specs.declared.settings.Settings.{Settings}
use Rattle.layout.specs.PrintUtil.{Init}
use Rattle.layout.specs.Settings.{format_at}
use Rattle.tree.specs.Held.{TableKind, expression_tables, program_tables, Held, held, refused}
use Rattle.rendering.specs.Tables.{Printable, print_of, program_print_of, held_for}
use Rattle.rendering.specs.Parts.{Parts}
use Rattle.rendering.specs.ExprParts.{an_expr}
use Rattle.rendering.specs.DeclParts.{a_program}

-- the tables of a root's trees, their prints, and its start indent
abbrev pub root_kind : (text : List ℕ) → Root → TableKind
root_kind text (AnExpression indent) = expression_tables (length text)
root_kind text AProgram = program_tables (length text)

abbrev pub root_print : Settings → (text : List ℕ) (root : Root) → (root_kind text root).Tree → List ℕ
root_print settings text (AnExpression indent) = print_of settings text indent
root_print settings text AProgram = program_print_of settings text

abbrev pub root_indent : Root → ℕ
root_indent (AnExpression indent) = indent
root_indent AProgram = 0

-- what is printed of a root: tables' `expressions` and `programs`
abbrev pub rooted : Settings → (text : List ℕ) → Root → Printable
rooted settings text root =
    record { kind = root_kind text root; print = root_print settings text root; indent = root_indent root }

-- the numbers of items that the check of a table notes
abbrev pub root_counts : Root → (table : List ℕ) (len : ℕ) (before : List ℕ) → List ℕ
root_counts (AnExpression indent) table len before = expression_counts table len before
root_counts AProgram table len before = program_counts table len before

-- the settings that a source is printed by
abbrev pub settings_in : Source → Settings
settings_in S = record { step = S.step; form = S.form }

-- a table's tree as a part of it
abbrev pub root_part : Root → Parts
root_part (AnExpression indent) S = an_expr Init (format_at S.form indent) S
root_part AProgram S = a_program S

module _ (text table counts : List ℕ) where
  -- the numbers of a tree's sequences
  abbrev pub RootCounted : (root : Root) → (root_kind text root).Tree → Type 0
  RootCounted (AnExpression indent) t = CountedExpr {N = NameIn (length text)} (λ n. n.span) counts (length table) t []
  RootCounted AProgram t = CountedProgram {N = NameIn (length text)} (λ n. n.span) counts (length table) t []

  -- what the print of a table needs: as many words as a checked table has at most, and the numbers of its tree
  pub record Numbered (root : Root) : Type 0 where
    pub few : length table ≤ most_words
    pub counted : (t : (root_kind text root).Tree) → (root_kind text root).words t ≡ table → RootCounted root t

-- a print stands at the start of the buffer b, which became b', and its length is answered; or it is longer than the buffer
pub record Made (print b : List ℕ) (r : Result ℕ PrintError) (b' : List ℕ) : Type 0 where
  pub answers : r ≡ pick (leb (length print) (length b)) (Ok (length print)) (Err TooLong)
  pub bytes : (n : ℕ) → r ≡ Ok n → take n b' ≡ print

-- the answer and the buffer by what the table holds
abbrev pub Gives : (P : Printable) (b : List ℕ) (r : Result ℕ PrintError) (b' : List ℕ) → Held P.kind.Tree → Type 0
Gives P b r b' (held t) = Made (P.print t) b r b'
Gives P b r b' (refused number place) = Refuses r number place

-- What `render` ensures of its answer r and the buffer b, which becomes b'. The buffer's bytes that no print occupies are free, after a refusal
-- all of them.
pub record Renders (P : Printable) (text words b : List ℕ) (r : Result ℕ PrintError) (b' : List ℕ) : Type 0 where
  pub gives : Gives P b r b' (held_for P text words)

-- the same by the tree whose words a checked table has
pub record Makes (P : Printable) (words b : List ℕ) (r : Result ℕ PrintError) (b' : List ℕ) : Type 0 where
  pub made : (t : P.kind.Tree) → P.kind.words t ≡ words → Made (P.print t) b r b'
