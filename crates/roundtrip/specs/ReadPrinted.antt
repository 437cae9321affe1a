-- The table of a text that was read is refused by its print neither by 6 nor by 7: one law over the kind of tree.
use Rattle.std.specs.Prelude.{ℕ, ◌≤◌, ◌≡◌, List, length, take, Result}
use Rattle.std.proofs.Math.Option.{none}
use Rattle.std.proofs.Common.{lit≤}
use Rattle.tree.specs.Check.{oversized, misfitting}
use Rattle.tree.specs.Clash.{impossible}
use Rattle.tree.specs.Limits.{most_text}
use Rattle.grammar.specs.Reading.{words, read_program}
use Rattle.grammar.proofs.Refusals.Entries.{program-held}
use Rattle.grammar.proofs.Claims as Grammar
use Rattle.rendering.specs.declared.PrintError.{PrintError}
use Rattle.rendering.specs.Errors.{Refuses}
use Rattle.layout.specs.declared.settings.Settings.{Settings}
use Rattle.rendering.specs.Tables.{most_indent, Printable, Within, programs}
use Rattle.printing.specs.Entries.{Answered, ProgramAnswered}
use Rattle.tree.specs.HeldLaws.{Lawful, program-laws}
use Rattle.printing.specs.Claims as Printer

-- an answer that is no refusal by 6 and none by 7
pub record Unrefused (r : Result ℕ PrintError) : Type 0 where
  pub within : Refuses r oversized 0 → ⊥
  pub one-tree : (place : ℕ) → Refuses r misfitting place → ⊥

-- a table that the check accepts, over a text that is not too long
pub accepted-unrefused : (P : Printable) (L : Lawful P.kind) (text table out out' : List ℕ) (r : Result ℕ PrintError) → Answered P text table out r out' → length text ≤ most_text → P.indent ≤ most_indent
    → P.kind.refused table ≡ none → Unrefused r
accepted-unrefused P L text table out out' r a t i e =
    let w : Within P text table = record { text-fits = t; words-fit = ((P.kind.unrefused table).0 e).0; indent-fits = i } in
    record {
      within = λ h. (Printer.refused-6 P L text table out r out' a).0 h w;
      one-tree = λ place h. let g = ((Printer.refused-7-place P L text table out r out' a place).0 h).1 in impossible cc;
    }

-- the table of a program
pub program-unrefused : (settings : Settings) (text : List ℕ) (n k : ℕ) (table out out' : List ℕ) (r : Result ℕ PrintError) → read_program text n ≡ words k table → ProgramAnswered settings text (take k table) out r out'
    → Unrefused r
program-unrefused settings text n k table out out' r e a =
    accepted-unrefused (programs settings text) (program-laws text) text (take k table) out out' r a
    (program-held text n e).short (lit≤ tt) (Grammar.read-program-accepted text n k table e)
