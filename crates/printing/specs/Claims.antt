-- What is proved of the prints. `Answered (expressions settings text indent)` is the contract of the prints of an expression (by `one_line` and
-- from 0 on `print_expression`, by `defaults` `print_expression_lines`), `Answered (programs settings text)` that of the prints of a program (by
-- `defaults` `print_program`): r is the answer, out the output before the call and out' the output after it. A tree over the text is one whose
-- names are of type `NameIn (length text)`, spans that lie inside it. `expression-laws` and `program-laws` (tree's HeldLaws) are the L of the two.
use Rattle.std.specs.Prelude.{ℕ, ◌≤◌, ◌≡◌, ◌↔◌, ◌⊎◌, List, ◌++◌, length, drop, Err}
use Rattle.std.proofs.Math.Option.{some}
use Rattle.tree.specs.Check.{Refusal, oversized, misfitting}
use Rattle.std.specs.Prelude.{Result, Ok}
use Rattle.layout.specs.declared.settings.Form.TheVariants.{OneLine}
use Rattle.layout.specs.declared.settings.Settings.{Settings}
use Rattle.layout.specs.Settings.{defaults, one_line}
use Rattle.settings.specs.Records.{settings_bytes, settings_in}
use Rattle.rendering.specs.declared.PrintError.{PrintError}
use Rattle.printing.specs.declared.error.PrintByError.{PrintByError}
use Rattle.tree.specs.HeldLaws.{Lawful}
use Rattle.rendering.specs.Tables.{most_indent, Printable, expressions, Within}
use Rattle.rendering.specs.Errors.{print_too_long, Refuses}
use Rattle.printing.specs.Entries.{print_table, Answered, Fits}
use Rattle.printing.specs.PrintCases as Cases
use Rattle.printing.specs.BySettings.{print_by, AnsweredBy}
use Rattle.printing.specs.ByCases as ByCases
use Rattle.printing.specs.ByCases.{RefusesBy, of_print}
use Rattle.printing.specs.LinePrints

module _ (P : Printable) (L : Lawful P.kind) (text words out : List ℕ) (r : Result ℕ PrintError) (out' : List ℕ) (a : Answered P text words out r out') where
  -- A table that holds the tree t, within the limits: where t's print fits, the answer is its length, and the output is the print followed by
  -- the old bytes.
  pub tree-printed : (t : P.kind.Tree) → P.kind.words t ≡ words → Within P text words → Fits (P.print t) out
      → (r ≡ Ok (length (P.print t))) × (out' ≡ P.print t ++ drop (length (P.print t)) out)
  tree-printed = Cases.tree-printed P L text words out r out' a

  -- Nothing else is written.
  pub written-tree : (n : ℕ) → r ≡ Ok n → Within P text words × ((t : P.kind.Tree) × ((P.kind.words t ≡ words) × Fits (P.print t) out))
  written-tree = Cases.written-tree P L text words out r out' a

  -- Refusal 6: exactly past the limits on the text, the words and the start indent.
  pub refused-6 : (Refuses r oversized 0) ↔ (Within P text words → ⊥)
  refused-6 = Cases.refused-6 P L text words out r out' a

  -- Refusal 7: exactly where the table holds no tree, and at the place of the check's refusal.
  pub refused-7 : ((place : ℕ) × (Refuses r misfitting place)) ↔ (Within P text words × ((t : P.kind.Tree) → P.kind.words t ≡ words → ⊥))
  refused-7 = Cases.refused-7 P L text words out r out' a

  pub refused-7-place : (place : ℕ)
      → (Refuses r misfitting place) ↔ (Within P text words × (P.kind.refused words ≡ some (record { number = misfitting; place = place })))
  refused-7-place = Cases.refused-7-place P L text words out r out' a

  -- Refusal 8: exactly where the print of the table's tree is longer than the output or than 65,536 bytes.
  pub refused-8 : (Refuses r print_too_long 0) ↔ (Within P text words × ((t : P.kind.Tree) × ((P.kind.words t ≡ words) × (Fits (P.print t) out → ⊥))))
  refused-8 = Cases.refused-8 P L text words out r out' a

  -- There is no other refusal, and each leaves the output as it was.
  pub refusal-keeps : (number place : ℕ) → Refuses r number place → ((Refuses r oversized 0) ⊎ (Refuses r misfitting place) ⊎ (Refuses r print_too_long 0)) × (out' ≡ out)
  refusal-keeps = Cases.refusal-keeps P L text words out r out' a

-- ---- by the bytes of settings

-- `AnsweredBy (λ s. expressions s text indent)` is the contract of `print_expression_by`, `AnsweredBy (λ s. programs s text)` that of
-- `print_program_by`.
module _ (P : Settings → Printable) (bytes text words out : List ℕ) (r : Result ℕ PrintByError) (out' : List ℕ) (a : AnsweredBy P bytes text words out r out') where
  -- Settings that are refused are refused so, whatever the table, and the output is as it was.
  pub settings-refused : (x : Refusal) → settings_in bytes ≡ Err x → (RefusesBy r x) × (out' ≡ out)
  settings-refused = ByCases.settings-refused P bytes text words out r out' a

  -- By settings that are read, what is answered is what a print by them answers.
  pub print-answered : (s : Settings) → settings_in bytes ≡ Ok s → Lawful (P s).kind
      → (q : Result ℕ PrintError) × ((r ≡ of_print q) × Answered (P s) text words out q out')
  print-answered = ByCases.print-answered P bytes text words out r out' a

  -- So where something is printed, it is a print by settings that are read.
  pub printed-by : (n : ℕ) → r ≡ Ok n → (s : Settings) × ((settings_in bytes ≡ Ok s) × Answered (P s) text words out (Ok n) out')
  printed-by = ByCases.printed-by P bytes text words out r out' a

-- By the bytes of the default settings a print is that by the defaults.
pub print-by-default : (P : Settings → Printable) (text words out : List ℕ) → print_by P (settings_bytes defaults) text words out ≡ print_table (P defaults) text words out
print-by-default = ByCases.print-by-default

-- ---- on one line

-- By all settings of this form, and from every start indent within the limits, an expression's print is that by `one_line` and from 0 on.
pub print-on-line : (s : Settings) (text words : List ℕ) (indent : ℕ) (out : List ℕ) → s.form ≡ OneLine → indent ≤ most_indent
    → print_table (expressions s text indent) text words out ≡ print_table (expressions one_line text 0) text words out
print-on-line = LinePrints.print-on-line
