-- Settings of prints: the indent step, upstream's `IndentAmount`, and the form of expressions. The types are those of src/.
use Rattle.std.specs.Prelude.{ℕ}
use Rattle.layout.specs.declared.format.ExprFormatOption.{ExprFormatOption}
use Rattle.layout.specs.declared.format.ExprFormatOption.TheVariants.{SingleLine, MultipleLines}
use Rattle.layout.specs.declared.settings.Form.{Form}
use Rattle.layout.specs.declared.settings.Form.TheVariants.{OneLine, Broken}
use Rattle.layout.specs.declared.settings.Settings.{Settings}

-- Upstream's: a step of 2, and broken lines where Printer.dfy has them.
abbrev pub defaults : Settings
defaults = record { step = 2; form = Broken }

-- its step, and every expression on one line
abbrev pub one_line : Settings
one_line = record { step = 2; form = OneLine }

-- the format of an expression whose lines start from an indent
abbrev pub format_at : Form → (indent : ℕ) → ExprFormatOption
format_at OneLine indent = SingleLine
format_at Broken indent = MultipleLines indent
