-- Prints of expressions on one line: by all settings of that form, and from every start indent within the limits, they are the same.
use Rattle.std.specs.Prelude.{ℕ, ◌≤◌, ◌≡◌, List, [], length}
use Rattle.std.proofs.Common.{ap, ◌∙◌, le-leb}
use Rattle.tree.specs.Ast.{Expr}
use Rattle.tree.specs.Check.{NameIn}
use Rattle.layout.specs.declared.settings.Form.{Form}
use Rattle.layout.specs.declared.settings.Form.TheVariants.{OneLine}
use Rattle.layout.specs.declared.settings.Settings.{Settings}
use Rattle.layout.specs.PrintUtil.{Init}
use Rattle.layout.specs.Settings.{one_line, format_at}
use Rattle.layout.specs.Printer.{Expression}
use Rattle.layout.specs.LineLaws as line
use Rattle.rendering.specs.Tables.{most_indent, name_in, print_of, expressions, held_for}
use Rattle.printing.specs.Entries.{print_held, print_table}

-- of a tree
tree-on-line : (s : Settings) (text : List ℕ) (indent : ℕ) → s.form ≡ OneLine → (e : Expr (NameIn (length text)))
    → print_of s text indent e ≡ print_of one_line text 0 e
unfolding print_of
tree-on-line s text indent form e =
    ap (λ (f : Form). Expression (name_in text) s.step e Init (format_at f indent) []) form
    ∙ line.print-on-line (name_in text) s.step one_line.step e Init []

-- of a table
pub print-on-line : (s : Settings) (text words : List ℕ) (indent : ℕ) (out : List ℕ) → s.form ≡ OneLine → indent ≤ most_indent
    → print_table (expressions s text indent) text words out ≡ print_table (expressions one_line text 0) text words out
unfolding print_table
print-on-line s text words indent out form h =
    let P = expressions one_line text 0 in
    rw (le-leb _ _ h) (λ i. print_held (record P { print = λ e. tree-on-line s text indent form e i }) (held_for P text words) out)
