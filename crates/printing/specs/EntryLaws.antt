-- The print of a table by what it holds.
use Rattle.std.specs.Prelude.{◌≡◌, ℕ, ◌≤◌, List, length}
use Rattle.std.proofs.Common.{ap}
use Rattle.tree.specs.Limits.{most_text, most_words}
use Rattle.tree.specs.Held.{Held}
use Rattle.tree.specs.HeldLaws.{Lawful}
use Rattle.rendering.specs.Tables.{most_indent, Printable}
use Rattle.rendering.specs.TableLaws.{holds}
use Rattle.printing.specs.Entries.{stored, print_held, print_table}

-- within the limits the print of a table's tree is stored
pub prints : (P : Printable) (text words out : List ℕ) → Lawful P.kind → (t : P.kind.Tree) → P.kind.words t ≡ words
    → length text ≤ most_text → length words ≤ most_words → P.indent ≤ most_indent → print_table P text words out ≡ stored (P.print t) out
unfolding print_table
prints P text words out L t e ht hw hi =
    ap (λ (h : Held P.kind.Tree). print_held P h out) (holds P L text words t e (record { text-fits = ht; words-fit = hw; indent-fits = hi }))
