-- What a table holds for a print, by tree's laws of what it holds.
use Rattle.std.specs.Prelude.{ℕ, ◌≡◌, List, leb}
use Rattle.std.proofs.Common.{leb-true, le-leb}
use Rattle.tree.specs.Held.{held}
use Rattle.tree.specs.HeldLaws.{Lawful, Table}
use Rattle.tree.specs.HeldLaws
use Rattle.rendering.specs.Tables.{most_indent, Printable, held_for, Within}

module _ (P : Printable) (L : Lawful P.kind) (text words : List ℕ) where
  -- one that has a tree's words, within the limits, holds the tree
  pub holds : (t : P.kind.Tree) → P.kind.words t ≡ words → Within P text words → held_for P text words ≡ held t
  holds t e w = HeldLaws.holds P.kind text words L t e w.text-fits w.words-fit (le-leb _ _ w.indent-fits)

  -- every table is past the limits, or one whose words are no tree's, or holds a tree
  pub table : Table P.kind (Within P text words) words (held_for P text words)
  table =
      HeldLaws.table P.kind L (leb P.indent most_indent) text words (Within P text words)
      (λ w h. record { text-fits = w.text-fits; words-fit = w.words-fit; indent-fits = leb-true _ _ h })
      (λ w. (record { text-fits = w.text-fits; words-fit = w.words-fit }, le-leb _ _ w.indent-fits))
