use Prim.Native.Nat.{◌-◌}
use mathlib.Core.Path.{◌≡◌}
use lib.ListN.{length}
use Rattle.tree.specs.Notes.{fields_end}
use Rattle.tree.proofs.outline.after_fields.Given as goal

abbrev pub invariant-loop : goal.invariant-loop
invariant-loop l = fields_end (length l.row - l.index) l.ends l.next ≡ fields_end (length l.row) l.ends l.first
