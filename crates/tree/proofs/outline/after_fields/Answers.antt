-- `outline::after_fields` meets its contract: what is left of the row leads to the same place.
use mathlib.Core.Path.{ap, ◌∙◌}
use Prim.Native.Nat.{ℕ}
use lib.ListN.{length, get_or}
use Rattle.tree.proofs.Outlines.{field-passed}
use Rattle.tree.proofs.outline.after_fields.Goals as goal

pub loop-preserved : goal.loop-preserved
loop-preserved c =
    let ends = c.args.ends.now in
    field-passed ends (length c.args.row.now) c.loop.index c.loop.next c.loop-test.true (c.item_or-next.ensures ∙ ap (λ (n : ℕ). get_or ends n 0) c.from.ensures) c.loop.invariant
