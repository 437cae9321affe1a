-- The place is filled with the bytes.
use Rattle.std.proofs.Common.{◌≡◌, refl, sym, ◌∙◌, rules}
use Rattle.rendering.proofs.printer.Printer.put.Goals as goal

pub returns : goal.returns
returns c = c.write.ensures _ refl (λ y z e r. let stored : r.left.now ≡ c.args.bytes.now = search rules in sym r.leaves ∙ stored)
