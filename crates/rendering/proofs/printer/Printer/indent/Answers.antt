-- The place is filled with spaces.
use Rattle.std.proofs.Common.{◌≡◌, sym, ap, ◌∙◌, length, rules}
use lib.ListN.{replicate, length-replicate}
use Rattle.rendering.proofs.printer.Printer.indent.Goals as goal

pub returns : goal.returns
returns c =
    c.write.ensures (replicate c.args.size 32) (length-replicate c.args.size 32)
    (λ y z e r.
    let stored : r.left.now ≡ replicate (length r.shown.now) 32 = search rules in
    let n : length r.shown.now ≡ c.args.size = ap length r.shows ∙ e ∙ length-replicate c.args.size 32 in
    sym r.leaves ∙ stored ∙ ap (λ k. replicate k 32) n)
