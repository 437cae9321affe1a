-- The prefix and the call, where there is content.
use Rattle.std.proofs.Common.{arith, refl}
use Rattle.rendering.specs.Sequences.{present}
use Rattle.rendering.proofs.printer.Printer.optional.Goals as goal

pub returns-then-word-ne-NO_MORE : goal.returns-then-word-ne-NO_MORE
returns-then-word-ne-NO_MORE g c =
    let n = c.if-word-ne-NO_MORE.true in
    present _ _ _ c.word.ensures (omega arith) c.put.ensures (record { shown = _; shows = refl; left = _; met = c.content.ensures; leaves = refl })
