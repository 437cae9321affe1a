-- What the printer wrote into the buffer is the print, where its place is inside the buffer.
use Rattle.std.proofs.Common.{refl, rules, sym}
use Rattle.rendering.proofs.EntryAnswers.{fits, passes}
use Rattle.rendering.proofs.entry.render_by.Goals as goal

pub returns-then-room-printer : goal.returns-then-room-printer
returns-then-room-printer c = passes c.args.root refl refl c.requires.0 c.requires.1 c.requires.2 c.print.ensures (let k = sym c.print.ensures.output in search rules) c.if-room-printer.true

pub returns : goal.returns
returns c = fits c.args.root refl refl c.requires.0 c.requires.1 c.requires.2 c.print.ensures (let k = sym c.print.ensures.output in search rules) c.if-room-printer.false
