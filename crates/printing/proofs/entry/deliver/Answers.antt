-- The print, where the output has room for it.
use Rattle.printing.proofs.EntryAnswers.{copied, too_short}
use Rattle.printing.proofs.entry.deliver.Goals as goal

pub returns-then-out-n : goal.returns-then-out-n
returns-then-out-n c = too_short c.args.print.now c.args.out.now c.if-out-n.true

pub returns : goal.returns
returns c = copied c.args.print.now c.args.out.now c.if-out-n.false c.copy_from_slice.ensures.after
