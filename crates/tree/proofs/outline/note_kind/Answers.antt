-- `outline::note_kind` meets its contract: a second word has 0.
use native.Mathlib.Omega.{arith}
use Rattle.tree.proofs.Outlines.{noted_one, noted-two}
use Rattle.tree.proofs.outline.note_kind.Goals as goal

pub returns-then-second-next : goal.returns-then-second-next
returns-then-second-next c = noted-two c.args.at c.args.next c.args.kinds.now c.put.ensures c.from.ensures (omega arith) c.put-then-second-next.ensures

pub returns-else-second-next : goal.returns-else-second-next
returns-else-second-next c = noted_one c.args.at c.args.next c.args.kinds.now c.put.ensures c.from.ensures (omega arith)
