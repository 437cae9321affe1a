-- `entry::read` meets its contract, by those of `clear` and of `read_sized` (Outcomes).
use native.Mathlib.Omega.{arith}
use Rattle.reading.proofs.entry.Outcomes.{answered, answered-long}
use Rattle.reading.proofs.entry.read.Goals as goal

pub returns-then-text-gt-MOST_TEXT : goal.returns-then-text-gt-MOST_TEXT
returns-then-text-gt-MOST_TEXT c = rw c.new.ensures (answered-long c.args.whole _ _ _ c.if-text-gt-MOST_TEXT.true c.clear.ensures)

pub returns-then-text-le512 : goal.returns-then-text-le512
returns-then-text-le512 c = answered c.args.whole _ c.read_sized.ensures c.clear.auto.table (omega arith)

pub returns-then-text-le4096 : goal.returns-then-text-le4096
returns-then-text-le4096 c = answered c.args.whole _ c.read_sized-then-text-le4096.ensures c.clear.auto.table (omega arith)

pub returns-then-text-le12288 : goal.returns-then-text-le12288
returns-then-text-le12288 c = answered c.args.whole _ c.read_sized-then-text-le12288.ensures c.clear.auto.table (omega arith)

pub returns : goal.returns
returns c = answered c.args.whole _ c.read_sized-2.ensures c.clear.auto.table (omega arith)
