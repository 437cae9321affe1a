-- `Spans::take_keys` meets its contract: the keys of the first i spans are taken.
use Rattle.std.proofs.Common.{arith}
use Rattle.names.specs.SpanLaws.{keys-next}
use Rattle.names.proofs.spans.Spans.take_keys.Goals as goal

pub loop-i-preserved : goal.loop-i-preserved
loop-i-preserved g c = keys-next _ _ c.args.classes.now _ _ c.loop-i.i c.args.keys.now c.loop-i.keys _ (omega arith) (omega arith) c.loop-i.invariant c.take_key.ensures
