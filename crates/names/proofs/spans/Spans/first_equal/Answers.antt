-- `Spans::first_equal` meets its contract: the classes by the keys, and then by those classes and the lengths.
use Rattle.std.proofs.Common.{arith}
use Rattle.names.specs.EqualLaws.{first-equal}
use Rattle.names.proofs.spans.Spans.first_equal.Goals as goal

pub returns-clause-equal : goal.returns-clause-equal
returns-clause-equal g c =
    first-equal _ _ _ _ _ _ _ (record { sized = c.args.self.now.sized; keyed = c.requires; enough = omega arith }) c.pair_classes.ensures c.lengths.ensures _ c.pair_classes-2.ensures
