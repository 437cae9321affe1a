-- `number_in` meets its contract: keys, first equal spans, ranks, and a list filled with them.
use Rattle.std.proofs.Common.{◌≡◌, length, take, ◌∙◌, arith, length-take-le}
use Rattle.names.specs.RankLaws.{first-cut, numbered}
use Rattle.names.specs.WriteLaws.{written-to, written_filled}
use Rattle.names.proofs.number_in.Goals as goal

pub returns : goal.returns
returns g c =
    let s = c.args.spans.now in
    let keys = c.first_equal.new.keys in
    let ranks = c.rank-count.new.classes in
    let long : length (take s.count keys) ≡ s.count = length-take-le s.count keys (omega arith) in
    numbered _ (length (take s.count keys)) _ ranks c.args.numbers.now _ (long ∙ s.sized.all)
    (c.rank-count.ensures _ (rw long (first-cut _ s.count keys (omega arith) c.first_equal.ensures.equal)) (omega (arith, long, s.sized.all)))
    (rw c.fill.ensures (written-to _ _ _ _ _ (omega (arith, long)) (written_filled ranks c.args.numbers.now)))
