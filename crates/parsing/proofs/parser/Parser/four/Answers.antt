use Rattle.std.proofs.Common.{arith}
use Rattle.parsing.proofs.Places.{later-next, four-holds}
use Rattle.parsing.proofs.parser.Parser.four.Goals as goal

pub returns : goal.returns
returns c =
    let a = c.pair-first.ensures in
    let b = c.pair-second.ensures in
    let d = c.pair.ensures in
    record {
      made = record {
        later = later-next (later-next a.made.later b.made.later) d.made.later;
        last = d.made.last;
        top = omega arith;
        at_same = cc;
      };
      holds = four-holds a b d;
    }
