use Rattle.std.proofs.Common.{arith}
use Rattle.parsing.proofs.Places.{later-next, choice-holds}
use Rattle.parsing.proofs.parser.Parser.choice.Goals as goal

pub returns : goal.returns
returns c =
    let a = c.push-head.ensures in
    let b = c.push-first.ensures in
    let d = c.push-second.ensures in
    let e = c.push-third.ensures in
    let f = c.push.ensures in
    record {
      made = record {
        later = later-next (later-next (later-next (later-next a.made.later b.made.later) d.made.later) e.made.later) f.made.later;
        last = f.made.last;
        top = omega arith;
        at_same = cc;
      };
      holds = choice-holds a b d e f;
    }
