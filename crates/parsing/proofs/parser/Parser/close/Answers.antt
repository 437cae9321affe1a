use Rattle.std.proofs.Common.{refl, arith}
use Rattle.parsing.proofs.Places.{later-same, empty-closed, closed-holds}
use Rattle.parsing.proofs.parser.Parser.close.Goals as goal

pub returns-then-list-eq-EMPTY : goal.returns-then-list-eq-EMPTY
returns-then-list-eq-EMPTY c =
    record {
      later = later-same;
      at_same = refl;
      grows = omega arith;
      stays = λ _. refl;
      below = omega (arith, c.args.self.now.above);
      holds = λ x. empty-closed c.if-list-eq-EMPTY.true x;
    }

pub returns : goal.returns
returns c =
    let m = c.push.ensures in
    record {
      later = m.made.later;
      at_same = m.made.at_same;
      grows = omega (arith, m.made.top);
      stays = λ e. absurd (c.if-list-eq-EMPTY.false e);
      below = omega (arith, m.made.last);
      holds = λ x. closed-holds m x;
    }
