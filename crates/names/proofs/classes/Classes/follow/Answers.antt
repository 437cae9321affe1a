-- `Classes::follow` meets its contract: `Following` is the loop's invariant.
use Rattle.std.proofs.Common.{arith}
use Rattle.names.proofs.Following.{follow-goes}
use Rattle.names.proofs.classes.Classes.follow.Goals as goal

pub loop-at-preserved : goal.loop-at-preserved
loop-at-preserved g c =
    follow-goes c.requires.listed c.loop-at.invariant c.loop-at-test.true c.from-key.ensures c.from.ensures c.from-at-in-loop-at.ensures (omega (arith, c.args.places.now.seconds c.loop-at.at)) (omega arith) c.class-class.ensures
