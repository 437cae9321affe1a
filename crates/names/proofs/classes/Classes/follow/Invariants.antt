use Rattle.std.proofs.Common.{length, ◌-◌}
use Rattle.names.proofs.Following.{Following}
use Rattle.names.proofs.classes.Classes.follow.Given as goal

abbrev pub invariant-loop-at : goal.invariant-loop-at
invariant-loop-at g l = Following l.places.first.now l.places.second.now (length l.places.first.now) l.v l.initial.self.seen l.initial.self.out l.self.seen l.self.out l.at

abbrev pub decreases-loop-at : goal.decreases-loop-at
decreases-loop-at g l = length l.places.first.now - l.at
