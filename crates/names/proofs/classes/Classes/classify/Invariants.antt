use Rattle.std.proofs.Common.{length}
use Rattle.names.proofs.Classifying.{Classifying}
use Rattle.names.proofs.classes.Classes.classify.Given as goal

abbrev pub invariant-loop-v : goal.invariant-loop-v
invariant-loop-v g l = Classifying l.places.first.now l.places.second.now (length l.places.first.now) l.self.seen l.self.out l.v
