use Rattle.std.proofs.Common.{length}
use Rattle.names.proofs.Chaining.{Chaining}
use Rattle.names.proofs.classes.Lists.chain.Given as goal

abbrev pub invariant-loop-i : goal.invariant-loop-i
invariant-loop-i g l = Chaining l.places.first.now (length l.places.first.now) l.places.most l.self.heads l.self.next l.i
