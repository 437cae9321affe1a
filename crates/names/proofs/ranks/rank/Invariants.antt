use Rattle.std.proofs.Common.{length}
use Rattle.names.specs.RankLaws.{Ranking}
use Rattle.names.proofs.ranks.rank.Given as goal

abbrev pub invariant-loop-i : goal.invariant-loop-i
invariant-loop-i l = Ranking l.initial.classes (length l.initial.classes) l.i l.count l.classes
