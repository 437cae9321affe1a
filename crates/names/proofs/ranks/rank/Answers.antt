-- `ranks::rank` meets its contract: the first i spans have their numbers.
use Rattle.std.proofs.Common.{arith}
use Rattle.names.specs.RankLaws.{ranking-none, ranking-first, ranking-again}
use Rattle.names.proofs.ranks.rank.Goals as goal
use Rattle.names.proofs.ranks.rank.Goals.{then-first-i, else-first-i}

pub loop-i-init : goal.loop-i-init
loop-i-init c = ranking-none _ _

pub loop-i-preserved : goal.loop-i-preserved
loop-i-preserved c =
    elim c.if-first-i.branch [
      | then-first-i w ↦ ranking-first _ _ c.loop-i.i _ _ c.from-first.result _ _ c.loop-i.invariant (omega arith) (omega arith) c.from-first.ensures (omega arith) w.classes-is w.count-is
      | else-first-i w ↦ ranking-again _ _ c.loop-i.i _ _ c.from-first.result _ _ c.loop-i.invariant (omega arith) (omega arith) c.from-first.ensures w.if-first-i.false w.classes-is w.count-is
    ]
