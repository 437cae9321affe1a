use Prim.Native.Nat.{◌+◌, ◌-◌, ◌*◌}
use lib.ListN.{length}
use Rattle.tree.specs.Stack.{items}
use Rattle.tree.proofs.Walking.{Walking}
use Rattle.tree.proofs.walk.Table.walk.Given as goal

abbrev pub invariant-loop-kind : goal.invariant-loop-kind
invariant-loop-kind l = Walking l.self.text_len l.first l.self.words.now l.initial.counts l.initial.kinds l.top l.stack l.counts l.kinds l.at

abbrev pub decreases-loop-kind : goal.decreases-loop-kind
decreases-loop-kind l = 2 * (length l.self.words.now - l.at) + length (items l.stack)
