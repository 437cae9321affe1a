use Prim.Native.Nat.{◌-◌}
use lib.ListN.{length}
use Rattle.lexing.proofs.Returns.{Reached}
use Rattle.lexing.proofs.blank.blanks.Given as goal

abbrev pub invariant-loop-n : goal.invariant-loop-n
invariant-loop-n l = Reached l.s l.at

abbrev pub decreases-loop-n : goal.decreases-loop-n
decreases-loop-n l = length l.s - l.at
