use Rattle.lexing.proofs.Comments.{Open}
use Rattle.lexing.proofs.blank.long_comment.Given as goal

abbrev pub invariant-loop-i : goal.invariant-loop-i
invariant-loop-i l = Open l.s l.before l.depth l.i
