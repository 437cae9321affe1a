-- `blank::long_comment` meets its contract. The loop's invariant is `Open` (Comments), with a law for each way of a turn.
use Rattle.std.proofs.Common.{arith}
use Rattle.lexing.proofs.Comments.{open_start, open_close, open_inner, open_more, open_next, open_never}
use Rattle.lexing.proofs.blank.long_comment.Goals as goal
use Rattle.lexing.proofs.blank.long_comment.Goals.{in-Some-Closing+else-depth-eq0, in-Some-Opening, in-None}

pub loop-i-init : goal.loop-i-init
loop-i-init c = open_start _

pub returns-then-depth-eq0 : goal.returns-then-depth-eq0
returns-then-depth-eq0 c = open_close c.loop-i.invariant (omega arith) (rw c.in-Some-Closing.field-0-is at c.in-Some-Closing.ensures) c.if-depth-eq0.true

pub loop-i-preserved : goal.loop-i-preserved
loop-i-preserved c =
    let o = c.loop-i.invariant in
    elim c.match-mark_at.branch [
      | in-Some-Closing+else-depth-eq0 w ↦ rw (w.before-is, w.depth-is) (open_inner o (omega arith) (rw w.in-Some-Closing.field-0-is at w.in-Some-Closing.ensures) w.if-depth-eq0.false)
      | in-Some-Opening w ↦ rw (w.before-is, w.depth-is) (open_more o (omega arith) (rw w.in-Some-Opening.field-0-is at w.in-Some-Opening.ensures))
      | in-None w ↦ rw (w.before-is, w.depth-is) (open_next o (omega arith) w.in-None.ensures)
    ]

pub returns : goal.returns
returns c = open_never c.loop-i.invariant (omega arith)
