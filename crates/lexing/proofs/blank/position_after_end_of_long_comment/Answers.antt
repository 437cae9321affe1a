-- `blank::position_after_end_of_long_comment` meets its contract, upstream's `start <= len <= end` in it (Comments: `position_at`).
use Rattle.std.proofs.Common.{arith}
use Rattle.lexing.proofs.Comments.{position_at}
use Rattle.lexing.proofs.blank.position_after_end_of_long_comment.Goals as goal

pub overflow_add-result : goal.overflow_add-result
overflow_add-result c =
    let p = position_at c.args.input.now c.args.start c.args.end (omega arith) (omega arith) c.in_ok-n.ensures in
    omega (arith, p.before-end)

pub returns : goal.returns
returns c = position_at _ _ _ (omega arith) (omega arith) c.in_ok-n.ensures
