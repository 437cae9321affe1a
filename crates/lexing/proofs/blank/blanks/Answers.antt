-- `blank::blanks` meets its contract. The loop's invariant is `Reached` (Returns), with a law for each way of a turn; the measure is what is left of the
-- text, and a turn that goes on passes at least one byte.
use native.Mathlib.Omega.{arith}
use Rattle.lexing.proofs.Returns.{reached-start, reached-end, reached-inside, reached-more, reached-open}
use Rattle.lexing.proofs.blank.blanks.Goals as goal

pub loop-n-init : goal.loop-n-init
loop-n-init c = reached-start _

pub returns-in-Ok-eq0 : goal.returns-in-Ok-eq0
returns-in-Ok-eq0 c = reached-end c.loop-n.invariant (rw c.in-Ok-eq0.field-0-test at c.in-Ok-eq0.ensures)

pub overflow_add-at : goal.overflow_add-at
overflow_add-at c = omega (arith, reached-inside c.loop-n.invariant c.in-Ok.ensures)

pub loop-n-smaller : goal.loop-n-smaller
loop-n-smaller c = let m = reached-more c.loop-n.invariant c.in-Ok.ensures c.in-Ok.n-test.1 in omega (arith, m.inside)

pub loop-n-preserved : goal.loop-n-preserved
loop-n-preserved c = reached-more c.loop-n.invariant c.in-Ok.ensures c.in-Ok.n-test.1

pub moved-requires : goal.moved-requires
moved-requires c = omega (arith, reached-inside c.loop-n.invariant c.in-Err.ensures)

pub returns-in-Err : goal.returns-in-Err
returns-in-Err c = rw c.moved.ensures (reached-open c.loop-n.invariant c.in-Err.ensures)
