-- `Table::next_step` meets its contract: no word is left, or a name, a natural, or one word stands there.
use native.Mathlib.Omega.{arith}
use Rattle.tree.specs.KindCodes.{as_kind}
use Rattle.tree.proofs.RunSteps.{step-missing}
use Rattle.tree.proofs.RowLaws.{one-word}
use Rattle.tree.proofs.walk.Table.next_step.Goals as goal

pub returns-then-self-at : goal.returns-then-self-at
returns-then-self-at c =
    let a = c.args in
    let t = a.self.now in
    step-missing t.text_len t.words.now a.at (as_kind a.kind) (omega arith)

pub returns-in-Name : goal.returns-in-Name
returns-in-Name c = rw c.in-Name.is c.name_step.ensures

pub returns-in-Natural : goal.returns-in-Natural
returns-in-Natural c = rw c.in-Natural.is (c.natural_step.ensures c.args.self.now.text_len)

pub word_step-requires : goal.word_step-requires
word_step-requires c = (omega arith, one-word c.args.kind c.in_default.not-Name c.in_default.not-Natural)

pub returns-in_default : goal.returns-in_default
returns-in_default c = c.word_step.ensures
