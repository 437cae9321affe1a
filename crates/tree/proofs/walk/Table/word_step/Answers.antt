-- `Table::word_step` meets its contract: the word has a row, or none.
use native.Mathlib.Omega.{arith}
use mathlib.Core.Path.{sym, ◌∙◌}
use Rattle.tree.specs.Check.{within}
use Rattle.tree.specs.KindCodes.{as_kind}
use Rattle.tree.proofs.RunSteps.{row_fits, row-misfits}
use Rattle.tree.proofs.walk.Table.word_step.Goals as goal

pub returns-in-Some : goal.returns-in-Some
returns-in-Some c =
    let a = c.args in
    let t = a.self.now in
    row_fits t.text_len t.words.now a.at (as_kind a.kind) _ c.get.result (omega arith) c.get.ensures (c.in-Some.ensures ∙ sym (c.requires.1 (within t.text_len) c.get.result))

pub returns-in-None : goal.returns-in-None
returns-in-None c =
    let a = c.args in
    let t = a.self.now in
    row-misfits t.text_len t.words.now a.at (as_kind a.kind) c.get.result (omega arith) c.get.ensures (c.in-None.ensures ∙ sym (c.requires.1 (within t.text_len) c.get.result))
