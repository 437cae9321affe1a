-- `Table::name_step` meets its contract: the length is missing, the name passes the text's end, or it fits.
use Prim.Native.Nat.{◌+◌}
use mathlib.Core.Path.{◌≡◌, refl}
use native.Mathlib.Omega.{arith}
use lib.ListN.{get_or}
use Rattle.tree.specs.Kind.{name, length_from}
use Rattle.tree.proofs.RunSteps.{second-missing, name-outside, name-fits}
use Rattle.tree.proofs.walk.Table.name_step.Goals as goal

pub returns-then-self-at-lt2 : goal.returns-then-self-at-lt2
returns-then-self-at-lt2 c =
    let a = c.args in
    let t = a.self.now in
    second-missing t.text_len t.words.now a.at name (length_from (get_or t.words.now a.at 0)) (omega arith) (omega arith) refl

pub returns-then-self-start : goal.returns-then-self-start
returns-then-self-start c =
    let a = c.args in
    let t = a.self.now in
    let start : c.get-start.result ≡ get_or t.words.now a.at 0 = c.get-start.ensures in
    let len : c.get-len.result ≡ get_or t.words.now (a.at + 1) 0 = c.get-len.ensures in
    name-outside t.text_len t.words.now a.at (omega arith) (omega arith)

pub returns : goal.returns
returns c =
    let a = c.args in
    let t = a.self.now in
    let start : c.get-start.result ≡ get_or t.words.now a.at 0 = c.get-start.ensures in
    let len : c.get-len.result ≡ get_or t.words.now (a.at + 1) 0 = c.get-len.ensures in
    name-fits t.text_len t.words.now a.at (omega arith) (omega arith)
