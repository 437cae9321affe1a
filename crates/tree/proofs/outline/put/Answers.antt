-- `outline::put` meets its contract: past the end nothing is set.
use mathlib.Core.Path.{sym}
use native.Mathlib.Omega.{arith}
use lib.Seq.{set_out}
use Rattle.tree.proofs.outline.put.Goals as goal

pub returns-else-at-notes : goal.returns-else-at-notes
returns-else-at-notes c = sym (set_out c.args.notes.now c.args.at _ (omega arith))
