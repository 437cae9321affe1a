-- `walk::natural_step` meets its contract: the low word is missing, or both fit.
use mathlib.Core.Path.{refl}
use Prim.Native.Nat.{◌+◌}
use native.Mathlib.Omega.{arith}
use Rattle.tree.specs.Kind.{natural, low}
use Rattle.tree.proofs.RunSteps.{second-missing, natural-fits}
use Rattle.tree.proofs.walk.natural_step.Goals as goal

pub returns-then-words-at-lt2 : goal.returns-then-words-at-lt2
returns-then-words-at-lt2 c len =
    let a = c.args in
    second-missing len a.words.now a.at natural low (omega arith) (omega arith) refl

pub returns : goal.returns
returns c len =
    let a = c.args in
    natural-fits len a.words.now a.at (omega arith) (omega (arith, c.type_inv.words (a.at + 1)))
