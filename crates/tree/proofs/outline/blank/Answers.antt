-- `outline::blank` has its length, by the law of repeated elements and not by computing the array.
use mathlib.Core.Path.{sym}
use Prim.Native.Nat.{ℕ}
use lib.ListN.{length-replicate}
use Rattle.tree.proofs.outline.blank.Goals as goal

pub returns : goal.returns
returns c = sym (length-replicate {0} {A = ℕ} 16384 0)
