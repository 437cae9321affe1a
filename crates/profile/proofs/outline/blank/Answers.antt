-- `outline::blank` has its length and its items, by the laws of repeated elements and not by computing the array.
use Rattle.std.specs.Prelude.{ℕ}
use Rattle.std.proofs.lemmas.List.{length-replicate}
use Rattle.profile.proofs.JudgeLaws.{zeros}
use Rattle.profile.proofs.outline.blank.Goals as goal

pub returns-clause-room : goal.returns-clause-room
returns-clause-room c = length-replicate {0} {A = ℕ} 16384 0

pub returns-clause-zero : goal.returns-clause-zero
returns-clause-zero c = zeros 16384
