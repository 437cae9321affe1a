-- What is put stays within the text.
use Rattle.std.proofs.Common.{◌≤◌, length}
use Rattle.trials.proofs.pieces.build.Given as goal

abbrev pub invariant-loop-piece : goal.invariant-loop-piece
invariant-loop-piece l = l.end ≤ length l.text
