-- What is put stays within the text.
use Rattle.std.proofs.Common.{◌≤◌, length}
use Rattle.trials.proofs.pieces.repeat.Given as goal

abbrev pub invariant-loop : goal.invariant-loop
invariant-loop l = l.n ≤ length l.text
