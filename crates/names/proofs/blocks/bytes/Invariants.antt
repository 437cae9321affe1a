use Rattle.std.proofs.Common.{get_or}
use Rattle.names.specs.Spans.{Written}
use Rattle.names.proofs.blocks.bytes.Given as goal

abbrev pub invariant-loop-i : goal.invariant-loop-i
invariant-loop-i l = Written (λ j. get_or l.text j 0) l.i l.initial.classes l.classes
