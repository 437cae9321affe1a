use Rattle.std.proofs.Common.{length}
use Rattle.names.specs.Spans.{Lengths}
use Rattle.names.proofs.spans.Spans.lengths.Given as goal

abbrev pub invariant-loop-i : goal.invariant-loop-i
invariant-loop-i g l = Lengths (length l.self.text.now) l.self.words.now l.self.count l.i l.initial.keys l.keys
