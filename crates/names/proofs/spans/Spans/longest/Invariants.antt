use Rattle.std.proofs.Common.{length}
use Rattle.names.specs.Spans.{Longest}
use Rattle.names.proofs.spans.Spans.longest.Given as goal

abbrev pub invariant-loop-i : goal.invariant-loop-i
invariant-loop-i g l = Longest (length l.self.text.now) l.self.words.now l.i l.most
