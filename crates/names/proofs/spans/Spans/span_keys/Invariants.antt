use Rattle.std.proofs.Common.{◌+◌, ◌-◌}
use Rattle.names.specs.Spans.{Reached}
use Rattle.names.proofs.spans.Spans.span_keys.Given as goal

abbrev pub invariant-loop-w : goal.invariant-loop-w
invariant-loop-w g l = Reached l.self.text.now l.self.words.now l.self.count l.self.most l.longest l.w l.classes l.keys

abbrev pub decreases-loop-w : goal.decreases-loop-w
decreases-loop-w g l = (l.longest + 1) - l.w
