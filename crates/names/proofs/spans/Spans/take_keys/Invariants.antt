use Rattle.std.proofs.Common.{length}
use Rattle.names.specs.Spans.{KeysTaken}
use Rattle.names.proofs.spans.Spans.take_keys.Given as goal

abbrev pub invariant-loop-i : goal.invariant-loop-i
invariant-loop-i g l = KeysTaken (length l.self.text.now) l.self.words.now l.classes l.self.count l.w l.i l.initial.keys l.keys
