-- What the calls still to come add to those that ran. Each item passes a word.
use Rattle.std.proofs.Common.{◌-◌, length}
use Rattle.rendering.specs.declared.printer.Printer.{Printer}
use Rattle.rendering.specs.Sequences.{Calls, Repeatedly}
use Rattle.rendering.proofs.printer.Printer.separated.Given as goal

abbrev pub invariant-loop-before : goal.invariant-loop-before
invariant-loop-before g l =
    (s : Printer) → Repeatedly (Calls g.F.Fn l.item) l.separator l.before l.self s
    → Repeatedly (Calls g.F.Fn l.item) l.separator l.fn.first l.fn.self s

abbrev pub decreases-loop-before : goal.decreases-loop-before
decreases-loop-before g l = length l.self.source.words.now - l.self.at
