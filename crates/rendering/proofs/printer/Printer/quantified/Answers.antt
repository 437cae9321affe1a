-- `forall ` or `exists ` by the Bool's word, before the first binding.
use Rattle.std.proofs.Common.{arith, true, false}
use Rattle.rendering.specs.Parts.{Told, quantified}
use Rattle.rendering.proofs.Walk.{prints, begin, reads, word, part, done}
use Rattle.rendering.proofs.printer.Printer.quantified.Goals as goal

exists : (c : goal.After-bindings) → Told quantified c.args.self.now c.bindings.new.self
exists c (true, bs) rest g d = let e = reads (begin d) c.word.ensures in absurd (omega (arith, e, c.if-word-eq-FALSE.true))
exists c (false, bs) rest g d = done (part c.bindings.ensures bs tt (word (begin d) c.word.ensures))

forall : (c : goal.After-bindings-else-word-eq-FALSE) → Told quantified c.args.self.now c.bindings-else-word-eq-FALSE.new.self
forall c (true, bs) rest g d = done (part c.bindings-else-word-eq-FALSE.ensures bs tt (word (begin d) c.word.ensures))
forall c (false, bs) rest g d = absurd (c.if-word-eq-FALSE.false (reads (begin d) c.word.ensures))

pub returns-then-word-eq-FALSE : goal.returns-then-word-eq-FALSE
returns-then-word-eq-FALSE c = prints (cc) (cc) (omega arith) (exists c)

pub returns-else-word-eq-FALSE : goal.returns-else-word-eq-FALSE
returns-else-word-eq-FALSE c = prints (cc) (cc) (omega arith) (forall c)
