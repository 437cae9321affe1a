-- `true` or `false` by the word.
use Rattle.std.proofs.Common.{arith, true, false}
use Rattle.rendering.specs.Parts.{Told, a_bool}
use Rattle.rendering.proofs.Walk.{prints, begin, reads, word, text, done}
use Rattle.rendering.proofs.printer.Printer.bool_literal.Goals as goal

is-false : (c : goal.After-put) → Told a_bool c.args.self.now c.put.new.self
is-false c true rest g d = let e = reads (begin d) c.word.ensures in absurd (omega (arith, e, c.if-word-eq-FALSE.true))
is-false c false rest g d = done (text (word (begin d) c.word.ensures) c.put.ensures)

is-true : (c : goal.After-put-else-word-eq-FALSE) → Told a_bool c.args.self.now c.put-else-word-eq-FALSE.new.self
is-true c true rest g d = done (text (word (begin d) c.word.ensures) c.put-else-word-eq-FALSE.ensures)
is-true c false rest g d = absurd (c.if-word-eq-FALSE.false (reads (begin d) c.word.ensures))

pub returns-then-word-eq-FALSE : goal.returns-then-word-eq-FALSE
returns-then-word-eq-FALSE c = prints (cc) (cc) (omega arith) (is-false c)

pub returns-else-word-eq-FALSE : goal.returns-else-word-eq-FALSE
returns-else-word-eq-FALSE c = prints (cc) (cc) (omega arith) (is-true c)
