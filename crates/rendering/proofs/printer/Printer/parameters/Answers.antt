-- No parameters print nothing; others stand in brackets.
use Rattle.std.proofs.Common.{arith, [], ◌∷◌}
use Rattle.tree.specs.Ast.{binding}
use Rattle.rendering.specs.Parts.{Told, closure_parameters}
use Rattle.rendering.proofs.Walk.{prints, begin, word, text, part, done, at-end}
use Rattle.rendering.proofs.printer.Printer.parameters.Goals as goal

none : (c : goal.After-word) → Told closure_parameters c.args.self.now c.word.new.self
none c [] rest g d = done (word (begin d) c.word.ensures)
none c (binding n t ∷ bs) rest g d = absurd (let e = at-end (begin d) c.if-is_at_end.ensures in cc)

some : (c : goal.After-put-else-is_at_end) → Told closure_parameters c.args.self.now c.put-else-is_at_end.new.self
some c [] rest g d = absurd (let e = at-end (begin d) c.if-is_at_end.ensures in cc)
some c (b ∷ bs) rest g d = done (text (part c.bindings.ensures (b ∷ bs) tt (text (begin d) c.put.ensures)) c.put-else-is_at_end.ensures)

pub returns-then-is_at_end : goal.returns-then-is_at_end
returns-then-is_at_end c = prints (cc) (cc) (omega arith) (none c)

pub returns-else-is_at_end : goal.returns-else-is_at_end
returns-else-is_at_end c = prints (cc) (cc) (omega arith) (some c)
