-- An indent and the expression.
use Rattle.std.proofs.Common.{arith}
use Rattle.layout.specs.Indents.{format-start}
use Rattle.rendering.proofs.Walk.{prints, ready, begin, text, part, done}
use Rattle.rendering.proofs.printer.Printer.indented.Goals as goal

pub returns : goal.returns
returns c =
    let expr = rw (c.outermost.ensures, c.at-format.ensures) at c.expr.ensures in
    let j = format-start c.args.self.now.source.form c.args.self.now.source.step in
    prints (cc) (cc) (omega arith) (λ e rest g d. done (part expr e (ready g.0 (omega arith) (omega arith), g.1) (text (begin d) c.indent.ensures)))
