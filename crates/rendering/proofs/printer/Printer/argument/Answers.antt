-- The mode and the expression.
use Rattle.std.proofs.Common.{arith, ◌∙◌}
use Rattle.rendering.proofs.Walk.{prints, ready, begin, reads, word, text, these, part, done}
use Rattle.rendering.proofs.StmtPrints.Pieces.{mode-is}
use Rattle.rendering.proofs.printer.Printer.argument.Goals as goal

pub returns : goal.returns
returns c =
    prints (cc) (cc) (omega arith)
    (λ a rest g d.
    let mode = c.mode_text.ensures ∙ mode-is a.mode c.from_word-mode.ensures (reads (begin {s = c.args.self.now} d) c.word.ensures) in
    done (part c.inline.ensures a.arg (ready g.0 (omega arith) (omega arith), g.1) (text (word (begin d) c.word.ensures) (these mode c.put_any.ensures))))
