-- The mode by the word after the name, the name and its type, and the invariant.
use Rattle.std.proofs.Common.{arith, rules, ◌∙◌}
use Rattle.tree.specs.Words.{mode_word}
use Rattle.rendering.specs.Sequences.{one}
use Rattle.rendering.specs.StmtParts.{a_line}
use Rattle.rendering.proofs.Walk.{prints, ready, begin, text, these, part, done, third}
use Rattle.rendering.proofs.Sequences.{by-one-call, printed-option}
use Rattle.rendering.proofs.StmtPrints.Pieces.{mode-is}
use Rattle.rendering.proofs.printer.Printer.parameter.Goals as goal

pub returns : goal.returns
returns c =
    let invariant = printed-option a_line (λ s s' r. by-one-call (one a_line) r (search rules)) c.optional.ensures in
    prints (cc) (cc) (let f = invariant.forward in omega arith)
    (λ a rest g d.
    let mode = c.mode_text.ensures ∙ mode-is a.mode c.from_word-mode.ensures (third (begin {s = c.args.self.now} d) c.ahead.ensures) in
    let name = part c.typed_apart.ensures (a.name, mode_word a.mode, a.typ) tt (text (begin d) (these mode c.put_any.ensures)) in
    done (part invariant a.optional_auto_inv (ready g.0 (omega arith) (omega arith), g.1) name))
