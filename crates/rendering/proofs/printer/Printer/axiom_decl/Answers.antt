-- The names that it explains, and the expression.
use Rattle.std.proofs.Common.{arith, refl, rules}
use Rattle.tree.specs.Words.{name_words}
use Rattle.rendering.specs.Parts.{a_name}
use Rattle.rendering.specs.StmtParts.{a_named}
use Rattle.rendering.proofs.Walk.{prints, ready, begin, text, part, done}
use Rattle.rendering.proofs.Sequences.{by-call, plainly, moves, printed-list}
use Rattle.rendering.proofs.StmtPrints.Pieces.{names-counted}
use Rattle.rendering.proofs.printer.Printer.axiom_decl.Goals as goal

pub separated-requires : goal.separated-requires
separated-requires c k = ((refl, tt), (search rules, moves a_named (λ s s' r. plainly a_named (by-call a_name r (search rules)))))

pub returns : goal.returns
returns c =
    let list = printed-list a_named (λ s s' r. plainly a_named (by-call a_name r (search rules))) c.separated.ensures in
    prints (cc) (cc) (let f = list.forward in omega arith)
    (λ a rest g d.
    let names = part list a.explains (ready g.0 (omega arith) (omega arith), names-counted (name_words (λ n. n.span)) _ a.explains) (text (begin d) c.put.ensures) in
    let f = list.forward in
    done (text (part c.indented.ensures a.expr (ready g.0 (omega arith) (omega arith), g.1.1) (text names c.put-2.ensures)) c.put-3.ensures))
