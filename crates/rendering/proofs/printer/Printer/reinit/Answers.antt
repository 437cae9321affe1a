-- The names.
use Rattle.std.proofs.Common.{arith, refl, rules, ◌∙◌}
use Rattle.tree.specs.Words.{name_words}
use Rattle.layout.specs.Statements.{shown}
use Rattle.rendering.specs.Parts.{a_name}
use Rattle.rendering.specs.StmtParts.{a_named}
use Rattle.rendering.proofs.Walk.{prints, ready, begin, text, part, done}
use Rattle.rendering.proofs.Sequences.{by-call, plainly, moves, printed-list}
use Rattle.rendering.proofs.StmtPrints.Pieces.{names-counted}
use Rattle.rendering.proofs.printer.Printer.reinit.Goals as goal

pub separated-requires : goal.separated-requires
separated-requires c k = ((refl, tt), (search rules, moves a_named (λ s s' r. plainly a_named (by-call a_name r (search rules)))))

pub returns : goal.returns
unfolding shown
returns c =
    let names = printed-list a_named (λ s s' r. plainly a_named (by-call a_name r (search rules))) c.separated.ensures in
    prints (c.put-2.ensures.source ∙ names.source ∙ c.put.ensures.source) (c.put-2.ensures.output ∙ names.output ∙ c.put.ensures.output) (let a = c.put.ensures.still in let b = c.put-2.ensures.still in omega (arith, names.forward, a, b))
    (λ l rest g d. done (text (part names l (ready g.0 (let a = c.put.ensures.still in omega arith) (omega arith), names-counted (name_words (λ n. n.span)) _ l) (text (begin d) c.put.ensures)) c.put-2.ensures))
