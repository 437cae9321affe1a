-- The name and the arguments.
use Rattle.std.proofs.Common.{arith, refl, rules}
use Rattle.layout.specs.Statements.{shown}
use Rattle.rendering.specs.Sequences.{one}
use Rattle.rendering.specs.StmtParts.{an_argument}
use Rattle.rendering.proofs.Walk.{prints, ready, begin, text, part, done}
use Rattle.rendering.proofs.Sequences.{by-call, moves, printed-list}
use Rattle.rendering.proofs.printer.Printer.call_stmt.Goals as goal

pub separated-requires : goal.separated-requires
separated-requires c k = ((refl, tt), (search rules, moves an_argument (λ s s' r. by-call (one an_argument) r (search rules))))

pub returns : goal.returns
unfolding shown
returns c =
    let arguments = printed-list an_argument (λ s s' r. by-call (one an_argument) r (search rules)) c.separated.ensures in
    prints (cc) (cc) (let f = arguments.forward in omega arith)
    (λ a rest g d. done (text (part arguments a.1 (ready g.0 (omega arith) (omega arith), g.1.1) (part c.name_then.ensures a.0 tt (begin d))) c.put.ensures))
