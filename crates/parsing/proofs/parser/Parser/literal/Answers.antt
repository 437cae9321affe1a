use Rattle.std.proofs.Common.{refl}
use Rattle.tree.specs.Ast.{ILiteral}
use Rattle.grammar.specs.Steps.{mapped, parse_nat}
use Rattle.parsing.proofs.Laws.{after-ok}
use Rattle.parsing.proofs.Places.{begin, operated, three-made, read_as, done}
use Rattle.parsing.proofs.parser.Parser.literal.Goals as goal

pub returns-in-Some : goal.returns-in-Some
returns-in-Some c =
    let value = rw c.in-Some.is at c.in_ok-value.ensures in
    let l = three-made c.push.ensures (operated _ _ _ value begin) refl in
    let r = done (λ text at. mapped ILiteral (parse_nat text at)) {least = 1} {credit = 0} l refl refl in
    read_as _ _ _ 1 0 _ _ r (after-ok _ _ _ r.says)
