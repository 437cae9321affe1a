use Rattle.std.proofs.Common.{refl}
use Rattle.parsing.specs.Statements.{block_rule}
use Rattle.parsing.proofs.Places.{with_end, begin, headed, done}
use Rattle.parsing.proofs.StatementPlaces.{spared_if, passed}
use Rattle.parsing.proofs.parser.Parser.body.Goals as goal

pub returns-in-Some : goal.returns-in-Some
returns-in-Some c =
    let s = rw c.in-Some.is at c.in_ok-s.ensures in
    done _ (headed c.push.ensures (spared_if (block_rule c.args.depth) _ _ s begin) refl) refl refl

pub returns-in-None : goal.returns-in-None
returns-in-None c =
    let s = rw c.in-None.is at c.in_ok-s.ensures in
    done _ (with_end (passed (block_rule c.args.depth) _ _ s begin)) refl refl
