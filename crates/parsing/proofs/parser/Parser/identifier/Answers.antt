use Rattle.std.proofs.Common.{refl}
use Rattle.parsing.proofs.Places.{begin, name_last, two-made, done}
use Rattle.parsing.proofs.parser.Parser.identifier.Goals as goal

pub returns-in-Some : goal.returns-in-Some
returns-in-Some c =
    done _ (two-made c.push.ensures (name_last _ (rw c.in-Some.is at c.in_ok-name.ensures) begin) refl) refl refl
