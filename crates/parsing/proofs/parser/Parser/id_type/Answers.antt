use Rattle.std.proofs.Common.{refl}
use Rattle.grammar.specs.Rules.{parse_id_type}
use Rattle.parsing.proofs.Places.{begin, read, read_if, took, paired, done}
use Rattle.parsing.proofs.parser.Parser.id_type.Goals as goal

pub returns : goal.returns
unfolding parse_id_type
returns c =
    let name = rw c.in-Some.is at c.in_ok-name.ensures in
    done _ (paired c.pair.ensures (read _ _ c.in_ok-typ.ensures (took _ _ c.in_ok-need_sym.ensures (read_if _ _ _ name begin refl)) refl) refl)
    refl refl
