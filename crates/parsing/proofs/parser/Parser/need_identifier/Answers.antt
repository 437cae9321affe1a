use Rattle.std.proofs.Common.{refl}
use Rattle.parsing.proofs.Places.{begin, named, two-made, done}
use Rattle.parsing.proofs.parser.Parser.need_identifier.Goals as goal

pub returns : goal.returns
returns c = done _ (two-made c.push.ensures (named _ _ c.in_ok-name.ensures begin) refl) refl refl
