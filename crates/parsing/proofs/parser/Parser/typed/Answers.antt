use Rattle.std.proofs.Common.{refl}
use Rattle.parsing.proofs.Places.{begin, named, three-made, done}
use Rattle.parsing.proofs.parser.Parser.typed.Goals as goal

pub returns : goal.returns
returns c = done _ (three-made c.push.ensures (named _ _ c.in_ok-name.ensures begin) refl) refl refl
