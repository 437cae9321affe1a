use Rattle.std.proofs.Common.{refl}
use Rattle.parsing.proofs.Places.{begin_with, read, headed, done}
use Rattle.parsing.proofs.parser.Parser.stated.Goals as goal

pub returns : goal.returns
returns c = done _ (headed c.push.ensures (read _ _ c.in_ok-e.ensures (begin_with c.requires) refl) refl) refl refl
