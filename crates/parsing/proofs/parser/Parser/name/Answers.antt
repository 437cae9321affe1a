use Rattle.std.proofs.Common.{refl}
use Rattle.parsing.proofs.Tokens.{no-name}
use Rattle.parsing.proofs.parser.Parser.name.Goals as goal

pub returns-in-None : goal.returns-in-None
returns-in-None c = no-name _ _ (rw c.in-None.is at c.word_ahead.ensures) refl
