use Rattle.parsing.proofs.Tokens.{here-spelt, here-none}
use Rattle.parsing.proofs.parser.Parser.word_here.Goals as goal

pub returns-in-Some : goal.returns-in-Some
returns-in-Some c = here-spelt c.args.self.now _ (rw c.in-Some.is at c.word_ahead.ensures) c.word_is.ensures

pub returns-in-None : goal.returns-in-None
returns-in-None c = here-none c.args.self.now _ (rw c.in-None.is at c.word_ahead.ensures) c.requires
