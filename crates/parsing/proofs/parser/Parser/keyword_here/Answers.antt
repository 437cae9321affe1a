use Rattle.std.proofs.Common.{refl, sym}
use Rattle.parsing.proofs.Tokens.{here-none, no-keyword}
use Rattle.parsing.proofs.parser.Parser.keyword_here.Goals as goal

pub returns-in-None : goal.returns-in-None
returns-in-None c = no-keyword c.args.self.now _ _ (sym (here-none c.args.self.now _ (rw c.in-None.is at c.word_ahead.ensures) c.requires)) refl
