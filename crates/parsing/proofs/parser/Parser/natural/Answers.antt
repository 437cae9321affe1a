use Rattle.lexing.specs.Tokens.{natural}
use Rattle.lexing.specs.TokenLaws.{natural-within}
use Rattle.parsing.proofs.Tokens.{token-lies, natural-operates}
use Rattle.parsing.proofs.parser.Parser.natural.Goals as goal

pub pass-requires : goal.pass-requires
pass-requires c = token-lies natural 1 natural-within c.args.self.now _ c.natural-lexed.ensures

pub returns : goal.returns
returns c = natural-operates _ _ c.natural-lexed.ensures _ _ c.pass.ensures
