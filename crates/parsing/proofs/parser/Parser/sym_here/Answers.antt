use Rattle.std.proofs.Common.{refl}
use Rattle.lexing.specs.Tokens.{sign as reader}
use Rattle.lexing.specs.TokenLaws.{sign-within}
use Rattle.parsing.specs.Contract.{sign}
use Rattle.parsing.proofs.Tokens.{token-lies, token-takes}
use Rattle.parsing.proofs.parser.Parser.sym_here.Goals as goal

pub stands-requires : goal.stands-requires
stands-requires c = token-lies (reader c.args.bytes.now) _ (sign-within _) c.args.self.now _ c.sym-lexed.ensures

pub returns : goal.returns
returns c = token-takes (reader c.args.bytes.now) _ (sign-within _) _ _ c.sym-lexed.ensures (sign c.args.bytes.now) (λ text at. refl) _ _ c.stands.ensures
