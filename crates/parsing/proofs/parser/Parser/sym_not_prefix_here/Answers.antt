use Rattle.std.proofs.Common.{refl}
use Rattle.lexing.specs.Tokens.{sign_not_prefix as reader}
use Rattle.lexing.specs.TokenLaws.{sign_not_prefix-within}
use Rattle.parsing.specs.Contract.{sign_but}
use Rattle.parsing.proofs.Tokens.{token-lies, token-takes}
use Rattle.parsing.proofs.parser.Parser.sym_not_prefix_here.Goals as goal

pub stands-requires : goal.stands-requires
stands-requires c = token-lies (reader c.args.bytes.now c.args.longer.now) _ (sign_not_prefix-within _ _) c.args.self.now _ c.sym_not_prefix-lexed.ensures

pub returns : goal.returns
returns c = token-takes (reader c.args.bytes.now c.args.longer.now) _ (sign_not_prefix-within _ _) _ _ c.sym_not_prefix-lexed.ensures (sign_but c.args.bytes.now c.args.longer.now) (λ text at. refl) _ _ c.stands.ensures
