use Rattle.std.proofs.Common.{arith}
use Rattle.lexing.specs.TokenLaws.{parse_custom_literal-within}
use Rattle.lexing.specs.Tokens.{parse_custom_literal}
use Rattle.parsing.proofs.Laws.{names_if_err}
use Rattle.parsing.proofs.Tokens.{token-lies, text-read, text-missing, text-short, text-refused}
use Rattle.parsing.proofs.parser.Parser.literal_text.Goals as goal

pub pass-requires : goal.pass-requires
pass-requires c = token-lies parse_custom_literal 1 parse_custom_literal-within c.args.self.now _ c.parse_custom_literal-lexed.ensures

pub returns-in_err-len : goal.returns-in_err-len
returns-in_err-len c =
    names_if_err _ _ _ _ _ c.from_residual.ensures.1 (text-refused _ _ c.parse_custom_literal-lexed.ensures c.pass.new.self _ c.in_err-len.ensures)

pub returns-in-Some : goal.returns-in-Some
returns-in-Some c = text-read _ _ c.parse_custom_literal-lexed.ensures _ _ (rw c.in-Some.is at c.in_ok-len.ensures)

pub returns-in-None : goal.returns-in-None
returns-in-None c = text-missing _ _ c.parse_custom_literal-lexed.ensures _ (rw c.in-None.is at c.in_ok-len.ensures)

pub overflow_cast-result : goal.overflow_cast-result
overflow_cast-result c = omega (arith, text-short _ _ c.parse_custom_literal-lexed.ensures _ _ (rw c.in-Some.is at c.in_ok-len.ensures))
