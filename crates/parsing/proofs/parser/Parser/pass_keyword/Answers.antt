use Rattle.std.proofs.Common.{Ok, Err}
use Rattle.parsing.proofs.Laws.{takes_if_err}
use Rattle.parsing.proofs.Tokens.{word-lies, keyword-takes}
use Rattle.parsing.proofs.parser.Parser.pass_keyword.Goals as goal

pub stands-requires : goal.stands-requires
stands-requires c = word-lies _ _ c.requires.spelt _ c.lexeme-lexed.ensures

pub returns-in_err-stands : goal.returns-in_err-stands
returns-in_err-stands c =
    takes_if_err _ _ _ _ _ _ c.from_residual.ensures.1
    (keyword-takes _ _ c.requires.spelt _ c.lexeme-lexed.ensures c.stands.new.self _ c.requires.same (Err c.in_err-stands.field-0.0) c.in_err-stands.ensures)

pub returns : goal.returns
returns c = keyword-takes _ _ c.requires.spelt _ c.lexeme-lexed.ensures _ _ c.requires.same (Ok c.in_ok-stands.field-0) c.in_ok-stands.ensures
