use Rattle.parsing.proofs.Laws.{passes_word_err}
use Rattle.parsing.proofs.Tokens.{word-lies, word-passes, word-refused}
use Rattle.parsing.proofs.parser.Parser.pass_word.Goals as goal

pub stands-requires : goal.stands-requires
stands-requires c = word-lies _ _ c.requires _ c.lexeme-lexed.ensures

pub returns-in_err-stands : goal.returns-in_err-stands
returns-in_err-stands c =
    passes_word_err _ _ _ _ _ c.from_residual.ensures.1
    (word-refused _ _ c.requires _ c.lexeme-lexed.ensures c.stands.new.self _ c.in_err-stands.ensures)

pub returns : goal.returns
returns c = word-passes _ _ c.requires _ c.lexeme-lexed.ensures _ _ c.in_ok-stands.ensures
