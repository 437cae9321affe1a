use Rattle.parsing.proofs.Tokens.{word-spelt, word-absent}
use Rattle.parsing.proofs.parser.Parser.word_ahead.Goals as goal

pub returns-then-len-eq0 : goal.returns-then-len-eq0
returns-then-len-eq0 c = word-absent c.args.self.now c.identifier_length-len.ensures c.if-len-eq0.true

pub returns-else-len-eq0 : goal.returns-else-len-eq0
returns-else-len-eq0 c = word-spelt c.args.self.now c.identifier_length-len.ensures c.if-len-eq0.false
