use Rattle.parsing.proofs.Openings.{opens-word, opens-byte}
use Rattle.parsing.proofs.parser.Parser.opens_expr.Goals as goal

pub returns-then-is_some : goal.returns-then-is_some
returns-then-is_some c = opens-word c.args.self.now _ c.word_ahead.ensures c.is_some.ensures c.if-is_some.true

pub returns-else-is_some : goal.returns-else-is_some
returns-else-is_some c = opens-byte c.args.self.now _ c.word_ahead.ensures c.is_some.ensures c.if-is_some.false c.peek.ensures c.peek-else-is_some.ensures c.opens_at.ensures
