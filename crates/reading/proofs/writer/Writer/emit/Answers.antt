-- `Writer::emit` meets its contract (Words).
use Rattle.std.proofs.Common.{refl, arith}
use Rattle.reading.proofs.flat.Words.{writes-inside, writes-past}
use Rattle.reading.proofs.writer.Writer.emit.Goals as goal

pub returns-then-self-end : goal.returns-then-self-end
returns-then-self-end c = writes-past c.args.words.now refl refl c.if-self-end.true

pub returns : goal.returns
returns c = writes-inside c.args.words.now refl (omega arith) refl c.copy_from_slice.ensures.after (omega arith) (omega (arith, c.if-self-end.false))
