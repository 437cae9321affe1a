-- The digits before the last by the call, then the last one.
use Rattle.rendering.proofs.Writing.Decimal.{wrote-digit, wrote-digits}
use Rattle.rendering.proofs.printer.Printer.+decimal.Goals as goal

pub returns-then-value-ge10 : goal.returns-then-value-ge10
returns-then-value-ge10 t c = wrote-digits c.args.value c.if-value-ge10.true c.decimal.ensures c.put.ensures

pub returns-else-value-ge10 : goal.returns-else-value-ge10
returns-else-value-ge10 t c = wrote-digit c.args.value c.if-value-ge10.false c.put-else-value-ge10.ensures
