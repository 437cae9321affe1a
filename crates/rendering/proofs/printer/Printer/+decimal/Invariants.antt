use Rattle.rendering.proofs.printer.Printer.+decimal.Given as goal

abbrev pub decreases-decimal : goal.decreases-decimal
decreases-decimal l = l.value
