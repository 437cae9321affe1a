use Rattle.lexing.proofs.Naturals.{Summed}
use Rattle.lexing.proofs.token.decimal.Given as goal

abbrev pub invariant-loop-digit : goal.invariant-loop-digit
invariant-loop-digit l = Summed l.s l.value l.digit-index
