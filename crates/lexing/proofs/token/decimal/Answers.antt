-- `token::decimal` meets its contract. The loop's invariant is `Summed` (Naturals), with a law for each way of a turn.
use Rattle.std.proofs.Common.{◌∙◌, arith}
use Rattle.lexing.proofs.Naturals.{summed_start, summed_exceeds, summed_more, summed_end}
use Rattle.lexing.proofs.token.decimal.Goals as goal

pub loop-digit-init : goal.loop-digit-init
loop-digit-init c = summed_start _

pub returns-in_err-value : goal.returns-in_err-value
returns-in_err-value c = c.from_residual.ensures ∙ summed_exceeds c.loop-digit.invariant (omega arith) c.in_err-value.ensures

pub loop-digit-preserved : goal.loop-digit-preserved
loop-digit-preserved c = summed_more c.loop-digit.invariant (omega arith) c.in_ok-value.ensures

pub returns : goal.returns
returns c = summed_end c.loop-digit.invariant (omega arith)
