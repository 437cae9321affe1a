use Rattle.std.proofs.Common.{sym, ◌∙◌}
use Rattle.parsing.proofs.Words.{beside-next}
use Rattle.parsing.proofs.lead.lead_of.Goals as goal

pub loop-known-preserved : goal.loop-known-preserved
loop-known-preserved c =
    beside-next _ _ _ _ _ c.loop-known-test.true (sym c.same_bytes.ensures ∙ c.if-same_bytes.false) c.loop-known.invariant
