use Rattle.std.proofs.Common.{◌≡◌, drop}
use Rattle.parsing.specs.Leads.{lead_of}
use Rattle.parsing.specs.declared.lead.Lead.TheVariants.{Name}
use Rattle.parsing.proofs.Words.{beside}
use Rattle.parsing.proofs.lead.lead_of.Given as goal

abbrev pub invariant-loop-known : goal.invariant-loop-known
invariant-loop-known l = lead_of l.word ≡ beside Name l.word (drop l.known-index l.known-items)
