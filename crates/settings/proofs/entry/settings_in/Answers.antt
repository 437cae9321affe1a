-- By the first misplaced byte, or by the contents.
use Rattle.std.proofs.Common.{◌∙◌}
use Rattle.settings.proofs.AnswerLaws.{by-layout}
use Rattle.settings.proofs.entry.settings_in.Goals as goal

pub returns-in-Some : goal.returns-in-Some
returns-in-Some c = by-layout c.args.bytes.now c.in-Some.ensures

pub returns-in-None : goal.returns-in-None
returns-in-None c = c.of_contents.ensures ∙ by-layout c.args.bytes.now c.in-None.ensures
