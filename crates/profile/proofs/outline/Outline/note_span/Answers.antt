-- `Outline::note_span` meets its contract: the span is set where there is a label.
use Rattle.std.proofs.Common.{arith, sym, ◌∙◌}
use Rattle.profile.proofs.LabelLaws.{spanned-more, spanned-set}
use Rattle.profile.proofs.outline.Outline.note_span.Goals as goal

pub returns-in-Some : goal.returns-in-Some
returns-in-Some c =
    spanned-set _ c.requires.1 (omega (arith, c.requires.0, c.args.self.now.few)) (sym c.label.ensures ∙ c.in-Some.is) c.get.ensures c.get-in-Some.ensures

pub returns-in_default : goal.returns-in_default
returns-in_default c = spanned-more _ c.requires.1 (sym c.label.ensures ∙ c.in_default.is)
