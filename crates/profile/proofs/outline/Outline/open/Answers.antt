-- `Outline::open` meets its contract: the statement with a label goes on up to its end.
use Rattle.std.proofs.Common.{get_or, max, sym, ap, ◌∙◌}
use Rattle.profile.proofs.LabelLaws.{open-label, open-other}
use Rattle.profile.proofs.outline.Outline.open.Goals as goal

pub returns-then-is_statement : goal.returns-then-is_statement
returns-then-is_statement c =
    open-label _ _ c.requires.numbered c.requires.open c.requires.at (sym c.is_statement.ensures ∙ c.if-is_statement.true) c.from-number.ensures
    (c.max.ensures ∙ ap (max (get_or c.args.until.now c.from-number.result 0)) c.item_or.ensures)

pub returns-else-is_statement : goal.returns-else-is_statement
returns-else-is_statement c = open-other _ _ c.requires.open (sym c.is_statement.ensures ∙ c.if-is_statement.false)
