-- `Outline::lacks_label` meets its contract: an exit's label is passed.
use Rattle.std.proofs.Common.{ℕ, get_or, sym, ap, ◌∙◌}
use Rattle.profile.proofs.LabelLaws.{passed}
use Rattle.profile.proofs.outline.Outline.lacks_label.Goals as goal

pub returns-then-is_exit : goal.returns-then-is_exit
returns-then-is_exit c =
    passed _ _ c.requires.open c.requires.at (sym c.is_exit.ensures ∙ c.if-is_exit.true)
    (c.from-then-is_exit.ensures ∙ ap (λ (n : ℕ). get_or c.args.until.now n 0) c.from.ensures)
