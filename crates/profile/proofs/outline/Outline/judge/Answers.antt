-- `Outline::judge` meets its contract: at each place of the loop no rule is broken before it.
use Rattle.std.proofs.Common.{arith, sym, ap, ◌∙◌, option_map}
use Rattle.profile.specs.Answers.{rule_number}
use Rattle.profile.proofs.VerdictLaws.{found-none, found-first}
use Rattle.profile.proofs.LabelLaws.{open-none}
use Rattle.profile.proofs.outline.Outline.judge.Goals as goal

pub loop-at-init : goal.loop-at-init
loop-at-init c = (c.number_labels.ensures, open-none _ _ c.blank-until.ensures.room c.blank-until.ensures.zero, λ i h. absurd (omega arith))

pub returns-in-Some : goal.returns-in-Some
returns-in-Some c =
    found-first _ _ c.loop-at-test.true (sym c.broken.ensures ∙ ap (option_map rule_number) c.in-Some.is) c.loop-at.invariant.2

pub returns : goal.returns
returns c = found-none _ _ (λ i h. c.loop-at.invariant.2 i (omega (arith, h, c.loop-at-test.false)))
