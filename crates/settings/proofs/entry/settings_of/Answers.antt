-- The step out of range, and the rest by `with_step`.
use Rattle.std.proofs.Common.{arith, sym, ◌∙◌}
use Rattle.settings.proofs.ContentLaws.{step-in-range, step-out-of-range}
use Rattle.settings.proofs.entry.settings_of.Goals as goal

pub returns-then-step-lt-LEAST_STEP : goal.returns-then-step-lt-LEAST_STEP
returns-then-step-lt-LEAST_STEP c = sym (step-out-of-range c.args.step c.args.form c.then-step-lt-LEAST_STEP.either)

pub returns : goal.returns
returns c = c.with_step.ensures ∙ sym (step-in-range c.args.step c.args.form (omega arith) (omega arith))
