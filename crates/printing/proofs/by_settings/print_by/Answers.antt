-- The refusal of the settings, or what the print by them answers.
use Rattle.std.proofs.lemmas.Result.{err_from_is_err_and}
use Rattle.rendering.specs.Render.{rooted}
use Rattle.printing.proofs.ByAnswers.{settings-refused, printed-by}
use Rattle.printing.proofs.by_settings.print_by.Goals as goal

pub returns-in_err-settings : goal.returns-in_err-settings
returns-in_err-settings c =
    let p = err_from_is_err_and c.from_residual.result c.from_residual.ensures.1 in
    rw (p.1, p.2)
    (settings-refused (λ s. rooted s c.args.text.now c.args.root) c.args.settings.now c.args.text.now c.args.words.now c.args.out.now c.settings_in.ensures c.in_err-settings.was)

pub returns-in_err-print : goal.returns-in_err-print
returns-in_err-print c =
    let p = err_from_is_err_and c.from_residual-in_err-print.result c.from_residual-in_err-print.ensures.1 in
    rw (p.1, p.2)
    (printed-by (λ s. rooted s c.args.text.now c.args.root) c.args.settings.now c.args.text.now c.args.words.now c.args.out.now c.settings_in.ensures c.in_ok-settings.was
    (rw c.in_err-print.was at c.print.ensures))

pub returns : goal.returns
returns c =
    printed-by (λ s. rooted s c.args.text.now c.args.root) c.args.settings.now c.args.text.now c.args.words.now c.args.out.now c.settings_in.ensures c.in_ok-settings.was
    (rw c.in_ok-print.was at c.print.ensures)
