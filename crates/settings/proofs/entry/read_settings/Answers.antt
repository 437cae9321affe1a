-- By the settings of the bytes.
use Rattle.std.proofs.lemmas.Result.{err_from_is_err_and}
use Rattle.settings.proofs.AnswerLaws.{is-read}
use Rattle.settings.proofs.entry.read_settings.Goals as goal

pub returns-in_err-settings : goal.returns-in_err-settings
returns-in_err-settings c =
    let p = err_from_is_err_and c.from_residual.result c.from_residual.ensures.1 in
    rw (p.1, p.2) (is-read c.args.bytes.now c.in_err-settings.ensures)

pub returns : goal.returns
returns c = is-read c.args.bytes.now c.in_ok-settings.ensures
