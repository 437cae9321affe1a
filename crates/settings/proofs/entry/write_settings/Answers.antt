-- By the settings of the step and the form, and by the room.
use Rattle.std.specs.Prelude.{ℕ, List, ◌++◌, length, drop}
use Rattle.std.proofs.Common.{sym, ap, ◌∙◌}
use Rattle.std.proofs.lemmas.List.{length-take-le}
use Rattle.std.proofs.lemmas.Result.{err_from_is_err_and}
use Rattle.settings.specs.Answers.{done}
use Rattle.settings.specs.Records.{record_length, settings_bytes}
use Rattle.settings.proofs.AnswerLaws.{is-written, is-stored, is-too-long}
use Rattle.settings.proofs.entry.write_settings.Goals as goal

pub returns-in_err-settings : goal.returns-in_err-settings
returns-in_err-settings c =
    let p = err_from_is_err_and c.from_residual.result c.from_residual.ensures.1 in
    rw (p.1, p.2) (is-written c.args.out.now c.args.step c.args.form c.in_err-settings.ensures)

pub returns-then-out-lt-RECORD_LENGTH : goal.returns-then-out-lt-RECORD_LENGTH
returns-then-out-lt-RECORD_LENGTH c =
    is-too-long c.args.out.now (settings_bytes c.in_ok-settings.settings) c.if-out-lt-RECORD_LENGTH.true
    ∙ is-written c.args.out.now c.args.step c.args.form c.in_ok-settings.ensures

pub copy_from_slice-requires : goal.copy_from_slice-requires
copy_from_slice-requires c = length-take-le _ _ c.if-out-lt-RECORD_LENGTH.false ∙ sym (ap length c.settings_bytes.ensures)

pub returns : goal.returns
returns c =
    let out = c.args.out.now in
    ap (λ (bytes : List ℕ). done record_length (bytes ++ drop record_length out)) (c.copy_from_slice.ensures.after ∙ c.settings_bytes.ensures)
    ∙ is-stored out (settings_bytes c.in_ok-settings.settings) c.if-out-lt-RECORD_LENGTH.false
    ∙ is-written out c.args.step c.args.form c.in_ok-settings.ensures
