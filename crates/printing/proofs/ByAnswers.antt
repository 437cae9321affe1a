-- What a print by the bytes of settings answers, by what reading them gives.
use Rattle.std.specs.Prelude.{ℕ, ◌≡◌, List, Result, Ok, Err}
use Rattle.std.proofs.Common.{ap, sym, ◌∙◌}
use Rattle.layout.specs.declared.settings.Settings.{Settings}
use Rattle.settings.specs.declared.error.RecordError.{RecordError}
use Rattle.settings.specs.Answers.{answer_of}
use Rattle.settings.specs.Errors.{record_refusal}
use Rattle.settings.specs.Records.{settings_in}
use Rattle.rendering.specs.Tables.{Printable}
use Rattle.printing.specs.Entries.{Outcome, refusal, print_table}
use Rattle.printing.specs.BySettings.{by_read, print_by}

module _ (P : Settings → Printable) (bytes text words out : List ℕ) {read : Result Settings RecordError} (a : answer_of record_refusal read ≡ settings_in bytes) where
  -- by what the reading answers
  by-answer : {r : Result Settings RecordError} → read ≡ r → by_read (answer_of record_refusal r) (λ s. print_table (P s) text words out) out ≡ print_by P bytes text words out
  unfolding print_by
  by-answer e = ap (λ r. by_read r (λ s. print_table (P s) text words out) out) (ap (answer_of record_refusal) (sym e) ∙ a)

  -- settings that are refused
  pub settings-refused : {e : RecordError} → read ≡ Err e → refusal (record_refusal e).number (record_refusal e).place out ≡ print_by P bytes text words out
  settings-refused e = by-answer e

  -- and a print by those that are read
  pub printed-by : {s : Settings} {o : Outcome} → read ≡ Ok s → o ≡ print_table (P s) text words out → o ≡ print_by P bytes text words out
  printed-by e x = x ∙ by-answer e
