-- What is proved of the definitions, over the equations that are the contracts of `read_settings` and `write_settings`: r is the code's answer,
-- and `settings` or out' what stands in the lent value afterwards. Each claim says exactly where an answer is given.
use Rattle.std.specs.Prelude.{ℕ, ◌<◌, ◌≤◌, ◌≡◌, ◌↔◌, List, ◌++◌, length, take, drop, Option, None, Some, Result, Ok, Err, ⊤}
use Rattle.std.proofs.Common.{refl, sym, ◌∙◌}
use Rattle.layout.specs.declared.settings.Settings.{Settings}
use Rattle.layout.specs.Settings.{defaults}
use Rattle.settings.specs.declared.error.RecordError.{RecordError}
use Rattle.settings.specs.declared.error.WriteError.{WriteError}
use Rattle.settings.specs.Errors.{output_too_short, bad_layout, unknown_version, content_out_of_range, step_place, form_place}
use Rattle.settings.specs.Errors.{refusal, record_refusal, write_refusal}
use Rattle.settings.specs.Answers.{Refuses, outcome_of}
use Rattle.settings.specs.Fields.{misplaced}
use Rattle.settings.specs.Records.{record_length, present_version, form_number, settings_record, read_settings, write_settings}
use Rattle.settings.specs.Laid.{LaidOut, IsRecord, FirstBad, StepInRange, FormInRange, InRange}
use Rattle.settings.proofs.LayoutLaws as layouts
use Rattle.settings.proofs.RecordLaws as records
use Rattle.settings.proofs.ReadLaws as reading
use Rattle.settings.proofs.WriteLaws as writing

-- ---- layouts

-- Of any layout: the place that is found is the first bad byte's, and none is found exactly where the bytes are laid out.
pub first-bad : (layout : List (Option ℕ)) (bytes : List ℕ) (place : ℕ)
    → (misplaced layout 0 bytes ≡ Some place) ↔ FirstBad (LaidOut layout) bytes place
first-bad = layouts.place

pub none-bad : (layout : List (Option ℕ)) (bytes : List ℕ) → (misplaced layout 0 bytes ≡ None) ↔ LaidOut layout bytes
none-bad layout bytes = layouts.none-misplaced layout 0 bytes

-- ---- reading

module _ (bytes : List ℕ) (r : Result ⊤ RecordError) (settings : Settings) (a : outcome_of record_refusal r settings ≡ read_settings bytes) where
  -- A step and a form are read exactly where the bytes are their record and they are in range.
  pub settings-read : (step form : ℕ)
      → ((r ≡ Ok tt) × (settings.step ≡ step) × (form_number settings.form ≡ form))
      ↔ ((bytes ≡ settings_record present_version step form) × InRange step form)
  settings-read = reading.settings-read bytes r settings a

  -- After a refusal the settings are the defaults.
  pub defaults-left : (e : RecordError) → r ≡ Err e → settings ≡ defaults
  defaults-left = reading.defaults-left bytes r settings a

  -- Refusal 9: exactly where the bytes are no record, and at the first bad byte.
  pub refused-9 : ((place : ℕ) × Refuses record_refusal r bad_layout place) ↔ (IsRecord bytes → ⊥)
  refused-9 = reading.refused-9 bytes r settings a

  pub refused-9-place : (place : ℕ) → Refuses record_refusal r bad_layout place ↔ FirstBad IsRecord bytes place
  refused-9-place place = reading.through bytes r settings a (refusal bad_layout place) (records.layout-refused bytes place)

  -- Refusal 10: exactly where they are the record of another version.
  pub refused-10 : Refuses record_refusal r unknown_version 0 ↔ ((c : IsRecord bytes) × (c.version ≡ present_version → ⊥))
  refused-10 = reading.through bytes r settings a (refusal unknown_version 0) (records.version-refused bytes)

  -- Refusal 11: exactly where they are the record of a step out of range, or of one in range with a form out of range.
  pub refused-11-step : Refuses record_refusal r content_out_of_range step_place
      ↔ ((c : IsRecord bytes) × (c.version ≡ present_version) × (StepInRange c.step → ⊥))
  refused-11-step = reading.refused-11-step bytes r settings a

  pub refused-11-form : Refuses record_refusal r content_out_of_range form_place
      ↔ ((c : IsRecord bytes) × (c.version ≡ present_version) × (StepInRange c.step × (FormInRange c.form → ⊥)))
  refused-11-form = reading.refused-11-form bytes r settings a

-- ---- writing

module _ (step form : ℕ) (out : List ℕ) (r : Result ℕ WriteError) (out' : List ℕ)
    (a : outcome_of write_refusal r out' ≡ write_settings step form out) where
  -- An answer is the record's length, and it is given exactly where step and form are in range and the output has room.
  pub settings-written : (n : ℕ) → (r ≡ Ok n) ↔ ((n ≡ record_length) × InRange step form × (record_length ≤ length out))
  settings-written = writing.writes step form out r out' a

  -- The output is then the record of the step and the form, followed by the old bytes.
  pub record-written : (n : ℕ) → r ≡ Ok n → out' ≡ settings_record present_version step form ++ drop record_length out
  record-written = writing.wrote step form out r out' a

  -- Refusal 11: exactly by the step out of range, or by the form where the step is in range.
  pub refused-11-unwritten-step : Refuses write_refusal r content_out_of_range step_place ↔ (StepInRange step → ⊥)
  refused-11-unwritten-step = writing.refused-11-step step form out r out' a

  pub refused-11-unwritten-form : Refuses write_refusal r content_out_of_range form_place ↔ (StepInRange step × (FormInRange form → ⊥))
  refused-11-unwritten-form = writing.refused-11-form step form out r out' a

  -- Refusal 8: exactly where both are in range and the output is shorter than a record.
  pub refused-8 : Refuses write_refusal r output_too_short 0 ↔ (InRange step form × (length out < record_length))
  refused-8 = writing.room-refused step form out r out' a

  -- A refusal leaves the output as it was.
  pub output-kept : (e : WriteError) → r ≡ Err e → out' ≡ out
  output-kept = writing.output-kept step form out r out' a

  -- ---- there and back

  -- What was written is read back as the same step and form.
  pub read-back : (n : ℕ) → r ≡ Ok n
      → (q : Result ⊤ RecordError) (settings : Settings) → outcome_of record_refusal q settings ≡ read_settings (take n out')
      → (q ≡ Ok tt) × (settings.step ≡ step) × (form_number settings.form ≡ form)
  read-back n e q settings b =
      (settings-read (take n out') q settings b step form).1 (writing.record-stands step form out r out' a n e, ((settings-written n).0 e).1)

-- And what is read is what is written of its step and form.
pub write-back : (bytes : List ℕ) (settings : Settings) → outcome_of record_refusal (Ok tt) settings ≡ read_settings bytes
    → (out : List ℕ) (r : Result ℕ WriteError) (out' : List ℕ)
    → outcome_of write_refusal r out' ≡ write_settings settings.step (form_number settings.form) out → (n : ℕ) → r ≡ Ok n → take n out' ≡ bytes
write-back bytes settings a out r out' b n e =
    writing.record-stands settings.step (form_number settings.form) out r out' b n e
    ∙ sym ((settings-read bytes (Ok tt) settings a settings.step (form_number settings.form)).0 (refl, refl, refl)).0
