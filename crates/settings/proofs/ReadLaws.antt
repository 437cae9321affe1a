-- What reading answers and leaves, by the contract of `read_settings`: each answer exactly where its condition holds.
use Rattle.std.specs.Prelude.{ℕ, ◌≡◌, ◌↔◌, List, Result, Ok, Err, ⊤}
use Rattle.std.proofs.Common.{refl, sym, ◌∙◌, ap}
use Rattle.tree.specs.Check.{Refusal}
use Rattle.layout.specs.declared.settings.Settings.{Settings}
use Rattle.layout.specs.Settings.{defaults}
use Rattle.settings.specs.declared.error.RecordError.{RecordError}
use Rattle.settings.specs.Errors.{refusal, content_out_of_range, record_refusal, bad_layout, step_place, form_place}
use Rattle.settings.specs.Answers.{answer_of, Refuses, outcome_of}
use Rattle.settings.specs.Records.{present_version, form_number, settings_record, settings_of, settings_in, read, read_settings}
use Rattle.settings.specs.Laid.{InRange, IsRecord, StepInRange, FormInRange}
use Rattle.settings.proofs.ContentLaws.{in-range-given, step-refused, form-refused, some_settings}
use Rattle.settings.proofs.AnswerLaws.{is-read}
use Rattle.settings.proofs.RecordLaws as records
use Rattle.settings.proofs.OutcomeLaws.{is-done, is-refused, not-both}

module _ (bytes : List ℕ) (r : Result ⊤ RecordError) (settings : Settings) (a : outcome_of record_refusal r settings ≡ read_settings bytes) where
  given : {x : Result Settings Refusal} → settings_in bytes ≡ x → outcome_of record_refusal r settings ≡ read x
  given e = a ∙ sym (is-read bytes (sym e))

  pub refuses : (f : Refusal) → (answer_of record_refusal r ≡ Err f) ↔ (settings_in bytes ≡ Err f)
  refuses f = (λ e. by-answer (settings_in bytes) refl e, λ e. (is-refused record_refusal r (given e)).0)
    where
      by-answer : (x : Result Settings Refusal) → settings_in bytes ≡ x → answer_of record_refusal r ≡ Err f → settings_in bytes ≡ Err f
      by-answer (Ok s) k e = not-both record_refusal (is-done record_refusal r (given k)).0 e
      by-answer (Err g) k e =
          let h : ◌≡◌ {A = Result ⊤ Refusal} (Err g) (Err f) = sym (is-refused record_refusal r (given k)).0 ∙ e in
          let same : g ≡ f = cc in
          k ∙ ap Err same

  pub reads : (s : Settings) → ((r ≡ Ok tt) × (settings ≡ s)) ↔ (settings_in bytes ≡ Ok s)
  reads s = (λ e. by-answer (settings_in bytes) refl e, λ e. is-done record_refusal r (given e))
    where
      by-answer : (x : Result Settings Refusal) → settings_in bytes ≡ x → (r ≡ Ok tt) × (settings ≡ s) → settings_in bytes ≡ Ok s
      by-answer (Ok t) k e = k ∙ ap Ok (sym (is-done record_refusal r (given k)).1 ∙ e.1)
      by-answer (Err g) k e = not-both record_refusal e.0 (is-refused record_refusal r (given k)).0

  pub defaults-left : (e : RecordError) → r ≡ Err e → settings ≡ defaults
  defaults-left f e = by-answer (settings_in bytes) refl
    where
      by-answer : (x : Result Settings Refusal) → settings_in bytes ≡ x → settings ≡ defaults
      by-answer (Ok t) k = not-both record_refusal (is-done record_refusal r (given k)).0 (ap (answer_of record_refusal) e)
      by-answer (Err g) k = (is-refused record_refusal r (given k)).1

  -- a refusal by its condition on the bytes
  pub through : {P : Type 0} (f : Refusal) → ((settings_in bytes ≡ Err f) ↔ P) → (answer_of record_refusal r ≡ Err f) ↔ P
  through f i = (λ e. i.0 ((refuses f).0 e), λ p. (refuses f).1 (i.1 p))

  pub settings-read : (step form : ℕ)
      → ((r ≡ Ok tt) × (settings.step ≡ step) × (form_number settings.form ≡ form))
      ↔ ((bytes ≡ settings_record present_version step form) × InRange step form)
  settings-read step form = (
    λ h.
        let (c, v, k) = (records.contents-read bytes settings).0 ((reads settings).0 (h.0, refl)) in
        let (i, g, m) = (in-range-given c.step c.form settings).0 k in
        let s : c.step ≡ step = sym g ∙ h.1 in
        let f : c.form ≡ form = sym m ∙ h.2 in
        (rw (v, s, f) at c.is, rw (s, f) at i),
    λ h.
        let (s, k) = some_settings step form h.1 in
        let e = (records.contents-read bytes s).1 (record { version = present_version; step = step; form = form; is = h.0 }, refl, k) in
        let (d, l) = (reads s).1 e in
        let (i, g, m) = (in-range-given step form s).0 k in
        (d, ap (λ (x : Settings). x.step) l ∙ g, ap (λ (x : Settings). form_number x.form) l ∙ m),
  )

  pub refused-9 : ((place : ℕ) × (Refuses record_refusal r bad_layout place)) ↔ (IsRecord bytes → ⊥)
  refused-9 = (
    λ e. (records.layout-refuses bytes).0 (e.0, (refuses (refusal bad_layout e.0)).0 e.1),
    λ n. let e = (records.layout-refuses bytes).1 n in (e.0, (refuses (refusal bad_layout e.0)).1 e.1),
  )

  -- refusal 11, by its condition on the contents
  by-contents : {P : ℕ → ℕ → Type 0} (place : ℕ)
      → ((step form : ℕ) → (settings_of step form ≡ Err (refusal content_out_of_range place)) ↔ P step form)
      → Refuses record_refusal r content_out_of_range place ↔ ((c : IsRecord bytes) × (c.version ≡ present_version) × P c.step c.form)
  by-contents place i =
      through (refusal content_out_of_range place) (
        λ e. let h = (records.contents-refused bytes place).0 e in (h.0, h.1, (i h.0.step h.0.form).0 h.2),
        λ h. (records.contents-refused bytes place).1 (h.0, h.1, (i h.0.step h.0.form).1 h.2),
      )

  pub refused-11-step : Refuses record_refusal r content_out_of_range step_place
      ↔ ((c : IsRecord bytes) × (c.version ≡ present_version) × (StepInRange c.step → ⊥))
  refused-11-step = by-contents {P = λ step form. StepInRange step → ⊥} step_place step-refused

  pub refused-11-form : Refuses record_refusal r content_out_of_range form_place
      ↔ ((c : IsRecord bytes) × (c.version ≡ present_version) × (StepInRange c.step × (FormInRange c.form → ⊥)))
  refused-11-form = by-contents {P = λ step form. StepInRange step × (FormInRange form → ⊥)} form_place form-refused
