-- What writing answers and leaves, by the contract of `write_settings`: each answer exactly where its condition holds.
use Rattle.std.specs.Prelude.{ℕ, ◌<◌, ◌≤◌, ◌≡◌, ◌↔◌, Bool, true, false, leb, List, ◌++◌, length, take, drop, Result, Ok, Err}
use Rattle.std.proofs.Common.{arith, refl, sym, ◌∙◌, ap}
use borrow.Author.Tests.{leb-true, leb-false}
use Rattle.tree.specs.Check.{Refusal}
use Rattle.layout.specs.declared.settings.Settings.{Settings}
use Rattle.settings.specs.declared.error.WriteError.{WriteError}
use Rattle.settings.specs.Errors.{refusal, output_too_short, content_out_of_range, write_refusal, step_place, form_place}
use Rattle.settings.specs.Answers.{answer_of, Refuses, done, refused, outcome_of}
use Rattle.settings.specs.Records.{record_length, present_version, settings_record, settings_of, settings_bytes, write_settings}
use Rattle.settings.specs.Laid.{InRange, StepInRange, FormInRange}
use Rattle.settings.proofs.RefusalLaws.{one_refusal}
use Rattle.settings.proofs.ContentLaws.{only-11, refused-out-of-range, in-range-given, step-refused, form-refused}
use Rattle.settings.proofs.AnswerLaws.{is-written, is-stored, is-too-long}
use Rattle.settings.proofs.OutcomeLaws.{is-done, is-refused, not-both}

-- the record of settings of a step and a form is that of their numbers
same_record : (step form : ℕ) (s : Settings) → settings_of step form ≡ Ok s → settings_bytes s ≡ settings_record present_version step form
same_record step form s e = let h = (in-range-given step form s).0 e in rw (h.1, h.2) refl

module _ (step form : ℕ) (out : List ℕ) where
  -- what is written, by cases
  data Case : Type 0 where
    content : (f : Refusal) → settings_of step form ≡ Err f → write_settings step form out ≡ refused f out → Case
    short : InRange step form → length out < record_length → write_settings step form out ≡ refused (refusal output_too_short 0) out → Case
    fits : InRange step form → record_length ≤ length out
        → write_settings step form out ≡ done record_length (settings_record present_version step form ++ drop record_length out) → Case

  case : Case
  case = by-contents (settings_of step form) refl (leb record_length (length out)) refl
    where
      by-contents : (x : Result Settings Refusal) → settings_of step form ≡ x → (b : Bool) → leb record_length (length out) ≡ b → Case
      by-contents (Err f) e b l = content f e (sym (is-written out step form (sym e)))
      by-contents (Ok s) e false l =
          let h = (in-range-given step form s).0 e in let k = leb-false record_length (length out) l in
          short h.0 k (sym (is-written out step form (sym e)) ∙ sym (is-too-long out (settings_bytes s) k))
      by-contents (Ok s) e true l =
          let h = (in-range-given step form s).0 e in let k = leb-true record_length (length out) l in
          fits h.0 k
          (sym (is-written out step form (sym e)) ∙ sym (is-stored out (settings_bytes s) k)
          ∙ ap (λ (bytes : List ℕ). done record_length (bytes ++ drop record_length out)) (same_record step form s e))

  module _ (r : Result ℕ WriteError) (out' : List ℕ) (a : outcome_of write_refusal r out' ≡ write_settings step form out) where
    pub writes : (n : ℕ) → (r ≡ Ok n) ↔ ((n ≡ record_length) × InRange step form × (record_length ≤ length out))
    writes n = (
      λ e. elim case [
        | content f k w ↦ not-both write_refusal e (is-refused write_refusal r (a ∙ w)).0
        | short i l w ↦ not-both write_refusal e (is-refused write_refusal r (a ∙ w)).0
        | fits i l w ↦ let d : ◌≡◌ {A = Result ℕ WriteError} (Ok n) (Ok record_length) = sym e ∙ (is-done write_refusal r (a ∙ w)).0 in (cc, i, l)
      ],
      λ h. elim case [
        | content f k w ↦ absurd (refused-out-of-range step form k h.1)
        | short i l w ↦ absurd (omega (arith, h.2))
        | fits i l w ↦ (is-done write_refusal r (a ∙ w)).0 ∙ ap Ok (sym h.0)
      ],
    )

    pub wrote : (n : ℕ) → r ≡ Ok n → out' ≡ settings_record present_version step form ++ drop record_length out
    wrote n e =
        elim case [
          | content f k w ↦ not-both write_refusal e (is-refused write_refusal r (a ∙ w)).0
          | short i l w ↦ not-both write_refusal e (is-refused write_refusal r (a ∙ w)).0
          | fits i l w ↦ (is-done write_refusal r (a ∙ w)).1
        ]

    pub contents-refused : (place : ℕ)
        → Refuses write_refusal r content_out_of_range place ↔ (settings_of step form ≡ Err (refusal content_out_of_range place))
    contents-refused place = (
      λ e. elim case [
        | content f k w ↦
            let h : ◌≡◌ {A = Result ℕ Refusal} (Err f) (Err (refusal content_out_of_range place)) = sym (is-refused write_refusal r (a ∙ w)).0 ∙ e in
            let same : f ≡ refusal content_out_of_range place = cc in k ∙ ap Err same
        | short i l w ↦ let z : ◌≡◌ {A = ℕ} 8 11 = (one_refusal (is-refused write_refusal r (a ∙ w)).0 e).0 in absurd (omega arith)
        | fits i l w ↦ not-both write_refusal (is-done write_refusal r (a ∙ w)).0 e
      ],
      λ k. (is-refused write_refusal r (a ∙ sym (is-written out step form (sym k)))).0,
    )

    pub room-refused : Refuses write_refusal r output_too_short 0 ↔ (InRange step form × (length out < record_length))
    room-refused = (
      λ e. elim case [
        | content f k w ↦
            let h : ◌≡◌ {A = Result ℕ Refusal} (Err f) (Err (refusal output_too_short 0)) = sym (is-refused write_refusal r (a ∙ w)).0 ∙ e in
            let same : f ≡ refusal output_too_short 0 = cc in
            let z : ◌≡◌ {A = ℕ} 11 8 = only-11 step form (k ∙ ap Err same) in
            absurd (omega arith)
        | short i l w ↦ (i, l)
        | fits i l w ↦ not-both write_refusal (is-done write_refusal r (a ∙ w)).0 e
      ],
      λ h. elim case [
        | content f k w ↦ absurd (refused-out-of-range step form k h.0)
        | short i l w ↦ (is-refused write_refusal r (a ∙ w)).0
        | fits i l w ↦ absurd (omega (arith, h.1))
      ],
    )

    pub output-kept : (e : WriteError) → r ≡ Err e → out' ≡ out
    output-kept f e =
        elim case [
          | content g k w ↦ (is-refused write_refusal r (a ∙ w)).1
          | short i l w ↦ (is-refused write_refusal r (a ∙ w)).1
          | fits i l w ↦ not-both write_refusal (is-done write_refusal r (a ∙ w)).0 (ap (answer_of write_refusal) e)
        ]

    pub refused-11-step : Refuses write_refusal r content_out_of_range step_place ↔ (StepInRange step → ⊥)
    refused-11-step =
        let i = contents-refused step_place in let j = step-refused step form in (λ e. j.0 (i.0 e), λ n. i.1 (j.1 n))

    pub refused-11-form : Refuses write_refusal r content_out_of_range form_place ↔ (StepInRange step × (FormInRange form → ⊥))
    refused-11-form =
        let i = contents-refused form_place in let j = form-refused step form in (λ e. j.0 (i.0 e), λ n. i.1 (j.1 n))

    -- the first bytes of the output are the record
    pub record-stands : (n : ℕ) → r ≡ Ok n → take n out' ≡ settings_record present_version step form
    record-stands n e = rw (((writes n).0 e).0, wrote n e) refl
