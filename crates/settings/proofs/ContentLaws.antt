-- The check of a step and a form: each answer exactly where its condition holds.
use Rattle.std.specs.Prelude.{ℕ, zero, suc, ◌<◌, ◌≤◌, ◌≡◌, ◌⊎◌, ◌↔◌, Bool, true, false, leb, Result, Ok, Err}
use Rattle.std.proofs.Common.{arith, refl, sym, ◌∙◌, ap, subst, inl, inr}
use borrow.Author.Tests.{le-leb, lt-leb, leb-true, leb-false}
use Rattle.tree.specs.Clash.{impossible}
use Rattle.tree.specs.Check.{Refusal}
use Rattle.layout.specs.declared.settings.Form.{Form}
use Rattle.layout.specs.declared.settings.Form.TheVariants.{OneLine, Broken}
use Rattle.layout.specs.declared.settings.Settings.{Settings}
use Rattle.settings.specs.Errors.{refusal, content_out_of_range, step_place, form_place}
use Rattle.settings.specs.Records.{least_step, most_step, form_number, with_step, settings_of}
use Rattle.settings.specs.Laid.{StepInRange, FormInRange, InRange}
use Rattle.settings.proofs.RefusalLaws.{one_refusal}

module _ (step form : ℕ) where
  pub step-in-range : least_step ≤ step → step ≤ most_step → settings_of step form ≡ with_step step form
  unfolding settings_of
  step-in-range l m = rw (le-leb least_step step l, le-leb step most_step m) refl

  pub step-out-of-range : {A : Type 0} → (step < least_step) ⊎ (A × (most_step < step))
      → settings_of step form ≡ Err (refusal content_out_of_range step_place)
  unfolding settings_of
  step-out-of-range (inl l) = rw (lt-leb least_step step l) refl
  step-out-of-range (inr h) =
      let m : most_step < step = h.1 in let l : least_step ≤ step = omega arith in
      rw (le-leb least_step step l, lt-leb step most_step m) refl

-- the number of a form is that form's
with-number : (step : ℕ) (form : Form) → with_step step (form_number form) ≡ Ok (record { step = step; form = form })
with-number step OneLine = refl
with-number step Broken = refl

-- an answer, by what is in range
data Case (step form : ℕ) (a : Result Settings Refusal) : Type 0 where
  step-out : (StepInRange step → ⊥) → a ≡ Err (refusal content_out_of_range step_place) → Case step form a
  form-out : StepInRange step → (FormInRange form → ⊥) → a ≡ Err (refusal content_out_of_range form_place) → Case step form a
  in-range : InRange step form → (f : Form) → form_number f ≡ form → a ≡ Ok (record { step = step; form = f }) → Case step form a

form-case : (step form : ℕ) → StepInRange step → Case step form (with_step step form)
form-case step zero s = in-range (s, omega arith) OneLine refl refl
form-case step (suc zero) s = in-range (s, omega arith) Broken refl refl
form-case step (suc (suc n)) s = form-out s (λ (h : suc (suc n) ≤ 1). omega arith) refl

module _ (step form : ℕ) where
  case : Case step form (settings_of step form)
  case = by-step (leb least_step step) refl (leb step most_step) refl
    where
      by-step : (l : Bool) → leb least_step step ≡ l → (m : Bool) → leb step most_step ≡ m → Case step form (settings_of step form)
      by-step false e m f = let k = leb-false least_step step e in step-out (λ h. omega (arith, h.0)) (step-out-of-range step form {A = ℕ} (inl k))
      by-step true e false f =
          let k = leb-false step most_step f in
          step-out (λ h. omega (arith, h.1)) (step-out-of-range step form {A = ℕ} (inr (0, k)))
      by-step true e true f =
          let s : StepInRange step = (leb-true least_step step e, leb-true step most_step f) in
          subst (Case step form) (sym (step-in-range step form s.0 s.1)) (form-case step form s)

  -- there is no refusal but 11
  pub only-11 : {number place : ℕ} → settings_of step form ≡ Err (refusal number place) → content_out_of_range ≡ number
  only-11 e =
      elim case [
        | step-out n k ↦ (one_refusal k e).0
        | form-out s n k ↦ (one_refusal k e).0
        | in-range i f h k ↦ let z = sym k ∙ e in impossible cc
      ]

  -- and none where both are in range
  pub refused-out-of-range : {f : Refusal} → settings_of step form ≡ Err f → InRange step form → ⊥
  refused-out-of-range e i = elim case [ step-out n k ↦ n i.0 | form-out s n k ↦ n i.1 | in-range j f h k ↦ let z = sym k ∙ e in impossible cc ]

  pub step-refused : (settings_of step form ≡ Err (refusal content_out_of_range step_place)) ↔ (StepInRange step → ⊥)
  step-refused = (
    λ e. elim case [
      | step-out n k ↦ n
      | form-out s n k ↦ let z : ◌≡◌ {A = ℕ} 11 7 = (one_refusal k e).1 in absurd (omega arith)
      | in-range i f h k ↦ let z = sym k ∙ e in impossible cc
    ],
    λ n. elim case [ step-out m k ↦ k | form-out s m k ↦ absurd (n s) | in-range i f h k ↦ absurd (n i.0) ],
  )

  pub form-refused : (settings_of step form ≡ Err (refusal content_out_of_range form_place)) ↔ (StepInRange step × (FormInRange form → ⊥))
  form-refused = (
    λ e. elim case [
      | step-out n k ↦ let z : ◌≡◌ {A = ℕ} 7 11 = (one_refusal k e).1 in absurd (omega arith)
      | form-out s n k ↦ (s, n)
      | in-range i f h k ↦ let z = sym k ∙ e in impossible cc
    ],
    λ h. elim case [ step-out n k ↦ absurd (n h.0) | form-out s n k ↦ k | in-range i f g k ↦ absurd (h.1 i.1) ],
  )

  pub in-range-given : (settings : Settings) → (settings_of step form ≡ Ok settings)
      ↔ (InRange step form × (settings.step ≡ step) × (form_number settings.form ≡ form))
  in-range-given settings = (
    λ e. elim case [
      | step-out n k ↦ let z = sym k ∙ e in impossible cc
      | form-out s n k ↦ let z = sym k ∙ e in impossible cc
      | in-range i f h k ↦
          let z : ◌≡◌ {A = Settings} (record { step = step; form = f }) settings = cc in
          (i, ap (λ (x : Settings). x.step) (sym z), ap (λ (x : Settings). form_number x.form) (sym z) ∙ h)
    ],
    λ h.
        let l : least_step ≤ settings.step = omega (arith, h.0.0.0, h.1) in
        let m : settings.step ≤ most_step = omega (arith, h.0.0.1, h.1) in
        rw (sym h.1, sym h.2) (step-in-range settings.step (form_number settings.form) l m ∙ with-number settings.step settings.form),
  )

  -- a step and a form in range are settings
  pub some_settings : InRange step form → (s : Settings) × (settings_of step form ≡ Ok s)
  some_settings i =
      elim case [
        | step-out n k ↦ absurd (n i.0)
        | form-out s n k ↦ absurd (n i.1)
        | in-range j f h k ↦ (record { step = step; form = f }, k)
      ]
