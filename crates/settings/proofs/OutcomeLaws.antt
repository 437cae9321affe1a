-- What an outcome says of the code's answer and of the lent value.
use Rattle.std.specs.Prelude.{◌≡◌, Result, Ok, Err}
use Rattle.std.proofs.Common.{refl, sym, ◌∙◌, ap}
use Rattle.tree.specs.Clash.{impossible}
use Rattle.tree.specs.Check.{Refusal}
use Rattle.settings.specs.Answers.{answer_of, done, refused, outcome_of}

module _ {A E L : Type 0} (of : E → Refusal) (r : Result A E) where
  pub is-done : {a : A} {left given : L} → outcome_of of r left ≡ done a given → (r ≡ Ok a) × (left ≡ given)
  is-done e = by-answer r refl e
    where
      by-answer : (x : Result A E) → r ≡ x → {a : A} {left given : L} → outcome_of of x left ≡ done a given → (r ≡ Ok a) × (left ≡ given)
      by-answer (Ok b) k e = (cc, cc)
      by-answer (Err b) k e = impossible cc

  pub is-refused : {f : Refusal} {left given : L} → outcome_of of r left ≡ refused f given → (answer_of of r ≡ Err f) × (left ≡ given)
  is-refused e = by-answer r refl e
    where
      by-answer : (x : Result A E) → r ≡ x → {f : Refusal} {left given : L} → outcome_of of x left ≡ refused f given
          → (answer_of of r ≡ Err f) × (left ≡ given)
      by-answer (Ok b) k e = impossible cc
      by-answer (Err b) k e = (ap (answer_of of) k ∙ cc, cc)

-- an answer is no refusal
pub not-both : {X A E : Type 0} (of : E → Refusal) {r : Result A E} {a : A} {f : Refusal} → r ≡ Ok a → answer_of of r ≡ Err f → X
not-both {A = A} of {a = a} {f = f} e h = let c : ◌≡◌ {A = Result A Refusal} (Ok a) (Err f) = sym (ap (answer_of of) e) ∙ h in impossible cc
