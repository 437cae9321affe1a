-- What a function answers, with its errors as refusals, and what stands in the value that it is lent.
use Rattle.std.specs.Prelude.{ℕ, ◌≡◌, Result, Ok, Err}
use Rattle.tree.specs.Check.{Refusal}

-- the code's answer, by the refusals of its errors
abbrev pub answer_of : {A E : Type 0} → (E → Refusal) → Result A E → Result A Refusal
answer_of refusal (Ok a) = Ok a
answer_of refusal (Err e) = Err (refusal e)

-- it is a refusal by this number at this place
abbrev pub Refuses : {A E : Type 0} → (E → Refusal) → Result A E → (number place : ℕ) → Type 0
Refuses refusal r number place = answer_of refusal r ≡ Err (record { number = number; place = place })

-- an answer, and the lent value afterwards
pub data Outcome (A L : Type 0) : Type 0 where
  done : A → L → Outcome A L
  refused : Refusal → L → Outcome A L

-- the code's answer and the lent value as an outcome
abbrev pub outcome_of : {A E L : Type 0} → (E → Refusal) → Result A E → L → Outcome A L
outcome_of refusal (Ok a) left = done a left
outcome_of refusal (Err e) left = refused (refusal e) left
