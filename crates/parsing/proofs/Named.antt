-- Lemmas that docs/PORT.md names: an answer that is not of one form is of one of the others, and a Bool's word by its number.
use Rattle.std.proofs.Common.{◌≡◌, refl, ℕ, zero, suc, ◌≤◌, arith, Bool, Option, None, Some, Result, Ok, Err}
use mathlib.Core.Logic.{◌⊎◌, inl, inr}
use Rattle.std.specs.Prelude.{eqb}
use Rattle.lexing.specs.declared.refusal.Refusal.{Refusal}
use Rattle.lexing.specs.declared.token.Token.{Token}
use Rattle.tree.specs.Words.{bool_word}
use Rattle.parsing.specs.declared.sign.Sign.{Sign}

-- an answer of any kind that is not a value is nothing or a refusal, and one that is not nothing is a value or a refusal
answer-not_ok : {A : Type 0} {r : Result (Option A) Refusal} → ((v : A) → r ≡ Ok (Some v) → ⊥) → (r ≡ Ok None) ⊎ ((e : Refusal) × (r ≡ Err e))
answer-not_ok {r = Ok (Some v)} h = absurd (h v refl)
answer-not_ok {r = Ok None} h = inl refl
answer-not_ok {r = Err e} h = inr (e, refl)

answer-not_none : {A : Type 0} {r : Result (Option A) Refusal} → (r ≡ Ok None → ⊥) → ((v : A) × (r ≡ Ok (Some v))) ⊎ ((e : Refusal) × (r ≡ Err e))
answer-not_none {r = Ok (Some v)} h = inl (v, refl)
answer-not_none {r = Ok None} h = absurd (h refl)
answer-not_none {r = Err e} h = inr (e, refl)

-- of a rule that builds
pub built-not_ok : {r : Result (Option ℕ) Refusal} → ((node : ℕ) → r ≡ Ok (Some node) → ⊥) → (r ≡ Ok None) ⊎ ((e : Refusal) × (r ≡ Err e))
built-not_ok = answer-not_ok

pub built-not_none : {r : Result (Option ℕ) Refusal} → (r ≡ Ok None → ⊥) → ((node : ℕ) × (r ≡ Ok (Some node))) ⊎ ((e : Refusal) × (r ≡ Err e))
built-not_none = answer-not_none

-- of a token
pub lexed-not_ok : {r : Result (Option Token) Refusal} → ((t : Token) → r ≡ Ok (Some t) → ⊥) → (r ≡ Ok None) ⊎ ((e : Refusal) × (r ≡ Err e))
lexed-not_ok = answer-not_ok

pub lexed-not_none : {r : Result (Option Token) Refusal} → (r ≡ Ok None → ⊥) → ((t : Token) × (r ≡ Ok (Some t))) ⊎ ((e : Refusal) × (r ≡ Err e))
lexed-not_none = answer-not_none

-- of an operator
pub sign-not_none : {r : Result (Option Sign) Refusal} → (r ≡ Ok None → ⊥) → ((s : Sign) × (r ≡ Ok (Some s))) ⊎ ((e : Refusal) × (r ≡ Err e))
sign-not_none = answer-not_none

-- a Bool's word
abbrev pub bool_of : ℕ → Bool
bool_of u = eqb u 1

pub bool_word_lem : (u : ℕ) → u ≤ 1 → u ≡ bool_word (bool_of u)
bool_word_lem zero l = refl
bool_word_lem (suc zero) l = refl
bool_word_lem (suc (suc u)) l = absurd (omega arith)
