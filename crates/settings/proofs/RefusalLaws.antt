-- Two refusals of one answer have one number and one place.
use Rattle.std.specs.Prelude.{ℕ, ◌≡◌, Result, Err}
use Rattle.std.proofs.Common.{sym, ◌∙◌, ap}
use Rattle.tree.specs.Check.{Refusal}
use Rattle.settings.specs.Errors.{refusal}

pub one_refusal : {A : Type 0} {a : Result A Refusal} {m n p q : ℕ} → a ≡ Err (refusal m p) → a ≡ Err (refusal n q) → (m ≡ n) × (p ≡ q)
one_refusal {A = A} {m = m} {n = n} {p = p} {q = q} e f =
    let h : ◌≡◌ {A = Result A Refusal} (Err (refusal m p)) (Err (refusal n q)) = sym e ∙ f in
    let k : refusal m p ≡ refusal n q = cc in
    (ap (λ (x : Refusal). x.number) k, ap (λ (x : Refusal). x.place) k)
