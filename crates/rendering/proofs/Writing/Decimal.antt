-- Decimal digits: the fuel of `digits` does not matter, and a natural's last digit follows those of its tenth.
use Prim.Native.Nat.{ℕ, zero, suc, ◌+◌, ◌/◌, ◌%◌, ◌≤◌, ◌<◌}
use native.Mathlib.Omega.{arith}
use mathlib.Core.Path.{◌≡◌, refl, sym, ap, ◌∙◌, subst, fun_ext}
use mathlib.Core.Bool.{Bool, true, false}
use mathlib.Core.List.{List, [], ◌∷◌, ◌++◌}
use lib.Dec.{ltb}
use borrow.Author.Tests.{lt-ltb, le-ltb, ltb-false}
use Rattle.layout.specs.Text.{digits, decimal}
use Rattle.rendering.specs.declared.printer.Printer.{Printer}
use Rattle.rendering.specs.Wrote.{Puts}
use Rattle.rendering.proofs.Writing.Bytes.{puts-then}

-- more fuel gives the same digits
fuel : (k l n : ℕ) (rest : List ℕ) → n < k → n < l → digits k n rest ≡ digits l n rest
unfolding digits
fuel zero l n rest h i = absurd (omega arith)
fuel (suc k) zero n rest h i = absurd (omega arith)
fuel (suc k) (suc l) n rest h i = by-test (ltb n 10) refl (λ j m. fuel k l (n / 10) ((48 + n % 10) ∷ rest) j m)
  where
    by-test : (b : Bool) → ltb n 10 ≡ b → (n / 10 < k → n / 10 < l → digits k (n / 10) ((48 + n % 10) ∷ rest) ≡ digits l (n / 10) ((48 + n % 10) ∷ rest))
        → ◌≡◌ {A = List ℕ} (elim b [ true ↦ (48 + n) ∷ rest | false ↦ digits k (n / 10) ((48 + n % 10) ∷ rest) ])
        (elim b [ true ↦ (48 + n) ∷ rest | false ↦ digits l (n / 10) ((48 + n % 10) ∷ rest) ])
    by-test true e r = refl
    by-test false e r = let m = ltb-false n 10 e in r (omega arith) (omega arith)

-- the digits of n by its test
digits-by : (k n : ℕ) (rest : List ℕ) (b : Bool) → ltb n 10 ≡ b
    → digits (suc k) n rest ≡ elim b as (λ (x : Bool). List ℕ) [ true ↦ (48 + n) ∷ rest | false ↦ digits k (n / 10) ((48 + n % 10) ∷ rest) ]
unfolding digits
digits-by k n rest b e =
    ap (λ (c : Bool). elim c as (λ (x : Bool). List ℕ) [ true ↦ (48 + n) ∷ rest | false ↦ digits k (n / 10) ((48 + n % 10) ∷ rest) ]) e

-- one digit
decimal-one : (n : ℕ) (rest : List ℕ) → n < 10 → decimal n rest ≡ (48 + n % 10) ∷ rest
decimal-one n rest h = let m : n ≡ n % 10 = omega arith in digits-by n n rest true (lt-ltb n 10 h) ∙ ap (λ (k : ℕ). (48 + k) ∷ rest) m

-- the last digit after the others
decimal-more : (n : ℕ) (rest : List ℕ) → 10 ≤ n → decimal n rest ≡ decimal (n / 10) ((48 + n % 10) ∷ rest)
decimal-more n rest h =
    digits-by n n rest false (le-ltb n 10 h) ∙ fuel n (suc (n / 10)) (n / 10) ((48 + n % 10) ∷ rest) (omega arith) (omega arith)

-- a number of one digit was written
pub wrote-digit : {s s₁ : Printer} (n : ℕ) → n < 10 → Puts (λ rest. ((48 + n % 10) ∷ []) ++ rest) s s₁ → Puts (decimal n) s s₁
wrote-digit {s} {s₁} n h w = subst (λ (X : List ℕ → List ℕ). Puts X s s₁) (fun_ext (λ rest. sym (decimal-one n rest h))) w

-- a number of more digits was written
pub wrote-digits : {s s₁ s₂ : Printer} (n : ℕ) → 10 ≤ n → Puts (decimal (n / 10)) s s₁ → Puts (λ rest. ((48 + n % 10) ∷ []) ++ rest) s₁ s₂ → Puts (decimal n) s s₂
wrote-digits {s} {s₁} {s₂} n h u v = subst (λ (X : List ℕ → List ℕ). Puts X s s₂) (fun_ext (λ rest. sym (decimal-more n rest h))) (puts-then u v)
