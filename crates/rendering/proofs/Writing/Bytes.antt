-- Writes one after the other, and the writes of bytes.
use Prim.Native.Nat.{ℕ, ◌+◌, ◌≤◌, ◌<◌, min}
use native.Mathlib.Omega.{arith}
use mathlib.Core.Path.{◌≡◌, refl, sym, ap, ◌∙◌}
use mathlib.Core.List.{List, ◌++◌, append_assoc}
use lib.ListN.{length, take, length-append}
use lib.Seq.{paste, take-paste, length-paste, take-length}
use Rattle.rendering.specs.declared.printer.Printer.{Printer}
use Rattle.rendering.specs.Wrote.{Wrote, Puts}

-- nothing is written
pub none : (b : List ℕ) (p : ℕ) → Wrote (λ rest. rest) b p b p
none b p =
    record {
      size = 0;
      adds = λ rest. omega arith;
      same = refl;
      place = ap (λ (k : ℕ). min k (length b + 1)) (omega arith);
      bytes = λ h rest. refl;
    }

-- the places of two prints add up
place-then : (p m p₁ n p₂ l : ℕ) → min p₁ (l + 1) ≡ min (p + m) (l + 1) → min p₂ (l + 1) ≡ min (p₁ + n) (l + 1)
    → min p₂ (l + 1) ≡ min (p + (m + n)) (l + 1)
place-then p m p₁ n p₂ l e f = omega arith

-- X, and then Y
pub then : {X Y : List ℕ → List ℕ} {b b₁ b₂ : List ℕ} {p p₁ p₂ : ℕ} → Wrote X b p b₁ p₁ → Wrote Y b₁ p₁ b₂ p₂ → Wrote (λ rest. X (Y rest)) b p b₂ p₂
then {X} {Y} {b} {b₁} {b₂} {p} {p₁} {p₂} u v =
    let e : min p₂ (length b + 1) ≡ min (p₁ + v.size) (length b + 1) = rw u.same at v.place in
    record {
      size = u.size + v.size;
      adds = λ rest. let f = u.adds (Y rest) in let g = v.adds rest in omega arith;
      same = v.same ∙ u.same;
      place = place-then p u.size p₁ v.size p₂ (length b) u.place e;
      bytes = λ h rest.
          let h₁ : p₁ ≤ length b = omega arith in
          let s : length b₁ ≡ length b = u.same in
          v.bytes (omega arith) rest ∙ u.bytes h₁ (Y rest);
    }

-- the same by a printer
pub puts-then : {X Y : List ℕ → List ℕ} {s s₁ s₂ : Printer} → Puts X s s₁ → Puts Y s₁ s₂ → Puts (λ rest. X (Y rest)) s s₂
puts-then u v =
    record { source = v.source ∙ u.source; output = v.output ∙ u.output; still = v.still ∙ u.still; wrote = then u.wrote v.wrote }

-- bytes that fit, and bytes that do not
pub stored : (b : List ℕ) (p : ℕ) (x : List ℕ) (n : ℕ) (b' : List ℕ) → length x ≡ n → p + n ≤ length b → b' ≡ paste b p x n → Wrote (λ rest. x ++ rest) b p b' (p + n)
stored b p x n b' l h e =
    record {
      size = n;
      adds = λ rest. let k = length-append x rest in omega (arith, k, l);
      same = ap length e ∙ length-paste b p x n h (omega (arith, l));
      place = refl;
      bytes = λ _ rest.
          ap (λ (w : List ℕ). take (p + n) w ++ rest) e
          ∙ ap (λ (w : List ℕ). w ++ rest) (take-paste b p x n (omega arith) (omega (arith, l)))
          ∙ ap (λ (k : ℕ). (take p b ++ take k x) ++ rest) (sym l)
          ∙ ap (λ (w : List ℕ). (take p b ++ w) ++ rest) (take-length x)
          ∙ append_assoc (take p b) x rest;
    }

pub over : (b : List ℕ) (p : ℕ) (x : List ℕ) (n : ℕ) → length x ≡ n → length b < p + n → Wrote (λ rest. x ++ rest) b p b (length b + 1)
over b p x n l h =
    record {
      size = n;
      adds = λ rest. let k = length-append x rest in omega (arith, k, l);
      same = refl;
      place = omega arith;
      bytes = λ k rest. absurd (omega arith);
    }
