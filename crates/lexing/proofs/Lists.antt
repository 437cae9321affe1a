-- The definitions of runs and of comparison, against std's.
use Rattle.std.proofs.Common.{◌≡◌, refl, ap, ◌∙◌, Bool, true, false, ◌&&◌, ◌||◌, List, [], ◌∷◌, ℕ, suc, ◌+◌, ◌-◌, length, take, drop, length-drop, nat_eq, cond, arith, one-add}
use Rattle.std.proofs.lemmas.Bool.Decides.{nat_tests}
use Rattle.std.specs.List.{prefix_len, list_any}
use Rattle.std.specs.Cmp.Lexicographic.{pointwise}
use Rattle.std.proofs.lemmas.List.Folds.{length-prefix_len}
use Rattle.std.proofs.Math.Seq.{take_all}
use native.Mathlib.Nat.{le_of_eq}
use Rattle.lexing.specs.Bytes.{one_of, run, starts_with, same_bytes}

-- equality either way round
eq_either_way : (a b : ℕ) → nat_eq a b ≡ nat_eq b a
eq_either_way a b = grind (arith, nat_tests)

-- what `contains` answers
pub any_is : (b : ℕ) (w : List ℕ) → list_any (λ y. nat_eq y b) w ≡ one_of w b
any_is b [] = refl
any_is b (a ∷ w) = ap (λ t. t || list_any (λ y. nat_eq y b) w) (eq_either_way a b) ∙ ap (λ t. nat_eq b a || t) (any_is b w)

-- a run is as long as what `take_while` gives
by_prefix : (p : ℕ → Bool) (s : List ℕ) → prefix_len p s ≡ run p s
unfolding run
by_prefix p [] = refl
by_prefix p (b ∷ s) = by_test (p b) (by_prefix p s)
  where
    by_test : (t : Bool) → prefix_len p s ≡ run p s → cond t (1 + prefix_len p s) 0 ≡ elim t [ true ↦ suc (run p s) | false ↦ 0 ]
    by_test true e = one-add (prefix_len p s) ∙ ap suc e
    by_test false e = refl

pub run_prefix : (p : ℕ → Bool) (s : List ℕ) → length (take (prefix_len p s) s) ≡ run p s
run_prefix p s = length-prefix_len p s ∙ by_prefix p s

-- `&s[at..]` is the rest from `at` on
pub suffix : (s : List ℕ) (at : ℕ) → take (length s - at) (drop at s) ≡ drop at s
suffix s at = take_all (length s - at) (drop at s) (le_of_eq (length-drop at s))

-- std's comparison of the first bytes
pub starts_pointwise : (w s : List ℕ) → pointwise nat_eq w (take (length w) s) ≡ starts_with w s
unfolding starts_with
starts_pointwise [] s = refl
starts_pointwise (a ∷ w) [] = refl
starts_pointwise (a ∷ w) (b ∷ s) = ap (λ t. nat_eq a b && t) (starts_pointwise w s)

-- and of all
pub same_pointwise : (a b : List ℕ) → pointwise nat_eq a b ≡ same_bytes a b
unfolding same_bytes
same_pointwise [] [] = refl
same_pointwise [] (y ∷ b) = refl
same_pointwise (x ∷ a) [] = refl
same_pointwise (x ∷ a) (y ∷ b) = ap (λ t. t && pointwise nat_eq a b) (eq_either_way x y) ∙ ap (λ t. nat_eq y x && t) (same_pointwise a b)
