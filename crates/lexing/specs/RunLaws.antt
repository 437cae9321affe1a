-- Laws of tests and runs: a run lies inside the text, its bytes satisfy the test, and it is maximal.
use Rattle.std.specs.Prelude.{◌≡◌, refl, Bool, true, false, ◌&&◌, List, [], ◌∷◌, ℕ, zero, suc, ◌≤◌, ◌<◌, length, get_or}
use Rattle.std.proofs.Common.{zero-le, suc-le-suc, arith}
use Rattle.lexing.specs.Answer.{pick}
use Rattle.lexing.specs.Bytes.{run}

-- ---- tests

-- what holds of each of two under its test holds of the one chosen
pub pick-case : {X : Type 0} (P : X → Type 0) (t : Bool) {a b : X} → (t ≡ true → P a) → (t ≡ false → P b) → P (pick t a b)
pick-case P true f g = f refl
pick-case P false f g = g refl

-- what holds of both branches holds of the choice
pub pick-both : {X : Type 0} (P : X → Type 0) (b : Bool) {x y : X} → P x → P y → P (pick b x y)
pick-both P b p q = pick-case P b (λ e. p) (λ e. q)

-- a choice, by its test
pub pick-cases : {X : Type 0} {Q : Type 0} (b : Bool) {x y r : X} → pick b x y ≡ r → (b ≡ true → x ≡ r → Q) → (b ≡ false → y ≡ r → Q) → Q
pick-cases true e f g = f refl e
pick-cases false e f g = g refl e

-- both tests of a conjunction are true
pub both_true : (a b : Bool) → (a && b) ≡ true → (a ≡ true) × (b ≡ true)
both_true true b e = (refl, e)
both_true false b e = cc

-- ---- runs

-- what holds of a run, by the test of its first byte
pub run-case : (P : ℕ → Type 0) (p : ℕ → Bool) (b : ℕ) (s : List ℕ) → (p b ≡ true → P (suc (run p s))) → (p b ≡ false → P 0) → P (run p (b ∷ s))
unfolding run
run-case P p b s f g = by-test (p b) refl
  where
    by-test : (t : Bool) → p b ≡ t → P (elim t [ true ↦ suc (run p s) | false ↦ 0 ])
    by-test true e = f e
    by-test false e = g e

-- a run lies inside the text
pub run_inside : (p : ℕ → Bool) (s : List ℕ) → run p s ≤ length s
unfolding run
run_inside p [] = zero-le
run_inside p (b ∷ s) = run-case (λ n. n ≤ suc (length s)) p b s (λ _. suc-le-suc (run_inside p s)) (λ _. zero-le)

-- every byte of a run satisfies the test
pub run-all : (p : ℕ → Bool) (s : List ℕ) (i : ℕ) → i < run p s → p (get_or s i 0) ≡ true
unfolding run
run-all p [] i h = absurd (omega arith)
run-all p (b ∷ s) zero h = run-case (λ n. 0 < n → p b ≡ true) p b s (λ e _. e) (λ _ h. absurd (omega arith)) h
run-all p (b ∷ s) (suc i) h =
    run-case (λ n. suc i < n → p (get_or s i 0) ≡ true) p b s (λ _ h. run-all p s i (omega arith)) (λ _ h. absurd (omega arith)) h

-- and the byte after it does not: a run is maximal
pub run-maximal : (p : ℕ → Bool) (s : List ℕ) → run p s < length s → p (get_or s (run p s) 0) ≡ false
unfolding run
run-maximal p [] h = absurd (omega arith)
run-maximal p (b ∷ s) h =
    run-case (λ n. n < suc (length s) → p (get_or (b ∷ s) n 0) ≡ false) p b s (λ _ h. run-maximal p s (omega arith)) (λ e _. e) h

-- the same with no bound, of a test that the 0 past the end fails
pub run_ends : (p : ℕ → Bool) → p 0 ≡ false → (s : List ℕ) → p (get_or s (run p s) 0) ≡ false
unfolding run
run_ends p z [] = z
run_ends p z (b ∷ s) = run-case (λ n. p (get_or (b ∷ s) n 0) ≡ false) p b s (λ _. run_ends p z s) (λ e. e)
