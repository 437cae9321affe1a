-- The loop of `decimal`, and the ways out of `natural`.
use Rattle.std.proofs.Common.{◌≡◌, refl, sym, ◌∙◌, Bool, true, false, List, [], ◌∷◌, ℕ, ◌+◌, ◌*◌, ◌-◌, ◌≤◌, ◌<◌, length, get_or, take, drop, leb, Some, None, arith, add-one, drop-cons}
use borrow.Author.Tests.{le-leb, lt-leb, leb-true, leb-false}
use lib.ListN.{drop_of_length-le}
use Rattle.lexing.specs.Answer.{Answer, refused, large_natural, pick}
use Rattle.lexing.specs.Bytes.{is_digit, run}
use Rattle.lexing.specs.Tokens.{decimal, most_natural, lexeme, natural}
use Rattle.lexing.specs.TokenLaws.{unless_empty-none, unless_empty-some}
use Rattle.lexing.specs.CodeAnswers.{number_of}

-- where the code answers a number, it is n, and n fits
number_some : (n v : ℕ) → Some v ≡ number_of n → (v ≡ n) × (leb n most_natural ≡ true)
number_some n v e = by_test (leb n most_natural) refl e
  where
    by_test : (t : Bool) → leb n most_natural ≡ t → Some v ≡ pick t (Some n) None → (v ≡ n) × (leb n most_natural ≡ true)
    by_test true p e = (cc, p)
    by_test false p e = cc

-- and where it answers none, n does not fit
number_none : (n : ℕ) → None ≡ number_of n → leb n most_natural ≡ false
number_none n e = by_test (leb n most_natural) refl e
  where
    by_test : (t : Bool) → leb n most_natural ≡ t → None ≡ pick t (Some n) None → leb n most_natural ≡ false
    by_test true p e = cc
    by_test false p e = p

-- more digits make no smaller number
decimal-grows : (v : ℕ) (s : List ℕ) → v ≤ decimal v s
unfolding decimal
decimal-grows v [] = omega arith
decimal-grows v (d ∷ s) = omega (arith, decimal-grows (v * 10 + (d - 48)) s)

-- the loop of `decimal` at i, where the digits before stand for v
pub record Summed (s : List ℕ) (v i : ℕ) : Type 0 where
  pub fits : v ≤ most_natural
  pub says : decimal 0 s ≡ decimal v (drop i s)

pub summed_start : (s : List ℕ) → Summed s 0 0
summed_start s = record { fits = omega arith; says = refl }

module _ {s : List ℕ} {v i : ℕ} (o : Summed s v i) where
  module _ (h : i < length s) where
    summed_next : decimal 0 s ≡ decimal (v * 10 + (get_or s i 0 - 48)) (drop (i + 1) s)
    unfolding decimal
    summed_next = o.says ∙ rw (add-one, drop-cons s i 0)

    -- a digit that takes the number past the largest natural
    pub summed_exceeds : None ≡ number_of (v * 10 + (get_or s i 0 - 48)) → None ≡ number_of (decimal 0 s)
    summed_exceeds e =
        let p = leb-false _ _ (number_none _ e) in
        let q : most_natural < decimal 0 s = rw summed_next (omega (arith, decimal-grows (v * 10 + (get_or s i 0 - 48)) (drop (i + 1) s))) in
        simp (lt-leb _ _ q)

    pub summed_more : {w : ℕ} → Some w ≡ number_of (v * 10 + (get_or s i 0 - 48)) → Summed s w (i + 1)
    summed_more {w} e =
        let (q, p) = number_some _ _ e in
        record { fits = rw q (leb-true _ _ p); says = rw q summed_next }

  pub summed_end : length s ≤ i → Some v ≡ number_of (decimal 0 s)
  unfolding decimal
  summed_end h = let q : decimal 0 s ≡ v = o.says ∙ rw (drop_of_length-le s h) in simp (q, le-leb _ _ o.fits)

-- a natural, by the number of its digits and what `decimal` answered for them
module _ (s : List ℕ) {n : ℕ} (d : n ≡ run is_digit s) where
  pub natural_none : n ≡ 0 → Answer.none ≡ natural s
  unfolding natural
  natural_none z = unless_empty-none _ _ (sym d ∙ z)

  module _ (z : n ≡ 0 → ⊥) where
    pub natural_value : {v : ℕ} → Some v ≡ number_of (decimal 0 (take n s)) → lexeme v n s ≡ natural s
    unfolding natural
    natural_value {v} e =
        let (w, p) = number_some (decimal 0 (take n s)) v e in
        rw (← d) (simp (p, ← w) (unless_empty-some n _ z))

    pub natural_large : None ≡ number_of (decimal 0 (take n s)) → refused large_natural 0 ≡ natural s
    unfolding natural
    natural_large e = rw (← d) (simp (number_none (decimal 0 (take n s)) e) (unless_empty-some n _ z))
