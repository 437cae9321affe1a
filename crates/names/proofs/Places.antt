-- Elements of a list after a store; whether two places have the same keys, and the first place with some.
use Rattle.std.proofs.Common.{ℕ, ◌<◌, ◌≤◌, ◌≡◌, refl, sym, subst, Bool, true, false, List, length, get_or, set, get_or-set_same, get_or-set_other, eqb, eqb-true, arith}
use Rattle.std.proofs.lemmas.Bool.{eqb-false}
use Rattle.names.specs.Classes.{Same, FirstOf, Class}
use Rattle.names.specs.ClassLaws.{same-sym, same-trans}

-- an element after a store, by whether it is the one stored
pub stored : (P : ℕ → Type 0) (l : List ℕ) (i j x : ℕ) → i < length l → (j ≡ i → P x) → ((j ≡ i → ⊥) → P (get_or l j 0)) → P (get_or (set l i x) j 0)
stored P l i j x h same other = by-test (eqb j i) refl
  where
    by-test : (t : Bool) → eqb j i ≡ t → P (get_or (set l i x) j 0)
    by-test true e =
        let q = eqb-true j i e in
        subst (λ (k : ℕ). P (get_or (set l i x) k 0)) (sym q) (subst P (sym (get_or-set_same l i x 0 h)) (same q))
    by-test false e =
        let q = eqb-false j i e in
        subst P (sym (get_or-set_other l i j x 0 q)) (other q)

module _ {first second : List ℕ} where
  -- whether two places have the same keys
  pub same_or_not : (P : Type 0) (i j : ℕ) → (Same first second i j → P) → ((Same first second i j → ⊥) → P) → P
  same_or_not P i j yes-same not_same = by_tests (eqb (get_or first i 0) (get_or first j 0)) refl (eqb (get_or second i 0) (get_or second j 0)) refl
    where
      by_tests : (t : Bool) → eqb (get_or first i 0) (get_or first j 0) ≡ t → (u : Bool) → eqb (get_or second i 0) (get_or second j 0) ≡ u → P
      by_tests true e true f = yes-same (record { firsts = eqb-true _ _ e; seconds = eqb-true _ _ f })
      by_tests true e false f = not_same (λ s. eqb-false _ _ f s.seconds)
      by_tests false e u f = not_same (λ s. eqb-false _ _ e s.firsts)

  -- the first place with its own keys
  pub first-own : {n i c : ℕ} → FirstOf first second n i c → FirstOf first second n c c
  first-own f =
      record {
        early = omega arith;
        same = record { firsts = refl; seconds = refl };
        least = λ j l s. f.least j l (same-trans s f.same);
      }

  -- a place's class, where s is the first place with its own keys, and no earlier place has the keys of `at` where s has others
  pub class-first : {n s at c : ℕ} → at < n → FirstOf first second n s s → ((Same first second s at → ⊥) → (j : ℕ) → j < at → Same first second j at → ⊥)
      → Class first second s at c → FirstOf first second n at c
  class-first {n} {s} {at} {c} l own earlier k =
      same_or_not (FirstOf first second n at c) s at
      (λ q.
      subst (λ (x : ℕ). FirstOf first second n at x) (sym (k.old q))
      (record { early = own.least at l (same-sym q); same = q; least = λ j h r. own.least j h (same-trans r (same-sym q)) }))
      (λ q.
      subst (λ (x : ℕ). FirstOf first second n at x) (sym (k.new q))
      (record { early = omega arith; same = record { firsts = refl; seconds = refl }; least = λ j h r. not-below j at (λ b. earlier q j b r) }))
    where
      not-below : (j m : ℕ) → (j < m → ⊥) → m ≤ j
      not-below j m f = omega arith
