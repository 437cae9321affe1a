-- The loop of `classify`: what holds before each turn, and after it.
use Rattle.std.proofs.Common.{ℕ, ◌+◌, ◌<◌, ◌≤◌, ◌≡◌, refl, sym, subst, Bool, true, false, List, length, get_or, eqb, eqb-true, arith}
use Rattle.std.proofs.lemmas.Bool.{eqb-false}
use Rattle.names.specs.Classes.{FirstOf, Seen, Followed}

-- the places whose first key is below v have their classes
pub record Classifying (first second : List ℕ) (n : ℕ) (seen out : List ℕ) (v : ℕ) : Type 0 where
  pub enough : n ≤ length out
  pub seen-firsts : Seen first second n seen
  pub classed : (j : ℕ) → j < n → get_or first j 0 < v → FirstOf first second n j (get_or out j 0)

pub classify-goes : {first second : List ℕ} {n : ℕ} {seen out seen' out' : List ℕ} {v : ℕ} → Classifying first second n seen out v → Followed first second n v seen out seen' out'
    → Classifying first second n seen' out' (v + 1)
classify-goes {first} {second} {n} {seen} {out} {seen'} {out'} {v} i f =
    record { enough = omega (arith, i.enough, f.out-length); seen-firsts = f.seen-firsts; classed = λ j h b. by-test j h b (eqb (get_or first j 0) v) refl }
  where
    by-test : (j : ℕ) → j < n → get_or first j 0 < v + 1 → (t : Bool) → eqb (get_or first j 0) v ≡ t → FirstOf first second n j (get_or out' j 0)
    by-test j h b true e = f.classed j h (eqb-true _ _ e)
    by-test j h b false e =
        let ne = eqb-false _ _ e in
        subst (λ (x : ℕ). FirstOf first second n j x) (sym (f.kept j ne)) (i.classed j h (omega arith))
