-- Laws of classes: two places have one class exactly where they have the same keys, and a class is a place not after its places.
use Rattle.std.specs.Prelude.{ℕ, ◌<◌, ◌≤◌, ◌≡◌, ◌↔◌, List, get_or}
use Rattle.std.proofs.Common.{arith, sym, ◌∙◌, subst}
use Rattle.names.specs.Classes.{Keys, Same, Classed}

module _ {first second : List ℕ} where
  pub same-sym : {i j : ℕ} → Same first second i j → Same first second j i
  same-sym s = record { firsts = sym s.firsts; seconds = sym s.seconds }

  pub same-trans : {i j k : ℕ} → Same first second i j → Same first second j k → Same first second i k
  same-trans s t = record { firsts = s.firsts ∙ t.firsts; seconds = s.seconds ∙ t.seconds }

  module _ {n : ℕ} {classes : List ℕ} (c : Classed first second n classes) where
    pub class-early : (i : ℕ) → i < n → get_or classes i 0 ≤ i
    class-early i l = (c.each i l).early

    pub class-below : (i : ℕ) → i < n → get_or classes i 0 < n
    class-below i l = omega (arith, class-early i l)

    -- the classes are keys below n
    pub classes-keys : Keys classes n n
    classes-keys = record { enough = c.enough; below = class-below }

    not_after : (i j : ℕ) → i < n → j < n → Same first second i j → get_or classes i 0 ≤ get_or classes j 0
    not_after i j l h s = (c.each i l).least (get_or classes j 0) (class-below j h) (same-trans (c.each j h).same (same-sym s))

    pub same_class : (i j : ℕ) → i < n → j < n → Same first second i j → get_or classes i 0 ≡ get_or classes j 0
    same_class i j l h s = omega (arith, not_after i j l h s, not_after j i h l (same-sym s))

    pub class_same : (i j : ℕ) → i < n → j < n → get_or classes i 0 ≡ get_or classes j 0 → Same first second i j
    class_same i j l h e =
        same-trans (same-sym (c.each i l).same) (subst (λ (x : ℕ). Same first second x j) (sym e) (c.each j h).same)

    -- two places have one class exactly when they have the same keys
    pub class-equal : (i j : ℕ) → i < n → j < n → (get_or classes i 0 ≡ get_or classes j 0) ↔ Same first second i j
    class-equal i j l h = (class_same i j l h, same_class i j l h)
