-- The loop of `follow`: what holds before each turn and after it.
use Rattle.std.proofs.Common.{ℕ, ◌<◌, ◌≡◌, refl, sym, ap, ◌∙◌, subst, Bool, true, false, List, length, get_or, set, length-set, get_or-set_other, eqb, eqb-true, ltb, ltb-true, ltb-false, arith}
use Rattle.std.proofs.lemmas.Bool.{eqb-false}
use Rattle.names.specs.Classes.{Same, FirstOf, Seen, Class, Chained}
use Rattle.names.specs.ClassLaws.{same-trans}
use Rattle.names.proofs.Places.{stored, first-own, class-first}

-- the places before `at` with the first key v have their classes, and `seen` has the last of them at each second key
pub record Following (first second : List ℕ) (n v : ℕ) (seen₀ out₀ seen out : List ℕ) (at : ℕ) : Type 0 where
  pub seen-length : length seen ≡ length seen₀
  pub out-length : length out ≡ length out₀
  pub keyed : at < n → get_or first at 0 ≡ v
  pub seen-firsts : Seen first second n seen
  pub noted : (j : ℕ) → j < at → j < n → get_or first j 0 ≡ v → Same first second (get_or seen (get_or second j 0) 0) j
  pub classed : (j : ℕ) → j < at → j < n → get_or first j 0 ≡ v → FirstOf first second n j (get_or out j 0)
  pub kept : (j : ℕ) → (get_or first j 0 ≡ v → ⊥) → get_or out j 0 ≡ get_or out₀ j 0

module _ {first second : List ℕ} {n most v : ℕ} {heads next : List ℕ} (lists : Chained first n most heads next) where
  module _ {seen₀ out₀ seen out : List ℕ} {at : ℕ} (i : Following first second n v seen₀ out₀ seen out at) (l : at < n) where
    module _ {key s c at' : ℕ} (key-is : key ≡ get_or second at 0) (seen-is : s ≡ get_or seen key 0) (next-is : at' ≡ get_or next at 0) (key-there : key < length seen) (out-there : at < length out)
        (k : Class first second s at c) where
      key-there' : get_or second at 0 < length seen
      key-there' = rw (← key-is) key-there

      class' : Class first second (get_or seen (get_or second at 0) 0) at c
      class' = rw (← key-is, ← seen-is) k

      -- no earlier place has the keys of `at`, where the place seen at its second key has others
      none-earlier : (Same first second (get_or seen (get_or second at 0) 0) at → ⊥) → (j : ℕ) → j < at → Same first second j at → ⊥
      none-earlier f j h s =
          f
          (same-trans
          (subst (λ (x : ℕ). Same first second (get_or seen x 0) j) s.seconds (i.noted j h (omega arith) (s.firsts ∙ i.keyed l)))
          s)

      here : FirstOf first second n at c
      here = class-first l (i.seen-firsts at l).1 none-earlier class'

      -- places before the next one with the key v are before `at`, or `at` itself
      before-next : (P : ℕ → Type 0) → P at → ((j : ℕ) → j < at → j < n → get_or first j 0 ≡ v → P j) → (j : ℕ) → j < get_or next at 0 → j < n → get_or first j 0 ≡ v → P j
      before-next P x f j b h e = by_tests (eqb j at) refl (ltb j at) refl
        where
          by_tests : (t : Bool) → eqb j at ≡ t → (u : Bool) → ltb j at ≡ u → P j
          by_tests true q u r = subst P (sym (eqb-true j at q)) x
          by_tests false q true r = f j (ltb-true j at r) h e
          by_tests false q false r =
              absurd ((lists.nexts at (omega arith) l).none j (omega (arith, eqb-false j at q, ltb-false j at r)) b (e ∙ sym (i.keyed l)))

      pub follow-goes : Following first second n v seen₀ out₀ (set seen key c) (set out at c) at'
      follow-goes =
          rw (key-is, next-is) (record {
            seen-length = length-set seen _ c ∙ i.seen-length;
            out-length = length-set out at c ∙ i.out-length;
            keyed = λ h. (lists.nexts at (omega arith) l).found h ∙ i.keyed l;
            seen-firsts = λ j h.
                stored (λ x. (x < n) × FirstOf first second n x x) seen (get_or second at 0) (get_or second j 0) c key-there'
                (λ q. (omega (arith, here.early), first-own here)) (λ q. i.seen-firsts j h);
            noted =
                before-next (λ j. Same first second (get_or (set seen (get_or second at 0) c) (get_or second j 0) 0) j)
                (stored (λ x. Same first second x at) seen _ _ c key-there' (λ q. here.same) (λ q. absurd (q refl)))
                (λ j b h e.
                stored (λ x. Same first second x j) seen (get_or second at 0) (get_or second j 0) c key-there'
                (λ q. same-trans here.same (record { firsts = i.keyed l ∙ sym e; seconds = sym q })) (λ q. i.noted j b h e));
            classed =
                before-next (λ j. FirstOf first second n j (get_or (set out at c) j 0))
                (stored (λ x. FirstOf first second n at x) out at at c out-there (λ q. here) (λ q. absurd (q refl)))
                (λ j b h e. stored (λ x. FirstOf first second n j x) out at j c out-there (λ q. absurd (omega arith)) (λ q. i.classed j b h e));
            kept = λ j e. get_or-set_other out at j c 0 (λ q. e (ap (λ (x : ℕ). get_or first x 0) q ∙ i.keyed l)) ∙ i.kept j e;
          })
