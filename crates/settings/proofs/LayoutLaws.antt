-- The place of refusal 9 is that of the first bad byte, over any layout; and the records of settings are what is laid out for them.
use Rattle.std.specs.Prelude.{ℕ, zero, suc, ◌+◌, ◌<◌, ◌≡◌, ◌↔◌, Bool, true, false, List, [], ◌∷◌, length, Option, None, Some}
use Rattle.std.proofs.Common.{arith, refl, sym, ◌∙◌, ap, subst, inl, inr}
use borrow.Author.Tests.{eq-eqb, eqb-true}
use Rattle.lexing.specs.Answer.{pick}
use Rattle.lexing.specs.RunLaws.{pick-cases}
use Rattle.tree.specs.Clash.{impossible}
use Rattle.settings.specs.Fields.{admits, misplaced}
use Rattle.settings.specs.Laid.{LaidOut, FirstBad}

-- a byte may stand where it is laid out, and the rest is as laid out
abbrev First : (expected : Option ℕ) (b : ℕ) (layout : List (Option ℕ)) (bytes : List ℕ) → Type 0
First t b layout bytes = (admits t b ≡ true) × LaidOut layout bytes

laid : (t : Option ℕ) (b : ℕ) (layout : List (Option ℕ)) (bytes : List ℕ) → First t b layout bytes ↔ LaidOut (t ∷ layout) (b ∷ bytes)
laid None b layout bytes = (λ h. h.1, λ h. (refl, h))
laid (Some fixed) b layout bytes = (λ h. (eqb-true fixed b h.0, h.1), λ h. (eq-eqb fixed b h.0, h.1))

-- each layout has bytes
some_bytes : (layout : List (Option ℕ)) → (bytes : List ℕ) × LaidOut layout bytes
some_bytes [] = ([], tt)
some_bytes (None ∷ layout) = let s = some_bytes layout in (0 ∷ s.0, s.1)
some_bytes (Some fixed ∷ layout) = let s = some_bytes layout in (fixed ∷ s.0, (refl, s.1))

-- none is misplaced of bytes that are laid out, and of no others
pub none-misplaced : (layout : List (Option ℕ)) (at : ℕ) (bytes : List ℕ) → (misplaced layout at bytes ≡ None) ↔ LaidOut layout bytes
unfolding misplaced
none-misplaced [] at [] = (λ e. tt, λ h. refl)
none-misplaced [] at (b ∷ s) = (λ e. impossible cc, λ h. absurd h)
none-misplaced (t ∷ layout) at [] = (λ e. impossible cc, λ h. absurd h)
none-misplaced (t ∷ layout) at (b ∷ s) =
    let (told, shown) = none-misplaced layout (suc at) s in (
      λ e. pick-cases (admits t b) e
          (λ (i : admits t b ≡ true) (f : misplaced layout (suc at) s ≡ None). (laid t b layout s).0 (i, told f))
          (λ (i : admits t b ≡ false) (f : Some at ≡ None). impossible cc),
      λ h. let k = (laid t b layout s).1 h in rw k.0 (shown k.1),
    )

-- ---- the place

module _ (t : Option ℕ) (b : ℕ) (layout : List (Option ℕ)) (bytes : List ℕ) where
  -- a byte that may stand where it is laid out is passed
  further : (p : ℕ) → admits t b ≡ true → FirstBad (LaidOut layout) bytes p → FirstBad (LaidOut (t ∷ layout)) (b ∷ bytes) (suc p)
  further p i h =
      record {
        begins = (h.begins.0, (laid t b layout _).0 (i, h.begins.1));
        bad = elim h.bad [
          | inl n ↦ inl (omega (arith, n.0), λ k. n.1 (k.0, ((laid t b layout _).1 k.1).1))
          | inr n ↦ inr (ap suc n.0, λ k. n.1 ((laid t b layout bytes).1 k).1)
        ];
      }

  -- and so it is before a bad byte
  nearer : (p : ℕ) → FirstBad (LaidOut (t ∷ layout)) (b ∷ bytes) (suc p) → (admits t b ≡ true) × FirstBad (LaidOut layout) bytes p
  nearer p h =
      let k = (laid t b layout _).1 h.begins.1 in (
        k.0,
        record {
          begins = (h.begins.0, k.1);
          bad = elim h.bad [
            | inl n ↦ inl (omega (arith, n.0), λ m. n.1 (m.0, (laid t b layout _).0 (k.0, m.1)))
            | inr n ↦ inr (omega (arith, n.0), λ m. n.1 ((laid t b layout bytes).0 (k.0, m)))
          ];
        },
      )

  -- the first byte is bad exactly where it may not stand there
  first : admits t b ≡ false → FirstBad (LaidOut (t ∷ layout)) (b ∷ bytes) 0
  first i =
      record {
        begins = some_bytes (t ∷ layout);
        bad = inl (omega arith, λ k. let h = ((laid t b layout k.0).1 k.1).0 in let c : ◌≡◌ {A = Bool} true false = sym h ∙ i in impossible cc);
      }

  not-first : admits t b ≡ true → FirstBad (LaidOut (t ∷ layout)) (b ∷ bytes) 0 → ⊥
  not-first i h =
      elim h.bad [
        | inl n ↦ let s = some_bytes layout in n.1 (s.0, (laid t b layout s.0).0 (i, s.1))
        | inr n ↦ let z : 0 ≡ suc (length bytes) = n.0 in omega arith
      ]

-- the place that is found is the first bad byte's
found : (layout : List (Option ℕ)) (at : ℕ) (bytes : List ℕ) {q : ℕ} → misplaced layout at bytes ≡ Some q
    → (p : ℕ) × ((q ≡ at + p) × FirstBad (LaidOut layout) bytes p)
unfolding misplaced
found [] at [] e = impossible cc
found [] at (b ∷ s) {q} e = let h : at ≡ q = cc in (0, (omega arith, record { begins = ([], tt); bad = inl (omega arith, λ k. k.1) }))
found (t ∷ layout) at [] {q} e = let h : at ≡ q = cc in (0, (omega arith, record { begins = some_bytes (t ∷ layout); bad = inr (refl, λ k. k) }))
found (t ∷ layout) at (b ∷ s) {q} e =
    pick-cases (admits t b) e
    (λ (i : admits t b ≡ true) (f : misplaced layout (suc at) s ≡ Some q).
    let k = found layout (suc at) s f in let h : q ≡ suc at + k.0 = k.1.0 in (suc k.0, (omega arith, further t b layout s k.0 i k.1.1)))
    (λ (i : admits t b ≡ false) (f : Some at ≡ Some q). let h : at ≡ q = cc in (0, (omega arith, first t b layout s i)))

-- and the place of the first bad byte is found
finds : (layout : List (Option ℕ)) (at : ℕ) (bytes : List ℕ) (p : ℕ) → FirstBad (LaidOut layout) bytes p → misplaced layout at bytes ≡ Some (at + p)
unfolding misplaced
finds [] at [] p h = elim h.bad [ inl n ↦ let l : p < 0 = n.0 in absurd (omega arith) | inr n ↦ absurd (n.1 tt) ]
finds [] at (b ∷ s) zero h = ap Some (omega arith)
finds [] at (b ∷ s) (suc p) h = absurd h.begins.1
finds (t ∷ layout) at [] zero h = ap Some (omega arith)
finds (t ∷ layout) at [] (suc p) h =
    elim h.bad [
      | inl n ↦ let l : suc p < 0 = n.0 in absurd (omega arith)
      | inr n ↦ let l : suc p ≡ 0 = n.0 in absurd (omega arith)
    ]
finds (t ∷ layout) at (b ∷ s) zero h = by-test (admits t b) refl
  where
    by-test : (i : Bool) → admits t b ≡ i → pick i (misplaced layout (suc at) s) (Some at) ≡ Some (at + 0)
    by-test true e = absurd (not-first t b layout s e h)
    by-test false e = ap Some (omega arith)
finds (t ∷ layout) at (b ∷ s) (suc p) h =
    let k = nearer t b layout s p h in let e : suc at + p ≡ at + suc p = omega arith in rw k.0 (finds layout (suc at) s p k.1 ∙ ap Some e)

pub place : (layout : List (Option ℕ)) (bytes : List ℕ) (p : ℕ) → (misplaced layout 0 bytes ≡ Some p) ↔ FirstBad (LaidOut layout) bytes p
place layout bytes p = (
  λ e. let k = found layout 0 bytes e in let h : k.0 ≡ p = omega (arith, k.1.0) in subst (FirstBad (LaidOut layout) bytes) h k.1.1,
  λ h. finds layout 0 bytes p h ∙ ap Some (omega arith),
)
