-- The first breach in word order: there is one where a rule is broken at a place, and then no place before it breaks one.
use Rattle.std.specs.Prelude.{ℕ, zero, suc, ◌+◌, ◌≤◌, ◌<◌, ◌≡◌, refl, Option, Some, None}
use Rattle.std.proofs.Common.{arith, sym, ap, ◌∙◌, subst, ⊎_elim}
use Rattle.std.proofs.lemmas.Bool.{cases_lt}
use Rattle.tree.specs.Clash.{impossible}
use Rattle.profile.specs.Profile.{Judgement, fits, breach, first_breach}

module _ (rule : ℕ → Option ℕ) where
  -- the first breach of the places from `at` on, so many
  pub record First (count at number place : ℕ) : Type 0 where
    pub from : at ≤ place
    pub before-end : place < at + count
    pub broken : rule place ≡ Some number
    pub kept : (i : ℕ) → at ≤ i → i < place → rule i ≡ None

  -- a place more in front, where no rule is broken
  longer : {count at number place : ℕ} → rule at ≡ None → First count (suc at) number place → First (suc count) at number place
  longer {count} {at} {number} {place} e f =
      record {
        from = omega (arith, f.from);
        before-end = omega (arith, f.before-end);
        broken = f.broken;
        kept = λ i l h. ⊎_elim (λ k. f.kept i k h) (λ k. let j : at ≡ i = omega arith in subst (λ (n : ℕ). rule n ≡ None) j e) (cases_lt at i);
      }

  -- what is found: none, or the first
  pub data Verdict (count at : ℕ) : Judgement → Type 0 where
    keeps : ((i : ℕ) → at ≤ i → i < at + count → rule i ≡ None) → Verdict count at fits
    breaks : {number place : ℕ} → First count at number place → Verdict count at (breach number place)

  pub verdict-of : (count at : ℕ) → Verdict count at (first_breach rule count at)
  unfolding first_breach
  verdict-of zero at = keeps (λ i l h. absurd (omega arith))
  verdict-of (suc count) at = by-rule (rule at) refl (verdict-of count (suc at))
    where
      further : {j : Judgement} → rule at ≡ None → Verdict count (suc at) j → Verdict (suc count) at j
      further e (keeps k) = keeps (λ i l h. ⊎_elim (λ m. k i m (omega arith)) (λ m. let j : at ≡ i = omega arith in subst (λ (n : ℕ). rule n ≡ None) j e) (cases_lt at i))
      further e (breaks f) = breaks (longer e f)

      by-rule : (o : Option ℕ) → rule at ≡ o → Verdict count (suc at) (first_breach rule count (suc at))
          → Verdict (suc count) at (elim o [ Some number ↦ breach number at | None ↦ first_breach rule count (suc at) ])
      by-rule None e v = further e v
      by-rule (Some number) e v =
          breaks (record { from = omega arith; before-end = omega arith; broken = e; kept = λ i l h. absurd (omega arith) })

  -- ---- what is found, by what is known of the places

  -- no rule is broken at any of the first places
  pub found-none : (count : ℕ) → ((i : ℕ) → i < count → rule i ≡ None) → fits ≡ first_breach rule count 0
  found-none count kept = by-verdict (verdict-of count 0)
    where
      by-verdict : {j : Judgement} → Verdict count 0 j → fits ≡ j
      by-verdict (keeps k) = refl
      by-verdict (breaks {place = i} f) = let e = kept i (omega (arith, f.before-end)) in let g = f.broken in impossible cc

  -- one is, and none before
  pub found-first : (count : ℕ) {number place : ℕ} → place < count → rule place ≡ Some number → ((i : ℕ) → i < place → rule i ≡ None)
      → breach number place ≡ first_breach rule count 0
  found-first count {number} {place} l e kept = by-verdict (verdict-of count 0)
    where
      by-verdict : {j : Judgement} → Verdict count 0 j → breach number place ≡ j
      by-verdict (keeps k) = let g = k place (omega arith) (omega arith) in impossible cc
      by-verdict (breaks {number = n} {place = i} f) =
          ⊎_elim (λ b. let g = kept i b in let h = f.broken in impossible cc)
          (λ b. ⊎_elim (λ c. let g = f.kept place (omega arith) c in impossible cc) (λ c. let p : place ≡ i = omega arith in same p) (cases_lt place i))
          (cases_lt i place)
        where
          same : place ≡ i → breach number place ≡ breach n i
          same p = let h = f.broken in let q : Some number ≡ Some n = sym e ∙ ap rule p ∙ h in cc
