-- The classes of the spans by their keys, and then by those classes and the lengths, are the first spans of equal bytes.
use Rattle.std.specs.Prelude.{ℕ, ◌+◌, ◌<◌, ◌≤◌, ◌≡◌, refl, ◌↔◌, List, [], length, get_or, set}
use Rattle.std.proofs.Common.{arith, sym, ◌∙◌, ⊎_elim, length-set, get_or-set_same, get_or-set_other}
use Rattle.names.specs.Names.{names}
use Rattle.names.specs.NumberLaws.{lt-or-le}
use Rattle.names.specs.Parts.{lengths-equal, name-at}
use Rattle.names.specs.Spans.{SamePair, Pairs, PairClasses, start_of, length_of, Lengths, Sorts, FirstEqual}

-- the lengths, span by span
module _ (len : ℕ) (spans : List ℕ) (n : ℕ) where
  pub lengths_none : (keys : List ℕ) → Lengths len spans n 0 keys keys
  lengths_none keys = record { same_length = refl; written = λ i h. absurd (omega arith); kept = λ i h. refl }

  pub lengths-next : (i l : ℕ) (keys₀ keys : List ℕ) → i < n → n + n ≤ length keys₀ → l ≡ length_of len spans i → Lengths len spans n i keys₀ keys
      → Lengths len spans n (i + 1) keys₀ (set keys (i + n) l)
  lengths-next i l keys₀ keys h f e r =
      record {
        same_length = length-set keys (i + n) l ∙ r.same_length;
        written = λ j k. ⊎_elim (λ m. get_or-set_other keys (i + n) (j + n) l 0 (omega arith) ∙ r.written j m)
            (λ m. let q : j ≡ i = omega arith in rw q (get_or-set_same keys (i + n) l 0 (omega (arith, r.same_length)) ∙ e)) (lt-or-le j i);
        kept = λ j k. get_or-set_other keys (i + n) j l 0 (omega arith) ∙ r.kept j k;
      }

  pub lengths-to : (i : ℕ) (keys₀ keys : List ℕ) → i ≡ n → Lengths len spans n i keys₀ keys → Lengths len spans n n keys₀ keys
  lengths-to i keys₀ keys e r = rw e at r

-- what the first sorting needs
pub keys-pairs : (text spans : List ℕ) (n most : ℕ) (keys : List ℕ) → Sorts text spans n most keys → Pairs keys n n most
keys-pairs text spans n most keys s =
    let k = s.keyed.keyed in
    record { enough = s.enough; few = omega (arith, s.sized.few-spans); few-keys = s.sized.few-keys; firsts = k.firsts; seconds = k.seconds }

module _ (text spans : List ℕ) (n most : ℕ) (keys keys₁ keys₂ : List ℕ) (sorts : Sorts text spans n most keys) (made : PairClasses keys n n keys₁)
    (noted : Lengths (length text) spans n n keys₁ keys₂)
  where
    -- what the second needs
    pub lengths-pairs : Pairs keys₂ n n most
    lengths-pairs =
        record {
          enough = omega (arith, sorts.enough, made.same_length, noted.same_length);
          few = omega (arith, sorts.sized.few-spans);
          few-keys = sorts.sized.few-keys;
          firsts = λ i h. omega (arith, noted.kept i h, made.early i h, sorts.sized.spans-below);
          seconds = λ i h. let l : length_of (length text) spans i ≤ length text = omega arith in below i (length_of (length text) spans i) (noted.written i h) l sorts.sized.places-below;
        }
      where
        below : (i l : ℕ) → get_or keys₂ (i + n) 0 ≡ l → l ≤ length text → length text < most → get_or keys₂ (i + n) 0 < most
        below i l e f g = omega arith

    same_names : (i j : ℕ) → i < n → j < n → SamePair keys₂ n i j ↔ (get_or (names text spans) i [] ≡ get_or (names text spans) j [])
    same_names i j h k =
        let all = sorts.sized.all in
        let keyed = sorts.keyed.keyed in
        let short = sorts.keyed.short i h in
        let ni = name-at text spans i sorts.sized.few_bytes (omega arith) in
        let nj = name-at text spans j sorts.sized.few_bytes (omega arith) in
        let ci = noted.kept i h in
        let cj = noted.kept j k in
        let li = noted.written i h in
        let lj = noted.written j k in
        let one = made.equal i j h k in (
          λ s. let e = sym li ∙ s.seconds ∙ lj in ni ∙ (keyed.equal i j h k e short).0 (one.0 (sym ci ∙ s.firsts ∙ cj)) ∙ sym nj,
          λ p.
              let q = sym ni ∙ p ∙ nj in
              let e : length_of (length text) spans i ≡ length_of (length text) spans j =
              lengths-equal text (start_of (length text) spans i) (start_of (length text) spans j) _ _ (omega arith) (omega arith) q in
              record { firsts = ci ∙ one.1 ((keyed.equal i j h k e short).1 q) ∙ sym cj; seconds = li ∙ e ∙ sym lj },
        )

    pub first-equal : (classes : List ℕ) → PairClasses keys₂ n n classes → FirstEqual (names text spans) n classes
    first-equal classes last =
        record {
          early = last.early;
          equal = λ i h.
              let c = get_or classes i 0 in
              let l : c < n = omega (arith, last.early i h) in
              (same_names c i l h).0 ((last.equal c i l h).0 (last.own i h));
          least = λ i j h k e. omega (arith, (last.equal j i k h).1 ((same_names j i k h).1 e), last.early j k);
        }
