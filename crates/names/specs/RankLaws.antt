-- Numbers from first equal spans, and the numbers written.
use Rattle.std.specs.Prelude.{ℕ, suc, ◌+◌, ◌<◌, ◌≤◌, min, ◌≡◌, refl, Bool, true, false, cond, List, [], length, get_or, take, set, eqb}
use Rattle.std.proofs.Common.{arith, add-one, sym, ap, ◌∙◌, ⊎_elim, length-set, ext_get_or, take_all, get_or-take, get_or-set_same, get_or-set_other, eqb-true, eq-eqb, ne_eqb}
use Rattle.std.proofs.lemmas.Bool.{eqb-false}
use Rattle.names.specs.Names.{most_bytes, names, numbering, distinct}
use Rattle.tree.specs.Outline.{filled}
use Rattle.tree.specs.OutlineLaws.{filled-length, filled_at, filled-later}
use Rattle.names.specs.NumberLaws.{lt-or-le, numbering-length, rank-new, rank-old}
use Rattle.names.specs.Parts.{names-cut, read-cut}
use Rattle.names.specs.Spans.{Written, FirstEqual, Ranked}

ranked-none : (bs : List (List ℕ)) (ranks : List ℕ) → Ranked bs 0 0 ranks
unfolding distinct
ranked-none bs ranks = record { counted = refl; each = λ j h. absurd (omega arith) }

-- one more span: new where it is the first of its name, else with the number of the first
ranked-next : (bs : List (List ℕ)) (n i count : ℕ) (classes ranks : List ℕ) → FirstEqual bs n classes → n ≤ length bs → i < n → i < length ranks → Ranked bs i count ranks
    → Ranked bs (i + 1) (cond (eqb (get_or classes i 0) i) (count + 1) count) (set ranks i (cond (eqb (get_or classes i 0) i) count (get_or ranks (get_or classes i 0) 0)))
ranked-next bs n i count classes ranks firsts all h k r = by-test (eqb (get_or classes i 0) i) refl
  where
    step : (count' v : ℕ) → length (distinct [] (take (suc i) bs)) ≡ count' → get_or (numbering [] bs) i 0 ≡ v → Ranked bs (i + 1) count' (set ranks i v)
    step count' v e p =
        record {
          counted = rw (add-one i) (sym e);
          each = λ j l. ⊎_elim (λ m. get_or-set_other ranks i j v 0 (omega arith) ∙ r.each j m) (λ m. let q : j ≡ i = omega arith in rw q (get_or-set_same ranks i v 0 k ∙ sym p)) (lt-or-le j i);
        }

    by-test : (t : Bool) → eqb (get_or classes i 0) i ≡ t → Ranked bs (i + 1) (cond t (count + 1) count) (set ranks i (cond t count (get_or ranks (get_or classes i 0) 0)))
    by-test true e =
        let at = eqb-true (get_or classes i 0) i e in
        let new = rank-new bs i (omega arith) (λ j l p. omega (arith, firsts.least i j h (omega arith) p)) in
        step (count + 1) count (new.1 ∙ omega (arith, r.counted)) (new.0 ∙ sym r.counted)
    by-test false e =
        let at : get_or classes i 0 < i = omega (arith, eqb-false (get_or classes i 0) i e, firsts.early i h) in
        let old = rank-old bs i (get_or classes i 0) (omega arith) at (firsts.equal i h) in
        step count (get_or ranks (get_or classes i 0) 0) (old.1 ∙ sym r.counted) (old.0 ∙ sym (r.each (get_or classes i 0) at))

-- the state of the numbering at a span, whatever the names are whose first equal ones the classes are: numbers stand before it, classes from it on
pub record Ranking (classes : List ℕ) (n i count : ℕ) (ranks : List ℕ) : Type 0 where
  pub same_length : length ranks ≡ length classes
  pub few : count ≤ i
  pub rest : (j : ℕ) → i ≤ j → get_or ranks j 0 ≡ get_or classes j 0
  pub ranked : (bs : List (List ℕ)) → FirstEqual bs n classes → n ≤ length bs → Ranked bs i count ranks

module _ (classes : List ℕ) (n : ℕ) where
  pub ranking-none : Ranking classes n 0 0 classes
  ranking-none = record { same_length = refl; few = omega arith; rest = λ j h. refl; ranked = λ bs f l. ranked-none bs classes }

  pub ranking-next : (i count : ℕ) (ranks : List ℕ) (c v count' : ℕ) → Ranking classes n i count ranks → i < n → i < length classes
      → c ≡ get_or ranks i 0 → v ≡ cond (eqb c i) count (get_or ranks c 0) → count' ≡ cond (eqb c i) (count + 1) count → Ranking classes n (i + 1) count' (set ranks i v)
  ranking-next i count ranks c v count' r h k e p q =
      let at : c ≡ get_or classes i 0 = e ∙ r.rest i (omega arith) in
      record {
        same_length = length-set ranks i v ∙ r.same_length;
        few = rw q (by-test (eqb c i));
        rest = λ j l. get_or-set_other ranks i j v 0 (omega arith) ∙ r.rest j (omega arith);
        ranked = λ bs f l. rw (q, p, at) (ranked-next bs n i count classes ranks f l h (omega (arith, r.same_length)) (r.ranked bs f l));
      }
    where
      by-test : (t : Bool) → cond t (count + 1) count ≤ i + 1
      by-test true = omega (arith, r.few)
      by-test false = omega (arith, r.few)

  -- the first span of its name, and one whose name occurs before
  pub ranking-first : (i count : ℕ) (ranks : List ℕ) (c count' : ℕ) (ranks' : List ℕ) → Ranking classes n i count ranks → i < n → i < length classes
      → c ≡ get_or ranks i 0 → c ≡ i → ranks' ≡ set ranks i count → count' ≡ count + 1 → Ranking classes n (i + 1) count' ranks'
  ranking-first i count ranks c count' ranks' r h k e own s t =
      rw s (ranking-next i count ranks c count count' r h k e (simp (eq-eqb c i own)) (simp (eq-eqb c i own) t))

  pub ranking-again : (i count : ℕ) (ranks : List ℕ) (c count' : ℕ) (ranks' : List ℕ) → Ranking classes n i count ranks → i < n → i < length classes
      → c ≡ get_or ranks i 0 → (c ≡ i → ⊥) → ranks' ≡ set ranks i (get_or ranks c 0) → count' ≡ count → Ranking classes n (i + 1) count' ranks'
  ranking-again i count ranks c count' ranks' r h k e other s t =
      rw s (ranking-next i count ranks c (get_or ranks c 0) count' r h k e (simp (ne_eqb c i other)) (simp (ne_eqb c i other) t))

  pub ranking-end : (i count : ℕ) (ranks : List ℕ) → i ≡ n → Ranking classes n i count ranks → (bs : List (List ℕ)) → FirstEqual bs n classes → n ≤ length bs → Ranked bs n count ranks
  ranking-end i count ranks e r bs f l = rw e at (r.ranked bs f l)

-- the classes of the names alone
pub first-cut : (bs : List (List ℕ)) (n : ℕ) (classes : List ℕ) → n ≤ length classes → FirstEqual bs n classes → FirstEqual bs n (take n classes)
first-cut bs n classes h f =
    let at : (i : ℕ) → i < n → get_or (take n classes) i 0 ≡ get_or classes i 0 = λ i l. get_or-take n classes i 0 l in
    record {
      early = λ i l. omega (arith, at i l, f.early i l);
      equal = λ i l. rw (at i l) (f.equal i l);
      least = λ i j l m e. omega (arith, at i l, f.least i j l m e);
    }

-- the numbers copied over a list
filled-by : (bs : List (List ℕ)) (n count : ℕ) (ranks before after : List ℕ) → n ≡ length bs → Ranked bs n count ranks
    → Written (λ i. get_or ranks i 0) (min n (length before)) before after → after ≡ filled (numbering [] bs) before
filled-by bs n count ranks before after all r w =
    let ns = numbering [] bs in
    let same : length ns ≡ n = numbering-length [] bs ∙ sym all in
    ext_get_or 0 after (filled ns before) (w.same_length ∙ sym (filled-length ns before))
    (λ i h.
    let k : i < length before = omega (arith, w.same_length) in
    ⊎_elim (λ l. w.written i (omega arith) ∙ r.each i l ∙ sym (filled_at ns before i (omega arith) k))
    (λ l. w.kept i (omega arith) ∙ sym (filled-later ns before i (omega arith))) (lt-or-le i n))

-- all names are numbered
pub numbered : (bs : List (List ℕ)) (n count : ℕ) (ranks before after : List ℕ) → n ≡ length bs → Ranked bs n count ranks
    → Written (λ i. get_or ranks i 0) (min n (length before)) before after → (count ≡ length (distinct [] bs)) × (after ≡ filled (numbering [] bs) before)
numbered bs n count ranks before after all r w =
    (r.counted ∙ ap (λ (l : List (List ℕ)). length (distinct [] l)) (take_all n bs (omega arith)), filled-by bs n count ranks before after all r w)

-- the numbers of a text are those of what is read of it
pub numbered-cut : (text spans : List ℕ) (count : ℕ) (before after : List ℕ)
    → (count ≡ length (distinct [] (names (take most_bytes text) spans))) × (after ≡ filled (numbering [] (names (take most_bytes text) spans)) before)
    → (count ≡ length (distinct [] (names text spans))) × (after ≡ filled (numbering [] (names text spans)) before)
numbered-cut text spans count before after h = (h.0 ∙ ap (λ (bs : List (List ℕ)). length (distinct [] bs)) (names-cut text spans), h.1 ∙ ap (λ (bs : List (List ℕ)). filled (numbering [] bs) before) (names-cut text spans))

-- where the text is cut at its own length too
pub numbered-read : (text spans : List ℕ) (count : ℕ) (before after : List ℕ) (k : ℕ) {text' spans' : List ℕ} → k ≡ min (length text) most_bytes → text' ≡ take k text → spans' ≡ spans
    → (count ≡ length (distinct [] (names text' spans'))) × (after ≡ filled (numbering [] (names text' spans')) before)
    → (count ≡ length (distinct [] (names text spans))) × (after ≡ filled (numbering [] (names text spans)) before)
numbered-read text spans count before after k {text'} {spans'} e read same h =
    let cut : text' ≡ take most_bytes text = read ∙ ap (λ (k : ℕ). take k text) e ∙ read-cut most_bytes text in
    numbered-cut text spans count before after (rw (← cut, ← same) h)
