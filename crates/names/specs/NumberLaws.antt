-- Laws of `number`, `with`, `numbering` and `distinct`. A name is seen where its number is below the count of the distinct names.
use Rattle.std.specs.Prelude.{ℕ, zero, suc, ◌+◌, ◌<◌, ◌≤◌, ◌≡◌, refl, Bool, true, false, cond, ◌↔◌, ◌⊎◌, List, [], ◌∷◌, length, get_or, take, eqb, ltb}
use Rattle.std.proofs.Common.{arith, sym, ap, ◌∙◌, inl, inr, ⊎_elim, length-take, get_or-take, eqb-true, eq-eqb, ltb-true, ltb-false}
use Rattle.names.specs.Names.{same, number, with, numbering, distinct}

pub impossible {ℓ} : {A : Type ℓ} → ◌≡◌ {A = ℕ} 0 1 → A
impossible e = absurd (omega arith)

pub lt-or-le : (m n : ℕ) → (m < n) ⊎ (n ≤ m)
lt-or-le m n = by-test (ltb m n) refl
  where
    by-test : (t : Bool) → ltb m n ≡ t → (m < n) ⊎ (n ≤ m)
    by-test true e = inl (ltb-true m n e)
    by-test false e = inr (ltb-false m n e)

pub same_refl : (a : List ℕ) → same a a ≡ true
unfolding same
same_refl [] = refl
same_refl (x ∷ a) = rw (eq-eqb x x refl) (same_refl a)

pub same_true : (a b : List ℕ) → same a b ≡ true → a ≡ b
unfolding same
same_true [] [] e = refl
same_true [] (y ∷ b) e = impossible cc
same_true (x ∷ a) [] e = impossible cc
same_true (x ∷ a) (y ∷ b) e = by-test (eqb x y) refl e (same_true a b)
  where
    by-test : (t : Bool) → eqb x y ≡ t → cond t (same a b) false ≡ true → (same a b ≡ true → a ≡ b) → x ∷ a ≡ y ∷ b
    by-test true p e ih = let q = eqb-true x y p in let r = ih e in cc
    by-test false p e ih = impossible cc

-- what `with` does: the name keeps its number and is seen, other names that are seen keep theirs, and the count grows where the name is new
record With (seen : List (List ℕ)) (b : List ℕ) (after : List (List ℕ)) : Type 0 where
  own : number after b ≡ number seen b
  own-seen : number seen b < length after
  kept : (a : List ℕ) → number seen a < length seen → number after a ≡ number seen a
  old : number seen b < length seen → length after ≡ length seen
  new : length seen ≤ number seen b → length after ≡ suc (length seen)
  longer : length seen ≤ length after

with-does : (seen : List (List ℕ)) (b : List ℕ) → With seen b (with seen b)
unfolding with number
with-does [] b =
    record {
      own = rw same_refl;
      own-seen = omega arith;
      kept = λ a l. absurd (omega arith);
      old = λ l. absurd (omega arith);
      new = λ l. refl;
      longer = omega arith;
    }
with-does (a ∷ seen) b = by-test (same a b) refl (with-does seen b)
  where
    under : (t : Bool) (m n l : ℕ) → (n < l → m ≡ n) → cond t 0 (suc n) < suc l → cond t 0 (suc m) ≡ cond t 0 (suc n)
    under true m n l f h = refl
    under false m n l f h = ap suc (f (omega arith))

    by-test : (t : Bool) → same a b ≡ t → With seen b (with seen b) → With (a ∷ seen) b (cond t (a ∷ seen) (a ∷ with seen b))
    by-test true e ih =
        record {
          own = refl;
          own-seen = rw e (omega arith);
          kept = λ x l. refl;
          old = λ l. refl;
          new = rw e (λ l. absurd (omega arith));
          longer = omega arith;
        }
    by-test false e ih =
        record {
          own = rw e (ap suc ih.own);
          own-seen = rw e (omega (arith, ih.own-seen));
          kept = λ x l. under (same a x) (number (with seen b) x) (number seen x) (length seen) (ih.kept x) l;
          old = rw e (λ l. ap suc (ih.old (omega arith)));
          new = rw e (λ l. ap suc (ih.new (omega arith)));
          longer = omega (arith, ih.longer);
        }

number-most : (seen : List (List ℕ)) (b : List ℕ) → number seen b ≤ length seen
unfolding number
number-most [] b = omega arith
number-most (a ∷ seen) b = by-test (same a b) (number-most seen b)
  where
    by-test : (t : Bool) → number seen b ≤ length seen → cond t 0 (suc (number seen b)) ≤ suc (length seen)
    by-test true h = omega arith
    by-test false h = omega arith

-- a name that is seen stands at its number
seen_at : (seen : List (List ℕ)) (b : List ℕ) → number seen b < length seen → get_or seen (number seen b) [] ≡ b
unfolding number
seen_at [] b l = absurd (omega arith)
seen_at (a ∷ seen) b l = by-test (same a b) refl l (seen_at seen b)
  where
    by-test : (t : Bool) → same a b ≡ t → cond t 0 (suc (number seen b)) < suc (length seen)
        → (number seen b < length seen → get_or seen (number seen b) [] ≡ b) → get_or (a ∷ seen) (cond t 0 (suc (number seen b))) [] ≡ b
    by-test true e l ih = same_true a b e
    by-test false e l ih = ih (omega arith)

-- a name that is seen keeps its number as more names are seen
stays : (seen bs : List (List ℕ)) (a : List ℕ) → number seen a < length seen
    → (number (distinct seen bs) a ≡ number seen a) × (length seen ≤ length (distinct seen bs))
unfolding distinct
stays seen [] a l = (refl, omega arith)
stays seen (b ∷ bs) a l =
    let w = with-does seen b in
    let ih = stays (with seen b) bs a (omega (arith, w.kept a l, w.longer)) in
    (ih.0 ∙ w.kept a l, omega (arith, w.longer, ih.1))

-- the number of a span is that of its name among all distinct names
pub number_of : (seen bs : List (List ℕ)) (i : ℕ) → i < length bs
    → (get_or (numbering seen bs) i 0 ≡ number (distinct seen bs) (get_or bs i [])) × (get_or (numbering seen bs) i 0 < length (distinct seen bs))
unfolding distinct numbering
number_of seen [] i l = absurd (omega arith)
number_of seen (b ∷ bs) zero l =
    let w = with-does seen b in
    let s = stays (with seen b) bs b (omega (arith, w.own, w.own-seen)) in
    (sym (s.0 ∙ w.own), omega (arith, w.own-seen, s.1))
number_of seen (b ∷ bs) (suc i) l = number_of (with seen b) bs i (omega arith)

pub numbering-length : (seen bs : List (List ℕ)) → length (numbering seen bs) ≡ length bs
unfolding numbering
numbering-length seen [] = refl
numbering-length seen (b ∷ bs) = ap suc (numbering-length (with seen b) bs)

pub distinct-most : (seen bs : List (List ℕ)) → length (distinct seen bs) ≤ length seen + length bs
unfolding distinct
distinct-most seen [] = omega arith
distinct-most seen (b ∷ bs) =
    let w = with-does seen b in
    let ih : length (distinct (with seen b) bs) ≤ length (with seen b) + length bs = distinct-most (with seen b) bs in
    ⊎_elim (λ l. omega (arith, w.old l)) (λ l. omega (arith, w.new l)) (lt-or-le (number seen b) (length seen))

-- a span whose number is n, all numbers before it being less
pub record FirstWith (numbers : List ℕ) (n : ℕ) : Type 0 where
  pub place : ℕ
  pub within : place < length numbers
  pub numbered : get_or numbers place 0 ≡ n
  pub before : (j : ℕ) → j < place → get_or numbers j 0 < n

-- each number that is given first occurs after all lower ones
pub first-with : (seen bs : List (List ℕ)) (n : ℕ) → length seen ≤ n → n < length (distinct seen bs) → FirstWith (numbering seen bs) n
unfolding distinct numbering
first-with seen [] n f l = absurd (omega arith)
first-with seen (b ∷ bs) n f l = by_number (with-does seen b) (lt-or-le (number seen b) n) (λ g. first-with (with seen b) bs n g l)
  where
    later : FirstWith (numbering (with seen b) bs) n → number seen b < n → FirstWith (number seen b ∷ numbering (with seen b) bs) n
    later r h =
        record {
          place = suc r.place;
          within = omega (arith, r.within);
          numbered = r.numbered;
          before = λ j. elim j as (λ k. k < suc r.place → get_or {A = ℕ} (number seen b ∷ numbering (with seen b) bs) k 0 < n) [ zero ↦ λ l. h | suc k ↦ λ l. r.before k (omega arith) ];
        }

    by_number : With seen b (with seen b) → (number seen b < n) ⊎ (n ≤ number seen b) → (length (with seen b) ≤ n → FirstWith (numbering (with seen b) bs) n)
        → FirstWith (number seen b ∷ numbering (with seen b) bs) n
    by_number w (inl h) ih = later (ih (⊎_elim (λ o. omega (arith, w.old o)) (λ o. omega (arith, w.new o)) (lt-or-le (number seen b) (length seen)))) h
    by_number w (inr h) ih =
        record { place = 0; within = omega arith; numbered = omega (arith, number-most seen b); before = λ j l. absurd (omega arith) }

-- the number of a span among the names before it, and the distinct names up to it
pub number-before : (seen bs : List (List ℕ)) (i : ℕ) → i < length bs
    → (get_or (numbering seen bs) i 0 ≡ number (distinct seen (take i bs)) (get_or bs i [])) × (distinct seen (take (suc i) bs) ≡ with (distinct seen (take i bs)) (get_or bs i []))
unfolding distinct numbering
number-before seen [] i l = absurd (omega arith)
number-before seen (b ∷ bs) zero l = (refl, refl)
number-before seen (b ∷ bs) (suc i) l = number-before (with seen b) bs i (omega arith)

-- equal names have equal numbers and equal numbers are of equal names
pub one_number : (bs : List (List ℕ)) (i j : ℕ) → i < length bs → j < length bs
    → (get_or (numbering [] bs) i 0 ≡ get_or (numbering [] bs) j 0) ↔ (get_or bs i [] ≡ get_or bs j [])
one_number bs i j k l =
    let m = number_of [] bs i k in
    let n = number_of [] bs j l in (
      λ e. sym (seen_at (distinct [] bs) (get_or bs i []) (omega (arith, m.0, m.1)))
          ∙ ap (λ (x : ℕ). get_or (distinct [] bs) x []) (sym m.0 ∙ e ∙ n.0)
          ∙ seen_at (distinct [] bs) (get_or bs j []) (omega (arith, n.0, n.1)),
      λ e. m.0 ∙ ap (number (distinct [] bs)) e ∙ sym n.0,
    )

-- the first span of its name has the count of the names before it as its number, and the count grows by one
pub rank-new : (bs : List (List ℕ)) (i : ℕ) → i < length bs → ((j : ℕ) → j < i → get_or bs j [] ≡ get_or bs i [] → ⊥)
    → (get_or (numbering [] bs) i 0 ≡ length (distinct [] (take i bs))) × (length (distinct [] (take (suc i) bs)) ≡ suc (length (distinct [] (take i bs))))
rank-new bs i l first =
    let b = get_or bs i [] in
    let before = distinct [] (take i bs) in
    let at = number-before [] bs i l in
    let fresh : length before ≤ number before b = ⊎_elim (λ h. absurd (clash h)) (λ h. h) (lt-or-le (number before b) (length before)) in
    (at.0 ∙ omega (arith, fresh, number-most before b), ap length at.1 ∙ (with-does before b).new fresh)
  where
    clash : number (distinct [] (take i bs)) (get_or bs i []) < length (distinct [] (take i bs)) → ⊥
    clash h =
        let prior = take i bs in
        let b = get_or bs i [] in
        let f = first-with [] prior (number (distinct [] prior) b) (omega arith) h in
        let j = f.place in
        let j<i : j < length prior = omega (arith, f.within, numbering-length [] prior) in
        let below : j < i = omega (arith, simp length-take at j<i) in
        first j below (sym (get_or-take i bs j [] below) ∙ sym (seen_at (distinct [] prior) (get_or prior j []) (omega (arith, number_of [] prior j j<i)))
        ∙ ap (λ (x : ℕ). get_or (distinct [] prior) x []) (sym (number_of [] prior j j<i).0 ∙ f.numbered) ∙ seen_at (distinct [] prior) b h)

-- a span whose name occurs before has the number of that occurrence, and the count stays
pub rank-old : (bs : List (List ℕ)) (i j : ℕ) → i < length bs → j < i → get_or bs j [] ≡ get_or bs i []
    → (get_or (numbering [] bs) i 0 ≡ get_or (numbering [] bs) j 0) × (length (distinct [] (take (suc i) bs)) ≡ length (distinct [] (take i bs)))
rank-old bs i j l k e =
    let prior = take i bs in
    let before = distinct [] prior in
    let within : j < length prior = simp length-take (omega arith) in
    let own = number_of [] prior j within in
    let told : number before (get_or bs i []) < length before = rw (← e) (rw (← get_or-take i bs j [] k) (omega (arith, own))) in
    ((one_number bs i j l (omega arith)).1 (sym e), ap length (number-before [] bs i l).1 ∙ (with-does before (get_or bs i [])).old told)
