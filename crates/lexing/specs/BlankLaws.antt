-- Laws of blanks: they lie inside the text, one follows another, and none stands after them; upstream's equations of a long comment's end.
use Rattle.std.specs.Prelude.{◌≡◌, refl, Bool, true, false, ◌&&◌, List, [], ◌∷◌, ℕ, zero, suc, ◌+◌, ◌≤◌, length, drop, eqb}
use Rattle.std.proofs.Common.{sym, ap, ◌∙◌, zero-le, suc-le-suc, arith, le_refl, one-add, length-drop}
use Rattle.std.proofs.Math.Option.{Option, none, some}
use Rattle.std.proofs.Math.Seq.{drop-length}
use Rattle.lexing.specs.Bytes.{starts_with, is_space, not_newline}
use Rattle.lexing.specs.RunLaws.{pick-case, run_inside}
use Rattle.lexing.specs.Blanks.{Blanks, passed, unclosed, further, Mark, closing, opening, neither, mark, plus, at_mark, long_comment, or_else, position_after_end_of_long_comment, comment, blank, onward, blanks_from, W}

-- ---- blanks

-- how far blanks reach, or where the comment that is not closed opens
abbrev pub reach : Blanks → ℕ
reach (passed n) = n
reach (unclosed n) = n

-- k bytes further back the reach is k longer
pub reach-further : (k : ℕ) (r : Blanks) → reach (further k r) ≡ k + reach r
reach-further k (passed n) = refl
reach-further k (unclosed n) = refl

-- where a count with k more is n, the count is some m with k + m = n
pub plus-some : (k : ℕ) (r : Option ℕ) {n : ℕ} → plus k r ≡ some n → (m : ℕ) × (r ≡ some m) × (k + m ≡ n)
plus-some k none {n} e = cc
plus-some k (some m) {n} e = (m, refl, cc)

-- a long comment that is closed ends inside the text
pub long_comment-inside : (d : ℕ) (s : List ℕ) {n : ℕ} → long_comment d s ≡ some n → n ≤ length s
unfolding long_comment
long_comment-inside d [] {n} e = cc
long_comment-inside d (a ∷ []) {n} e = cc
long_comment-inside d (a ∷ (b ∷ s)) {n} e = by-mark (mark a b) d e (λ k m. long_comment-inside k s {n = m}) (λ k m. long_comment-inside k (b ∷ s) {n = m})
  where
    by-mark : (t : Mark) (d : ℕ) → at_mark t d (λ k. long_comment k s) (λ k. long_comment k (b ∷ s)) ≡ some n
        → ((k m : ℕ) → long_comment k s ≡ some m → m ≤ length s)
        → ((k m : ℕ) → long_comment k (b ∷ s) ≡ some m → m ≤ suc (length s)) → n ≤ suc (suc (length s))
    by-mark closing zero e over on = let h : 2 ≡ n = cc in omega arith
    by-mark closing (suc d) e over on = let (m, p, q) = plus-some 2 (long_comment d s) e in omega (arith, over d m p)
    by-mark opening d e over on = let (m, p, q) = plus-some 2 (long_comment (suc d) s) e in omega (arith, over (suc d) m p)
    by-mark neither d e over on = let (m, p, q) = plus-some 1 (long_comment d (b ∷ s)) e in omega (arith, on d m p)

-- upstream's `start <= len <= end`, its `start` being 0 here
pub position-inside : (s : List ℕ) → position_after_end_of_long_comment s ≤ length s
unfolding position_after_end_of_long_comment
position-inside s = by_end (long_comment 0 s) refl
  where
    by_end : (r : Option ℕ) → long_comment 0 s ≡ r → or_else (length s) r ≤ length s
    by_end none e = le_refl _
    by_end (some n) e = long_comment-inside 0 s e

-- the blank at the start lies inside the text
pub blank-inside : (s : List ℕ) → reach (blank s) ≤ length s
unfolding blank starts_with
blank-inside [] = le_refl _
blank-inside (a ∷ s) =
    pick-case (λ r. reach r ≤ suc (length s)) (is_space a) (λ _. suc-le-suc zero-le)
    (λ _. pick-case (λ r. reach r ≤ suc (length s)) (starts_with (47 ∷ 47 ∷ []) (a ∷ s)) (λ _. omega (arith, run_inside not_newline s))
    (λ _. pick-case (λ r. reach r ≤ suc (length s)) (starts_with (47 ∷ 42 ∷ []) (a ∷ s)) (λ e. long s e) (λ _. zero-le)))
  where
    closed : (s : List ℕ) (r : Option ℕ) → long_comment 0 s ≡ r → reach (comment r) ≤ suc (suc (length s))
    closed s none e = zero-le
    closed s (some n) e = omega (arith, long_comment-inside 0 s e)

    long : (s : List ℕ) → starts_with (47 ∷ 42 ∷ []) (a ∷ s) ≡ true → reach (comment (long_comment 0 (drop 1 s))) ≤ suc (length s)
    long [] e = absurd (by-test (eqb 47 a) e)
      where
        by-test : (t : Bool) → (t && false) ≡ true → ⊥
        by-test true e = cc
        by-test false e = cc
    long (b ∷ s) e = closed s (long_comment 0 s) refl

-- one blank after the other: `onward` by cases on the blank at the start
onward-inside : (n : ℕ) (r : Blanks) (on : ℕ → Blanks) → reach r ≤ suc n → ((k : ℕ) → reach (on k) ≤ n) → reach (onward r on) ≤ suc n
onward-inside n (passed zero) on h f = zero-le
onward-inside n (passed (suc k)) on h f = omega (arith, f k, reach-further 1 (on k))
onward-inside n (unclosed m) on h f = h

-- blanks with k bytes still to pass lie inside the text
blanks_from-inside : (k : ℕ) (s : List ℕ) → reach (blanks_from k s) ≤ length s
unfolding blanks_from
blanks_from-inside k [] = le_refl _
blanks_from-inside zero (a ∷ s) = onward-inside (length s) (blank (a ∷ s)) (λ k. blanks_from k s) (blank-inside (a ∷ s)) (λ k. blanks_from-inside k s)
blanks_from-inside (suc k) (a ∷ s) = omega (arith, blanks_from-inside k s, reach-further 1 (blanks_from k s))

-- blanks lie inside the text
pub W-inside : (s : List ℕ) → reach (W s) ≤ length s
unfolding W
W-inside s = blanks_from-inside 0 s

-- no byte further back is the same
pub further-zero : (r : Blanks) → further 0 r ≡ r
further-zero (passed n) = ap passed (omega arith)
further-zero (unclosed n) = ap unclosed (omega arith)

-- k bytes and j more are j + k
pub further-further : (j k : ℕ) (r : Blanks) → further j (further k r) ≡ further (j + k) r
further-further j k (passed n) = ap passed (omega arith)
further-further j k (unclosed n) = ap unclosed (omega arith)

-- the bytes of a blank are passed one by one
blanks_from-passes : (k : ℕ) (s : List ℕ) → k ≤ length s → blanks_from k s ≡ further k (W (drop k s))
unfolding blanks_from W
blanks_from-passes zero s h = sym (further-zero (blanks_from 0 s))
blanks_from-passes (suc k) [] h = absurd (omega arith)
blanks_from-passes (suc k) (a ∷ s) h =
    ap (further 1) (blanks_from-passes k s (omega arith)) ∙ further-further 1 k (W (drop k s)) ∙ ap (λ j. further j (W (drop k s))) (one-add k)

-- blanks are the blank at the start and the blanks after it
pub W-blank : (s : List ℕ) (k : ℕ) → blank s ≡ passed (suc k) → W s ≡ further (suc k) (W (drop (suc k) s))
unfolding W blanks_from blank
W-blank [] k e = let z : 0 ≡ suc k = cc in absurd (omega arith)
W-blank (a ∷ s) k e =
    let h : suc k ≤ suc (length s) = rw e at (blank-inside (a ∷ s)) in
    ap (λ r. onward r (λ j. blanks_from j s)) e ∙ ap (further 1) (blanks_from-passes k s (omega arith)) ∙ further-further 1 k (W (drop k s))
    ∙ ap (λ j. further j (W (drop k s))) (one-add k)

-- where no blank stands, there are no blanks
pub W-none : (s : List ℕ) → blank s ≡ passed 0 → W s ≡ passed 0
unfolding W blanks_from
W-none [] e = refl
W-none (a ∷ s) e = ap (λ r. onward r (λ j. blanks_from j s)) e

-- where the blank at the start is not closed, neither are the blanks
pub W-unclosed : (s : List ℕ) (n : ℕ) → blank s ≡ unclosed n → W s ≡ unclosed n
unfolding W blanks_from blank
W-unclosed [] n e = e
W-unclosed (a ∷ s) n e = ap (λ r. onward r (λ j. blanks_from j s)) e

-- blanks that are passed from k bytes further back are passed from here
further-passed : (k : ℕ) (r : Blanks) {n : ℕ} → further k r ≡ passed n → (m : ℕ) × (r ≡ passed m) × (k + m ≡ n)
further-passed k (passed m) {n} e = (m, refl, cc)
further-passed k (unclosed m) {n} e = cc

-- after k bytes of a blank and the blanks behind them no blank stands
Stops : List ℕ → ℕ → Type 0
Stops s k = (n : ℕ) → blanks_from k s ≡ passed n → blank (drop n s) ≡ passed 0

-- the same with one byte more in front
stops-later : (a : ℕ) (s : List ℕ) (k n : ℕ) → Stops s k → further 1 (blanks_from k s) ≡ passed n → blank (drop n (a ∷ s)) ≡ passed 0
unfolding Stops
stops-later a s k n f e = let (m, p, q) = further-passed 1 (blanks_from k s) e in rw (← q, one-add) (f m p)

-- that holds of every text
stops : (s : List ℕ) (k : ℕ) → Stops s k
unfolding Stops blanks_from blank
stops [] k n e = let h : 0 ≡ n = cc in rw (← h) refl
stops (a ∷ s) zero n e = by-blanks (blank (a ∷ s)) refl e (λ k. stops s k)
  where
    by-blanks : (r : Blanks) → blank (a ∷ s) ≡ r → onward r (λ k. blanks_from k s) ≡ passed n → ((k : ℕ) → Stops s k) → blank (drop n (a ∷ s)) ≡ passed 0
    by-blanks (passed zero) p e f = let h : 0 ≡ n = cc in rw (← h) p
    by-blanks (passed (suc k)) p e f = stops-later a s k n (f k) e
    by-blanks (unclosed m) p e f = cc
stops (a ∷ s) (suc k) n e = stops-later a s k n (stops s k) e

-- nothing blank stands after blanks
pub W-stops : (s : List ℕ) {n : ℕ} → W s ≡ passed n → blank (drop n s) ≡ passed 0
unfolding W Stops
W-stops s {n} e = stops s 0 n e

-- blanks are idempotent
pub W-idempotent : (s : List ℕ) {n : ℕ} → W s ≡ passed n → W (drop n s) ≡ passed 0
W-idempotent s {n} e = W-none (drop n s) (W-stops s e)

-- ---- upstream's equations of `PositionAfterEndOfLongComment`

-- at most two bytes: the end, whatever they are
pub position-short : (s : List ℕ) → length s ≤ 2 → position_after_end_of_long_comment s ≡ length s
unfolding position_after_end_of_long_comment long_comment
position-short [] h = refl
position-short (a ∷ []) h = refl
position-short (a ∷ (b ∷ [])) h = by-mark (mark a b)
  where
    by-mark : (t : Mark) → or_else 2 (at_mark t 0 (λ k. none) (λ k. none)) ≡ 2
    by-mark closing = refl
    by-mark opening = refl
    by-mark neither = refl
position-short (a ∷ (b ∷ (c ∷ s))) h = absurd (omega arith)

-- one comment after another: `on` is asked at the place after the first
abbrev afterwards : Option ℕ → (ℕ → Option ℕ) → Option ℕ
afterwards none on = none
afterwards (some n) on = plus n (on n)

-- k bytes more and j more are j + k more
pub plus-plus : (j k : ℕ) (r : Option ℕ) → plus j (plus k r) ≡ plus (j + k) r
plus-plus j k none = refl
plus-plus j k (some n) = ap some (omega arith)

-- one after another with k bytes in front of the first
afterwards-plus : (k : ℕ) (r : Option ℕ) (f g : ℕ → Option ℕ) → ((n : ℕ) → f (k + n) ≡ g n) → afterwards (plus k r) f ≡ plus k (afterwards r g)
afterwards-plus k none f g h = refl
afterwards-plus k (some n) f g h = ap (plus (k + n)) (h n) ∙ sym (plus-plus k n (g n))

-- with e + d + 1 comments open inside the outermost, the inner e and one more are closed first
long_comment-nested : (e d j : ℕ) (s : List ℕ) → j ≡ e + d → long_comment (suc j) s ≡ afterwards (long_comment e s) (λ n. long_comment d (drop n s))
unfolding long_comment
long_comment-nested e d j [] h = refl
long_comment-nested e d j (a ∷ []) h = refl
long_comment-nested e d j (a ∷ (b ∷ s)) h = by-mark (mark a b) e j h (λ e j. long_comment-nested e d j s) (λ e j. long_comment-nested e d j (b ∷ s))
  where
    Nested : List ℕ → Type 0
    Nested t = (e j : ℕ) → j ≡ e + d → long_comment (suc j) t ≡ afterwards (long_comment e t) (λ n. long_comment d (drop n t))

    two_is : (n : ℕ) → 2 + n ≡ suc (suc n)
    two_is n = omega arith

    two : (n : ℕ) → long_comment d (drop (2 + n) (a ∷ (b ∷ s))) ≡ long_comment d (drop n s)
    two n = ap (λ k. long_comment d (drop k (a ∷ (b ∷ s)))) (two_is n)

    one : (n : ℕ) → long_comment d (drop (1 + n) (a ∷ (b ∷ s))) ≡ long_comment d (drop n (b ∷ s))
    one n = ap (λ k. long_comment d (drop k (a ∷ (b ∷ s)))) (one-add n)

    by-mark : (t : Mark) (e j : ℕ) → j ≡ e + d → Nested s → Nested (b ∷ s)
        → at_mark t (suc j) (λ k. long_comment k s) (λ k. long_comment k (b ∷ s))
        ≡ afterwards (at_mark t e (λ k. long_comment k s) (λ k. long_comment k (b ∷ s))) (λ n. long_comment d (drop n (a ∷ (b ∷ s))))
    by-mark closing zero j h over on = let q : j ≡ d = omega arith in ap (λ k. plus 2 (long_comment k s)) q
    by-mark closing (suc e) j h over on =
        let q : j ≡ suc (e + d) = omega arith in
        ap (λ k. plus 2 (long_comment k s)) q ∙ ap (plus 2) (over e (e + d) refl) ∙ sym (afterwards-plus 2 (long_comment e s) _ _ two)
    by-mark opening e j h over on = ap (plus 2) (over (suc e) (suc j) (omega arith)) ∙ sym (afterwards-plus 2 (long_comment (suc e) s) _ _ two)
    by-mark neither e j h over on = ap (plus 1) (on e j h) ∙ sym (afterwards-plus 1 (long_comment e (b ∷ s)) _ _ one)

-- upstream's four cases, of what lies between `start` and `end`, with places counted from `start`. The first is `position-short`
pub position-closing : (a b : ℕ) (s : List ℕ) → mark a b ≡ closing → position_after_end_of_long_comment (a ∷ (b ∷ s)) ≡ 2
unfolding position_after_end_of_long_comment long_comment
position-closing a b s e = ap (λ t. or_else (suc (suc (length s))) (at_mark t 0 (λ k. long_comment k s) (λ k. long_comment k (b ∷ s)))) e

-- an opening mark: the inner comment's end, and the outer's after it
pub position-opening : (a b : ℕ) (s : List ℕ) → mark a b ≡ opening → position_after_end_of_long_comment (a ∷ (b ∷ s))
    ≡ 2 + (position_after_end_of_long_comment s + position_after_end_of_long_comment (drop (position_after_end_of_long_comment s) s))
unfolding position_after_end_of_long_comment long_comment
position-opening a b s e =
    ap (λ t. or_else (suc (suc (length s))) (at_mark t 0 (λ k. long_comment k s) (λ k. long_comment k (b ∷ s)))) e
    ∙ ap (λ r. or_else (suc (suc (length s))) (plus 2 r)) (long_comment-nested 0 0 0 s refl)
    ∙ inner (long_comment 0 s) refl
  where
    outer : (n : ℕ) (r : Option ℕ) → n ≤ length s → or_else (suc (suc (length s))) (plus 2 (plus n r)) ≡ 2 + (n + or_else (length (drop n s)) r)
    outer n none h = omega (arith, length-drop n s)
    outer n (some m) h = refl

    inner : (r : Option ℕ) → long_comment 0 s ≡ r
        → or_else (suc (suc (length s))) (plus 2 (afterwards r (λ n. long_comment 0 (drop n s))))
        ≡ 2 + (or_else (length s) r + or_else (length (drop (or_else (length s) r) s)) (long_comment 0 (drop (or_else (length s) r) s)))
    inner none p = rw drop-length (omega arith)
    inner (some n) p = outer n (long_comment 0 (drop n s)) (long_comment-inside 0 s p)

-- no mark: one byte on
pub position-neither : (a b : ℕ) (s : List ℕ) → mark a b ≡ neither → position_after_end_of_long_comment (a ∷ (b ∷ s)) ≡ 1 + position_after_end_of_long_comment (b ∷ s)
unfolding position_after_end_of_long_comment long_comment
position-neither a b s e =
    ap (λ t. or_else (suc (suc (length s))) (at_mark t 0 (λ k. long_comment k s) (λ k. long_comment k (b ∷ s)))) e ∙ by_end (long_comment 0 (b ∷ s))
  where
    by_end : (r : Option ℕ) → or_else (suc (suc (length s))) (plus 1 r) ≡ 1 + or_else (suc (length s)) r
    by_end none = omega arith
    by_end (some n) = refl
