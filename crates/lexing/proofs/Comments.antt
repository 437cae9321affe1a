-- The loop of `long_comment`, and the place that `position_after_end_of_long_comment` answers.
use Rattle.std.proofs.Common.{◌≡◌, refl, sym, ap, ◌∙◌, List, [], ◌∷◌, ℕ, zero, suc, ◌+◌, ◌-◌, ◌≤◌, ◌<◌, length, get_or, take, drop, arith, length-take, length-drop, add-one, drop-cons, drop_of_length-le}
use Rattle.std.proofs.Math.Option.{Option, none, some}
use Rattle.lexing.specs.Blanks.{Mark, closing, opening, neither, mark, plus, at_mark, long_comment}
use Rattle.lexing.specs.BlankLaws.{plus-plus, long_comment-inside}
use Rattle.lexing.specs.CodeAnswers.{Position}

-- a byte that is in no mark
by_zero : (d : ℕ) (s : List ℕ) → long_comment d (0 ∷ s) ≡ plus 1 (long_comment d s)
unfolding long_comment mark
by_zero d [] = refl
by_zero d (b ∷ s) = refl

-- the loop at i, with d comments open inside the outermost, after a byte that is in no mark yet
pub record Open (s : List ℕ) (before d i : ℕ) : Type 0 where
  pub few : d ≤ i
  pub says : plus 1 (long_comment 0 s) ≡ plus i (long_comment d (before ∷ drop i s))

pub open_start : (s : List ℕ) → Open s 0 0 0
open_start s = record { few = omega arith; says = sym (by_end (long_comment 0 (0 ∷ s)) ∙ by_zero 0 s) }
  where
    by_end : (r : Option ℕ) → plus 0 r ≡ r
    by_end none = refl
    by_end (some n) = ap some (omega arith)

-- one count is the other where one more is one more
plus_one : (r q : Option ℕ) → plus 1 r ≡ plus 1 q → r ≡ q
plus_one none none e = refl
plus_one none (some n) e = cc
plus_one (some n) none e = cc
plus_one (some n) (some m) e = let h : 1 + n ≡ 1 + m = cc in ap some (omega arith)

module _ {s : List ℕ} {before d i : ℕ} (o : Open s before d i) where
  module _ (h : i < length s) where
    -- the comment by the mark that `mark_at` found at i
    at_mark_lem : {t : Mark} → t ≡ mark before (get_or s i 0)
        → plus 1 (long_comment 0 s) ≡ plus i (at_mark t d (λ k. long_comment k (drop (i + 1) s)) (λ k. long_comment k (get_or s i 0 ∷ drop (i + 1) s)))
    unfolding long_comment
    at_mark_lem e = o.says ∙ rw (add-one, drop-cons s i 0, e)

    -- after a mark where e comments are open
    after_mark : (e : ℕ) → e ≤ i + 1 → plus 1 (long_comment 0 s) ≡ plus i (plus 2 (long_comment e (drop (i + 1) s))) → Open s 0 e (i + 1)
    after_mark e l q =
        record {
          few = l;
          says =
              let one : i + 2 ≡ i + 1 + 1 = omega arith in
              q ∙ plus-plus i 2 _ ∙ ap (λ n. plus n (long_comment e (drop (i + 1) s))) one ∙ sym (plus-plus (i + 1) 1 _)
              ∙ ap (plus (i + 1)) (sym (by_zero e (drop (i + 1) s)));
        }

    pub open_close : closing ≡ mark before (get_or s i 0) → d ≡ 0 → some (i + 1) ≡ long_comment 0 s
    open_close e z =
        let two : i + 2 ≡ 1 + (i + 1) = omega arith in
        plus_one _ _ (sym (at_mark_lem e ∙ ap (λ k. plus i (at_mark closing k (λ k. long_comment k (drop (i + 1) s)) (λ k. long_comment k (get_or s i 0 ∷ drop (i + 1) s)))) z ∙ ap some two))

    pub open_inner : closing ≡ mark before (get_or s i 0) → (d ≡ 0 → ⊥) → Open s 0 (d - 1) (i + 1)
    open_inner e z = after_mark (d - 1) (omega (arith, o.few)) (by_depth d z (at_mark_lem e))
      where
        by_depth : (d : ℕ) → (d ≡ 0 → ⊥)
            → {r : Option ℕ} → r ≡ plus i (at_mark closing d (λ k. long_comment k (drop (i + 1) s)) (λ k. long_comment k (get_or s i 0 ∷ drop (i + 1) s)))
            → r ≡ plus i (plus 2 (long_comment (d - 1) (drop (i + 1) s)))
        by_depth zero z q = absurd (z refl)
        by_depth (suc d) z q = let less : suc d - 1 ≡ d = omega arith in rw less q

    pub open_more : opening ≡ mark before (get_or s i 0) → Open s 0 (d + 1) (i + 1)
    open_more e = after_mark (d + 1) (omega (arith, o.few)) (rw add-one (at_mark_lem e))

    pub open_next : neither ≡ mark before (get_or s i 0) → Open s (get_or s i 0) d (i + 1)
    open_next e = record { few = omega (arith, o.few); says = at_mark_lem e ∙ plus-plus i 1 _ }

  -- at the end it is not closed
  pub open_never : length s ≤ i → none ≡ long_comment 0 s
  unfolding long_comment
  open_never h = plus_one _ _ (sym (o.says ∙ rw (drop_of_length-le s h)))

-- the place after a comment that is closed between start and end
pub position_at : (input : List ℕ) (start end : ℕ) → start ≤ end → end ≤ length input → {n : ℕ} → some n ≡ long_comment 0 (take (end - start) (drop start input))
    → Position (take (end - start) (drop start input)) start end (start + n)
position_at input start end h k {n} e =
    let l : length (take (end - start) (drop start input)) ≡ end - start = simp (length-take, length-drop) (omega arith) in
    let m : start + n - start ≡ n = omega arith in
    record {
      after-start = omega arith;
      before-end = omega (arith, long_comment-inside 0 (take (end - start) (drop start input)) (sym e), l);
      ends = sym (ap some m ∙ e);
    }
