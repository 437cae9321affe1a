-- A long comment by the two bytes at a place. Comments says it by a byte and the one before; docs/PORT.md names this form.
use Rattle.std.proofs.Common.{◌≡◌, sym, ap, ◌∙◌, List, ◌∷◌, ℕ, suc, ◌+◌, ◌≤◌, ◌<◌, length, get_or, drop, arith, drop-cons}
use Rattle.lexing.specs.Blanks.{Mark, mark, plus, at_mark, long_comment}

-- the comment from the place i on, with d comments open inside the outermost
pub record Open (s : List ℕ) (d i : ℕ) : Type 0 where
  pub inside : i ≤ length s
  pub few : d ≤ i
  pub says : long_comment 0 s ≡ plus i (long_comment d (drop i s))

one-byte : (s : List ℕ) (i : ℕ) → i + 1 < length s → drop (i + 1) s ≡ get_or s (i + 1) 0 ∷ drop (i + 2) s
one-byte s i h = let two : suc (i + 1) ≡ i + 2 = omega arith in drop-cons s (i + 1) 0 h ∙ ap (λ k. get_or s (i + 1) 0 ∷ drop k s) two

two-bytes : (s : List ℕ) (i : ℕ) → i + 1 < length s → drop i s ≡ get_or s i 0 ∷ (get_or s (i + 1) 0 ∷ drop (i + 2) s)
two-bytes s i h =
    let one : suc i ≡ i + 1 = omega arith in
    drop-cons s i 0 (omega arith) ∙ ap (λ k. get_or s i 0 ∷ drop k s) one ∙ ap (λ t. get_or s i 0 ∷ t) (one-byte s i h)

-- one step, by the mark that the two bytes are
pub at_mark_lem : {s : List ℕ} {d i : ℕ} → Open s d i → i + 1 < length s → {t : Mark} → t ≡ mark (get_or s i 0) (get_or s (i + 1) 0)
    → long_comment 0 s ≡ plus i (at_mark t d (λ k. long_comment k (drop (i + 2) s)) (λ k. long_comment k (drop (i + 1) s)))
unfolding long_comment
at_mark_lem {s} {d} {i} o h e =
    o.says
    ∙ ap (λ u. plus i (long_comment d u)) (two-bytes s i h)
    ∙ ap (λ u. plus i (at_mark (mark (get_or s i 0) (get_or s (i + 1) 0)) d (λ k. long_comment k (drop (i + 2) s)) (λ k. long_comment k u))) (sym (one-byte s i h))
    ∙ ap (λ m. plus i (at_mark m d (λ k. long_comment k (drop (i + 2) s)) (λ k. long_comment k (drop (i + 1) s)))) (sym e)
