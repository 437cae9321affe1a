-- Upstream's own forms of three definitions: `PositionAfterEndOfLongComment(input, start, end)` with its parameters, its `ensures` and the four
-- equations of its body; `W` over `W1`, where a long comment that is not closed runs to the text's end, equal to ours save there; `T(s)`, the
-- bytes of s with no identifier character after them, equal to ours.
use Rattle.std.specs.Prelude.{◌≡◌, refl, Bool, true, false, ◌&&◌, not, List, [], ◌∷◌, ◌++◌, ℕ, zero, suc, ◌+◌, ◌-◌, ◌≤◌, ◌<◌, length, take, drop, get_or}
use Rattle.std.proofs.Common.{sym, ◌∙◌, add-one, arith, drop-drop, get_or-drop, eq-eqb}
use Rattle.std.proofs.Math.Path.{ap}
use Rattle.std.proofs.Math.Seq.{take-append_seam, slice, slice-cons, length-slice}
use Rattle.lexing.specs.Answer.{Answer, none, pick}
use Rattle.lexing.specs.Bytes.{is_space, not_newline, identifier_char, can_start_identifier_char, run, starts_with, same_bytes}
use Rattle.lexing.specs.Tokens.{lexeme, identifier_length, keyword}
use Rattle.lexing.specs.Blanks.{Blanks, passed, unclosed, closing, opening, neither, mark, position_after_end_of_long_comment}
use Rattle.lexing.specs.BlankLaws.{position-inside, position-short, position-closing, position-opening, position-neither}
use Rattle.lexing.specs.TokenLaws.{same_bytes-refl, starts_with-true, identifier-maximal, keyword-is}

-- the place after the long comment that is open at `start`, as the code's contract has it
unfoldable pub position_from : List ℕ → ℕ → ℕ → ℕ
position_from input start end = start + position_after_end_of_long_comment (take (end - start) (drop start input))

part : (s : List ℕ) (start end : ℕ) → start ≤ end → end ≤ length s → take (end - start) (drop start s) ≡ slice start end s
part s zero end h k = let z : end - 0 ≡ end = omega arith in ap (λ n. take n s) z
part [] (suc start) end h k = absurd (omega arith)
part (a ∷ s) (suc start) zero h k = absurd (omega arith)
part (a ∷ s) (suc start) (suc end) h k =
    let z : suc end - suc start ≡ end - start = omega arith in
    ap (λ n. take n (drop start s)) z ∙ part s start end (omega arith) (omega arith)

module _ (input : List ℕ) (start end : ℕ) (h : start ≤ end) (k : end ≤ length input) where
  from-slice : position_from input start end ≡ start + position_after_end_of_long_comment (slice start end input)
  unfolding position_from
  from-slice = ap (λ s. start + position_after_end_of_long_comment s) (part input start end h k)

  -- `start <= len <= end`
  pub position-range : (start ≤ position_from input start end) × (position_from input start end ≤ end)
  position-range =
      omega (arith, from-slice, position-inside (slice start end input), length-slice start end input k)

  pub position-last : end ≤ start + 2 → position_from input start end ≡ end
  position-last l =
      let n : length (slice start end input) ≡ end - start = length-slice start end input k in
      omega (arith, from-slice, position-short (slice start end input) (omega arith))

module _ (input : List ℕ) (start end : ℕ) (h : start + 2 < end) (k : end ≤ length input) where
  one : (i j : ℕ) → j ≡ i + 1 → i < end → slice i end input ≡ get_or input i 0 ∷ slice j end input
  one i j e l = rw (e, add-one) (slice-cons i end input 0 l k)

  two : position_from input start end
      ≡ start + position_after_end_of_long_comment (get_or input start 0 ∷ (get_or input (start + 1) 0 ∷ slice (start + 2) end input))
  two =
      from-slice input start end (omega arith) k
      ∙ ap (λ s. start + position_after_end_of_long_comment s)
      (one start (start + 1) refl (omega arith) ∙ ap (λ s. get_or input start 0 ∷ s) (one (start + 1) (start + 2) (omega arith) (omega arith)))

  pub position-at-closing : mark (get_or input start 0) (get_or input (start + 1) 0) ≡ closing → position_from input start end ≡ start + 2
  position-at-closing e = two ∙ ap (λ n. start + n) (position-closing _ _ _ e)

  pub position-at-opening : mark (get_or input start 0) (get_or input (start + 1) 0) ≡ opening
      → position_from input start end ≡ position_from input (position_from input (start + 2) end) end
  position-at-opening e =
      let s = slice (start + 2) end input in
      let n : ℕ = position_after_end_of_long_comment s in
      let q : position_from input (start + 2) end ≡ start + 2 + n = from-slice input (start + 2) end (omega arith) k in
      let l : start + 2 + n ≤ end = omega (arith, position-range input (start + 2) end (omega arith) k) in
      let r : position_from input (start + 2 + n) end ≡ start + 2 + n + position_after_end_of_long_comment (drop n s) =
      from-slice input (start + 2 + n) end l k ∙ ap (λ t. start + 2 + n + position_after_end_of_long_comment t) (sym (drop-drop n (start + 2) (take end input))) in
      rw q (omega (arith, two, r, position-opening _ _ s e))

  pub position-at-neither : mark (get_or input start 0) (get_or input (start + 1) 0) ≡ neither → position_from input start end ≡ position_from input (start + 1) end
  position-at-neither e =
      let s = slice (start + 2) end input in
      let q : position_from input (start + 1) end ≡ start + 1 + position_after_end_of_long_comment (get_or input (start + 1) 0 ∷ s) =
      from-slice input (start + 1) end (omega arith) k
      ∙ ap (λ t. start + 1 + position_after_end_of_long_comment t) (one (start + 1) (start + 2) (omega arith) (omega arith)) in
      omega (arith, two, position-neither _ (get_or input (start + 1) 0) s e)

-- ---- `W1`, `W`, by how many bytes each takes

-- n bytes, and what q takes after them
abbrev pub and_then : ℕ → (List ℕ → ℕ) → List ℕ → ℕ
and_then n q s = n + q (drop n s)

-- `p.Rep()`, where p takes no byte if it fails, with k bytes of one p still to pass
unfoldable pub rep_from : (List ℕ → ℕ) → ℕ → List ℕ → ℕ
rep_from p k [] = 0
rep_from p zero (a ∷ s) = elim (p (a ∷ s)) [ zero ↦ 0 | suc k ↦ suc (rep_from p k s) ]
rep_from p (suc k) (a ∷ s) = suc (rep_from p k s)

unfoldable pub rep : (List ℕ → ℕ) → List ℕ → ℕ
unfolding rep_from
rep p s = rep_from p 0 s

-- `WS`
abbrev pub WS : List ℕ → ℕ
WS s = run is_space s

-- `S("\n")`, or at the text's end nothing
abbrev pub newline : List ℕ → ℕ
newline s = pick (starts_with (10 ∷ []) s) 1 0

-- `S("//")`, `notNewline.Rep()`, the newline or the text's end, and `WS`
unfoldable pub line : List ℕ → ℕ
line s = pick (starts_with (47 ∷ 47 ∷ []) s) (and_then (and_then (2 + run not_newline (drop 2 s)) newline s) WS s) 0

unfoldable pub W1 : List ℕ → ℕ
unfolding rep line
W1 s = and_then (WS s) (rep line) s

-- `S("/*")`, `parseUntilEndOfLongComment` and `W1`
unfoldable pub long : List ℕ → ℕ
unfolding W1
long s = pick (starts_with (47 ∷ 42 ∷ []) s) (and_then (2 + position_after_end_of_long_comment (drop 2 s)) W1 s) 0

unfoldable pub W : List ℕ → ℕ
unfolding W1 rep long
W s = and_then (W1 s) (rep long) s

-- upstream's reach in a text of n bytes: where ours are refused, the whole text
abbrev pub to_end : ℕ → Blanks → ℕ
to_end n (passed k) = k
to_end n (unclosed place) = n

-- ---- `T(s)`

unfoldable pub T : List ℕ → List ℕ → Answer ℕ
T w s = pick (starts_with w s && not (identifier_char (get_or s (length w) 0))) (lexeme 0 (length w) s) none

-- a run ends where the bytes after it fail the test
pub run-append : (p : ℕ → Bool) (w r : List ℕ) → run p w ≡ length w → p (get_or r 0 0) ≡ false → run p (w ++ r) ≡ length w
unfolding run
run-append p [] [] h e = refl
run-append p [] (b ∷ r) h e = rw (e, run)
run-append p (a ∷ w) r h e = by-test (p a) refl h (run-append p w r)
  where
    by-test : (t : Bool) → p a ≡ t → elim t [ true ↦ suc (run p w) | false ↦ 0 ] ≡ suc (length w)
        → (run p w ≡ length w → p (get_or r 0 0) ≡ false → run p (w ++ r) ≡ length w) → run p (a ∷ (w ++ r)) ≡ suc (length w)
    by-test true q h f = let i : run p w ≡ length w = omega arith in let j = f i e in rw (q, run) (ap suc j)
    by-test false q h f = absurd (omega arith)

pub identifier-append : (w r : List ℕ) → 0 < length w → identifier_length w ≡ length w → identifier_char (get_or r 0 0) ≡ false
    → identifier_length (w ++ r) ≡ length w
unfolding identifier_length
identifier-append [] r h l e = absurd (omega arith)
identifier-append (a ∷ w) r h l e = by-test (can_start_identifier_char a) l
  where
    by-test : (t : Bool) → pick t (suc (run identifier_char w)) 0 ≡ suc (length w) → pick t (suc (run identifier_char (w ++ r))) 0 ≡ suc (length w)
    by-test true l = let i : run identifier_char w ≡ length w = omega arith in ap suc (run-append identifier_char w r i e)
    by-test false l = absurd (omega arith)

starts_with-take : (n : ℕ) (s : List ℕ) → starts_with (take n s) s ≡ true
unfolding starts_with
starts_with-take zero s = refl
starts_with-take (suc n) [] = refl
starts_with-take (suc n) (a ∷ s) = rw (eq-eqb a a refl) (starts_with-take n s)

-- of a word that is an identifier, `T` is the keyword
pub keyword-T : (w s : List ℕ) → 0 < length w → identifier_length w ≡ length w → keyword w s ≡ T w s
unfolding keyword T
keyword-T w s h l = by-test (same_bytes (take (identifier_length s) s) w) refl
  where
    clash : (t : Bool) → t ≡ false → t ≡ true → ⊥
    clash t e f = cc

    whole : starts_with w s ≡ true → identifier_char (get_or s (length w) 0) ≡ false → same_bytes (take (identifier_length s) s) w ≡ true
    whole p e =
        let r : List ℕ = drop (length w) s in
        let q : s ≡ w ++ r = starts_with-true w s p in
        let zero-on : length w + 0 ≡ length w = omega arith in
        let f : identifier_char (get_or r 0 0) ≡ false = ap identifier_char (get_or-drop (length w) s 0 0 ∙ ap (λ i. get_or s i 0) zero-on) ∙ e in
        let n : identifier_length s ≡ length w = ap identifier_length q ∙ identifier-append w r h l f in
        ap (λ k. same_bytes (take k s) w) n ∙ ap (λ t. same_bytes t w) (ap (take (length w)) q ∙ take-append_seam w r) ∙ same_bytes-refl w

    by-test : (t : Bool) → same_bytes (take (identifier_length s) s) w ≡ t
        → pick t (lexeme 0 (identifier_length s) s) none ≡ pick (starts_with w s && not (identifier_char (get_or s (length w) 0))) (lexeme 0 (length w) s) none
    by-test true e =
        let (p, n) = keyword-is w s e in
        let a : starts_with w s ≡ true = rw p at (starts_with-take (identifier_length s) s) in
        let b : identifier_char (get_or s (length w) 0) ≡ false = rw n at (identifier-maximal s (omega arith)) in
        rw (a, b, n)
    by-test false e = ends (starts_with w s) (identifier_char (get_or s (length w) 0)) refl refl
      where
        ends : (t u : Bool) → starts_with w s ≡ t → identifier_char (get_or s (length w) 0) ≡ u → none ≡ pick (t && not u) (lexeme 0 (length w) s) none
        ends true true p q = refl
        ends true false p q = absurd (clash _ e (whole p q))
        ends false u p q = refl
