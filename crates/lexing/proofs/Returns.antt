-- The ways out of `blank_at_start`, `blanks` and the readers of words, over plain lists.
use Rattle.std.proofs.Common.{◌≡◌, refl, sym, ap, ◌∙◌, Bool, true, false, ◌&&◌, List, [], ◌∷◌, ℕ, zero, suc, ◌+◌, ◌-◌, ◌≤◌, ◌<◌, length, get_or, drop, take, nat_eq, arith, one-add, length-drop, get_or-drop, drop-drop, Option, Some, None, ok_or}
use Rattle.std.proofs.Math.ListN.{drop_of_length-le}
use borrow.Author.Tests.{ne_eqb}
use Rattle.lexing.specs.Answer.{ok, pick}
use Rattle.lexing.specs.Bytes.{is_space, not_newline, run, starts_with, can_start_identifier_char, identifier_char}
use Rattle.lexing.specs.Blanks.{Blanks, passed, unclosed, further, long_comment, comment, blank, blanks_from, W}
use Rattle.lexing.specs.Tokens.{identifier_length, lexeme, closed}
use Rattle.lexing.specs.CodeAnswers.{PositionIf, reach_of}
use Rattle.std.proofs.Math.Seq.{length-take-le}
use Rattle.lexing.specs.TokenLaws.{identifier-inside}
use Rattle.lexing.specs.RunLaws.{run_inside}
use Rattle.lexing.specs.BlankLaws.{W-blank, W-none, W-unclosed, further-zero, further-further, blank-inside, reach, W-inside}
use Rattle.lexing.proofs.Lists.{suffix}

-- no blank stands at the end of the text
pub blank_empty : (s : List ℕ) → length s < 1 → passed 0 ≡ blank s
unfolding blank
blank_empty [] h = refl
blank_empty (a ∷ s) h = absurd (omega arith)

-- `blank` by its tests
blank_by : (s : List ℕ) → 1 ≤ length s → blank s
    ≡ pick (is_space (get_or s 0 0)) (passed 1)
    (pick (starts_with (47 ∷ 47 ∷ []) s) (passed (1 + run not_newline (drop 1 s)))
    (pick (starts_with (47 ∷ 42 ∷ []) s) (comment (long_comment 0 (drop 2 s))) (passed 0)))
unfolding blank
blank_by [] h = absurd (omega arith)
blank_by (a ∷ s) h = refl

-- the opening of a comment by its two bytes
opening_by : (x : ℕ) (s : List ℕ) → 2 ≤ length s → starts_with (47 ∷ x ∷ []) s ≡ (nat_eq 47 (get_or s 0 0) && (nat_eq x (get_or s 1 0) && true))
unfolding starts_with
opening_by x [] h = absurd (omega arith)
opening_by x (a ∷ []) h = absurd (omega arith)
opening_by x (a ∷ (b ∷ s)) h = refl

-- none has one byte
opening_short : (x : ℕ) (s : List ℕ) → length s < 2 → starts_with (47 ∷ x ∷ []) s ≡ false
unfolding starts_with
opening_short x [] h = refl
opening_short x (a ∷ []) h = by_test (nat_eq 47 a)
  where
    by_test : (t : Bool) → (t && false) ≡ false
    by_test true = refl
    by_test false = refl
opening_short x (a ∷ (b ∷ s)) h = absurd (omega arith)

-- and each begins with a slash
opening_slash : (x : ℕ) (s : List ℕ) → (get_or s 0 0 ≡ 47 → ⊥) → starts_with (47 ∷ x ∷ []) s ≡ false
unfolding starts_with
opening_slash x [] h = refl
opening_slash x (a ∷ s) h = rw (ne_eqb 47 a (λ e. h (sym e)))

module _ (s : List ℕ) (h : 1 ≤ length s) where
  pub blank_space : true ≡ is_space (get_or s 0 0) → passed 1 ≡ blank s
  blank_space p = simp (blank_by s h, sym p)

  module _ (p : false ≡ is_space (get_or s 0 0)) where
    pub blank_word : (get_or s 0 0 ≡ 47 → ⊥) → passed 0 ≡ blank s
    blank_word q = simp (blank_by s h, sym p, opening_slash 47 s q, opening_slash 42 s q)

    pub blank_alone : length (take (length s - 1) (drop 1 s)) < 1 → passed 0 ≡ blank s
    blank_alone l =
        let k : length s < 2 = omega (arith, ap length (suffix s 1), length-drop 1 s) in
        simp (blank_by s h, sym p, opening_short 47 s k, opening_short 42 s k)

  -- after a slash
  module _ (q : get_or s 0 0 ≡ 47) (l : 1 ≤ length (take (length s - 1) (drop 1 s))) where
    two : 2 ≤ length s
    two = omega (arith, length-drop 1 s, ap length (suffix s 1))

    second : get_or s 1 0 ≡ get_or (take (length s - 1) (drop 1 s)) 0 0
    second = sym (ap (λ t. get_or t 0 0) (suffix s 1) ∙ get_or-drop 1 s 0 0)

    pub blank_line : get_or (take (length s - 1) (drop 1 s)) 0 0 ≡ 47 → {n : ℕ} → n ≡ run not_newline (take (length s - 1) (drop 1 s)) → passed (1 + n) ≡ blank s
    unfolding is_space
    blank_line e {n} r = simp (blank_by s h, opening_by 47 s two, q, second, e) (ap (λ k. passed (1 + k)) (r ∙ ap (run not_newline) (suffix s 1)))

    -- a long comment, by where it ends, if it is closed
    pub blank_long : get_or (take (length s - 1) (drop 1 s)) 0 0 ≡ 42 → (o : Option ℕ) → PositionIf (take (length s - 2) (drop 2 s)) 2 (length s) o
        → reach_of (ok_or o (record { at = 0 })) ≡ blank s
    unfolding is_space
    blank_long e o r = simp (blank_by s h, opening_by 47 s two, opening_by 42 s two, q, second, e) (by_end o r ∙ ap (λ t. comment (long_comment 0 t)) (suffix s 2))
      where
        by_end : (o : Option ℕ) → PositionIf (take (length s - 2) (drop 2 s)) 2 (length s) o
            → reach_of (ok_or o (record { at = 0 })) ≡ comment (long_comment 0 (take (length s - 2) (drop 2 s)))
        by_end None e = ap comment (sym e)
        by_end (Some n) p = let m : n ≡ 2 + (n - 2) = omega (arith, p.after-start) in ap passed m ∙ ap comment (sym p.ends)

    pub blank_slash : (get_or (take (length s - 1) (drop 1 s)) 0 0 ≡ 47 → ⊥) → (get_or (take (length s - 1) (drop 1 s)) 0 0 ≡ 42 → ⊥) → passed 0 ≡ blank s
    unfolding is_space
    blank_slash e f = simp (blank_by s h, opening_by 47 s two, opening_by 42 s two, q, second, ne_eqb 47 _ (λ z. e (sym z)), ne_eqb 42 _ (λ z. f (sym z)))

-- a run of the rest after the first byte ends inside the text
pub run-after-one : (p : ℕ → Bool) (s : List ℕ) {n : ℕ} → 0 < length s → n ≡ run p (take (length s - 1) (drop 1 s)) → 1 + n ≤ length s
run-after-one p s {n} h e = omega (arith, e ∙ ap (run p) (suffix s 1), run_inside p (drop 1 s), length-drop 1 s)

-- the loop of `blanks`
pub record Reached (s : List ℕ) (at : ℕ) : Type 0 where
  pub inside : at ≤ length s
  pub says : W s ≡ further at (W (drop at s))

pub reached-start : (s : List ℕ) → Reached s 0
reached-start s = record { inside = omega arith; says = sym (further-zero (W s)) }

-- one turn, by what `blank_at_start` answered for the rest from `at` on
module _ {s : List ℕ} {at : ℕ} (o : Reached s at) where
  reached-here : {r : Blanks} → r ≡ blank (take (length s - at) (drop at s)) → r ≡ blank (drop at s)
  reached-here e = e ∙ ap blank (suffix s at)

  pub reached-inside : {r : Blanks} → r ≡ blank (take (length s - at) (drop at s)) → at + reach r ≤ length s
  reached-inside e = omega (arith, ap reach (reached-here e), blank-inside (drop at s), length-drop at s, o.inside)

  pub reached-end : passed 0 ≡ blank (take (length s - at) (drop at s)) → passed at ≡ W s
  reached-end e =
      let q : at + 0 ≡ at = omega arith in
      sym (o.says ∙ ap (further at) (W-none (drop at s) (sym (reached-here e))) ∙ ap passed q)

  pub reached-more : {n : ℕ} → passed n ≡ blank (take (length s - at) (drop at s)) → (n ≡ 0 → ⊥) → Reached s (at + n)
  reached-more {n} e z = record { inside = reached-inside e; says = by_count n (sym (reached-here e)) z }
    where
      by_count : (n : ℕ) → blank (drop at s) ≡ passed n → (n ≡ 0 → ⊥) → W s ≡ further (at + n) (W (drop (at + n) s))
      by_count zero e z = absurd (z refl)
      by_count (suc k) e z =
          o.says ∙ ap (further at) (W-blank (drop at s) k e) ∙ further-further at (suc k) (W (drop (suc k) (drop at s)))
          ∙ ap (λ t. further (at + suc k) (W t)) (drop-drop (suc k) at s)

  pub reached-open : {n : ℕ} → unclosed n ≡ blank (take (length s - at) (drop at s)) → unclosed (at + n) ≡ W s
  reached-open {n} e = sym (o.says ∙ ap (further at) (W-unclosed (drop at s) n (sym (reached-here e))))

-- an identifier by its tests
pub identifier-empty : (s : List ℕ) → length s ≡ 0 → 0 ≡ identifier_length s
unfolding identifier_length
identifier-empty [] h = refl
identifier-empty (a ∷ s) h = absurd (omega arith)

-- an identifier of a text that is not empty, by the test of its first byte
identifier-by : (s : List ℕ) → 0 < length s → identifier_length s ≡ pick (can_start_identifier_char (get_or s 0 0)) (1 + run identifier_char (drop 1 s)) 0
unfolding identifier_length
identifier-by [] h = absurd (omega arith)
identifier-by (a ∷ s) h = ap (λ k. pick (can_start_identifier_char a) k 0) (sym (one-add (run identifier_char s)))

module _ (s : List ℕ) (h : 0 < length s) where
  pub identifier-run : can_start_identifier_char (get_or s 0 0) ≡ true → (n : ℕ) → n ≡ run identifier_char (take (length s - 1) (drop 1 s)) → 1 + n ≡ identifier_length s
  identifier-run p n e = simp (identifier-by s h, p) (ap (λ k. 1 + k) (e ∙ ap (run identifier_char) (suffix s 1)))

  pub identifier-none : can_start_identifier_char (get_or s 0 0) ≡ false → 0 ≡ identifier_length s
  identifier-none p = simp (identifier-by s h, p)

-- an identifier lies inside the text
pub identifier_taken : (s : List ℕ) → length (take (identifier_length s) s) ≡ identifier_length s
identifier_taken s = length-take-le (identifier_length s) s (identifier-inside s)

-- no blanks stand at the end of the text
nothing : W [] ≡ passed 0
unfolding W blanks_from
nothing = refl

-- blanks after a token
pub lexeme-past : (s : List ℕ) (v n : ℕ) → length s < n → ok v n ≡ lexeme v n s
unfolding lexeme
lexeme-past s v n h =
    let z : n + 0 ≡ n = omega arith in
    let past : length s ≤ n = omega arith in
    rw (drop_of_length-le s past, nothing) (ap (ok v) (sym z))

-- by what `blanks` answered for the rest after the token
module _ (s : List ℕ) (n : ℕ) {r : Blanks} (e : r ≡ W (take (length s - n) (drop n s))) where
  pub lexeme-inside : n ≤ length s → n + reach r ≤ length s
  lexeme-inside h = omega (arith, ap reach (e ∙ ap W (suffix s n)), W-inside (drop n s), length-drop n s)

  pub lexeme-is : (v : ℕ) → closed v n r ≡ lexeme v n s
  unfolding lexeme
  lexeme-is v = ap (closed v n) (e ∙ ap W (suffix s n))
