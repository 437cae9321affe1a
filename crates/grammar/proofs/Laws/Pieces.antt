-- What a piece of printed text is cut into: a name, a natural or a sign, if what stands after it doesn't lengthen it.
use Rattle.std.specs.Prelude.{ℕ, suc, ◌+◌, ◌≤◌, ◌<◌, ◌≡◌, refl, Bool, true, false, ◌&&◌, ◌||◌, ◌⊎◌, List, [], ◌∷◌, ◌++◌, leb, eqb, length}
use Rattle.std.proofs.Common.{◌∙◌, ap, inl, inr, arith, leb-true, leb-false, eqb-true, ne_eqb}
use Rattle.std.proofs.Math.Seq.{take-append_seam, drop-append_seam}
use Rattle.std.proofs.lemmas.Bool.{lt-leb}
use Rattle.lexing.specs.RunLaws.{both_true}
use Rattle.lexing.specs.Answer.{pick}
use Rattle.lexing.specs.Bytes.{is_space, is_digit, can_start_identifier_char, identifier_char, run, starts_with}
use Rattle.lexing.specs.Blanks.{passed, blank}
use Rattle.lexing.specs.Tokens.{identifier_length, decimal}
use Rattle.grammar.specs.Words.{is_identifier}
use Rattle.grammar.specs.Tokens.{Sign, '!', '-', '*', '+', '==', '!=', '<', '<=', '>=', '>', '&&', '||', '==>', '<==', '<==>', Mark}
use Rattle.grammar.specs.Tokens.{lparen, rparen, comma}
use Rattle.grammar.specs.Tokens.{Token, name, nat, mark, sign, token, token_at, cut}
use Rattle.tree.specs.Clash.{impossible}
use Rattle.grammar.proofs.Laws.Cut.{cut-token}
use Rattle.grammar.proofs.Laws.Views.{spelt, spelt_mark, word-token, digit-token, sign-token, mark-token}

-- no byte that satisfies p stands at the start
abbrev pub Ends : (ℕ → Bool) → List ℕ → Type 0
Ends p [] = Unit {0}
Ends p (b ∷ s) = p b ≡ false

-- a run of all of w goes on with what follows
pub run-append : (p : ℕ → Bool) (w s : List ℕ) → run p w ≡ length w → run p (w ++ s) ≡ length w + run p s
unfolding run
run-append p [] s e = omega arith
run-append p (a ∷ w) s e = by_first (p a) e (λ e. run-append p w s e)
  where
    by_first : (t : Bool) → ◌≡◌ {A = ℕ} (elim t [ true ↦ suc (run p w) | false ↦ 0 ]) (suc (length w))
        → (run p w ≡ length w → run p (w ++ s) ≡ length w + run p s)
        → ◌≡◌ {A = ℕ} (elim t [ true ↦ suc (run p (w ++ s)) | false ↦ 0 ]) (suc (length w) + run p s)
    by_first true e ih = let h : run p w ≡ length w = omega arith in omega (arith, ih h)
    by_first false e ih = absurd (omega arith)

no_run : (p : ℕ → Bool) (s : List ℕ) → Ends p s → run p s ≡ 0
unfolding run
no_run p [] h = refl
no_run p (b ∷ s) h = rw (h, run) refl

-- and no further than w before what ends it
run_ends : (p : ℕ → Bool) (w s : List ℕ) → run p w ≡ length w → Ends p s → run p (w ++ s) ≡ length w
run_ends p w s e h = let n : run p s ≡ 0 = no_run p s h in omega (arith, run-append p w s e)

piece : (a : ℕ) (w s : List ℕ) (t : Token) → blank (a ∷ w ++ s) ≡ passed 0 → token_at (a ∷ w ++ s) ≡ token t (suc (length w))
    → cut (a ∷ w ++ s) ≡ t ∷ cut s
piece a w s t b e = cut-token (a ∷ w ++ s) b e ∙ ap (λ l. t ∷ cut l) (drop-append_seam w s)

-- a byte that begins no blank
no-blank : (a : ℕ) (s : List ℕ) → is_space a ≡ false → eqb 47 a ≡ false → blank (a ∷ s) ≡ passed 0
unfolding blank starts_with
no-blank a s h k = rw (h, k) refl

-- a byte that begins a name
letter-byte : (a : ℕ) → can_start_identifier_char a ≡ true → (65 ≤ a) ⊎ (a ≡ 37)
unfolding can_start_identifier_char
letter-byte a e = by_tests (leb 65 a) (eqb a 37) refl refl
  where
    by_tests : (x y : Bool) → leb 65 a ≡ x → eqb a 37 ≡ y → (65 ≤ a) ⊎ (a ≡ 37)
    by_tests true y p q = inl (leb-true 65 a p)
    by_tests false true p q = inr (eqb-true a 37 q)
    by_tests false false p q =
        let h : a < 65 = leb-false 65 a p in
        let f : can_start_identifier_char a ≡ false = rw (lt-leb 97 a (omega arith), p, q) refl in
        impossible (cc)

letter-no-space : (a : ℕ) → (65 ≤ a) ⊎ (a ≡ 37) → is_space a ≡ false
unfolding is_space
letter-no-space a (inl h) =
    rw (ne_eqb a 32 (λ e. omega arith), ne_eqb a 9 (λ e. omega arith), ne_eqb a 13 (λ e. omega arith), ne_eqb a 10 (λ e. omega arith)) refl
letter-no-space a (inr h) = rw h refl

letter-no-comment : (a : ℕ) → (65 ≤ a) ⊎ (a ≡ 37) → eqb 47 a ≡ false
letter-no-comment a (inl h) = ne_eqb 47 a (λ e. omega arith)
letter-no-comment a (inr h) = rw h refl

-- the bytes of a name
name-bytes : (a : ℕ) (w : List ℕ) → is_identifier (a ∷ w) ≡ true → (can_start_identifier_char a ≡ true) × (run identifier_char w ≡ length w)
unfolding is_identifier identifier_length
name-bytes a w e =
    let h : identifier_length (a ∷ w) ≡ suc (length w) = eqb-true _ _ (both_true (leb 1 (suc (length w))) _ e).1 in
    by_first (can_start_identifier_char a) refl h
  where
    by_first : (b : Bool) → can_start_identifier_char a ≡ b → pick b (suc (run identifier_char w)) 0 ≡ suc (length w)
        → (can_start_identifier_char a ≡ true) × (run identifier_char w ≡ length w)
    by_first true p h = (p, omega arith)
    by_first false p h = absurd (omega arith)

name-at : (a : ℕ) (w s : List ℕ) → can_start_identifier_char a ≡ true → run identifier_char w ≡ length w → Ends identifier_char s
    → token_at (a ∷ w ++ s) ≡ token (name (a ∷ w)) (suc (length w))
name-at a w s e h k = rw (run_ends identifier_char w s h k, take-append_seam w s) at (word-token a (w ++ s) e)

-- a name
pub cut-name : (w s : List ℕ) → is_identifier w ≡ true → Ends identifier_char s → cut (w ++ s) ≡ name w ∷ cut s
unfolding is_identifier
cut-name [] s e k = impossible (cc)
cut-name (a ∷ w) s e k =
    let (p, h) = name-bytes a w e in
    let l = letter-byte a p in
    piece a w s (name (a ∷ w)) (no-blank a (w ++ s) (letter-no-space a l) (letter-no-comment a l)) (name-at a w s p h k)

-- the bytes of a natural
digit-bytes : (a : ℕ) (w : List ℕ) → run is_digit (a ∷ w) ≡ suc (length w) → (is_digit a ≡ true) × (run is_digit w ≡ length w)
unfolding run
digit-bytes a w e = by_first (is_digit a) e
  where
    by_first : (b : Bool) → ◌≡◌ {A = ℕ} (elim b [ true ↦ suc (run is_digit w) | false ↦ 0 ]) (suc (length w)) → (b ≡ true) × (run is_digit w ≡ length w)
    by_first true e = (refl, omega arith)
    by_first false e = absurd (omega arith)

-- a digit begins neither a name nor a blank
digit-byte : (a : ℕ) → is_digit a ≡ true → (can_start_identifier_char a ≡ false) × (is_space a ≡ false) × (eqb 47 a ≡ false)
unfolding is_digit can_start_identifier_char is_space
digit-byte a e =
    let (p, q) = both_true (leb 48 a) (leb a 57) e in
    let l : 48 ≤ a = leb-true 48 a p in
    let m : a ≤ 57 = leb-true a 57 q in (
      rw (lt-leb 97 a (omega arith), lt-leb 65 a (omega arith), ne_eqb a 37 (λ e. omega arith)) refl,
      rw (ne_eqb a 32 (λ e. omega arith), ne_eqb a 9 (λ e. omega arith), ne_eqb a 13 (λ e. omega arith), ne_eqb a 10 (λ e. omega arith)) refl,
      ne_eqb 47 a (λ e. omega arith),
    )

nat-at : (a : ℕ) (w s : List ℕ) → can_start_identifier_char a ≡ false → is_digit a ≡ true → run is_digit w ≡ length w → Ends is_digit s
    → token_at (a ∷ w ++ s) ≡ token (nat (decimal 0 (a ∷ w))) (suc (length w))
nat-at a w s e d h k = rw (run_ends is_digit w s h k, take-append_seam w s) at (digit-token a (w ++ s) e d)

-- a natural
pub cut-nat : (w s : List ℕ) → 0 < length w → run is_digit w ≡ length w → Ends is_digit s → cut (w ++ s) ≡ nat (decimal 0 w) ∷ cut s
cut-nat [] s z e k = absurd (omega arith)
cut-nat (a ∷ w) s z e k =
    let (d, h) = digit-bytes a w e in
    let (l, b, c) = digit-byte a d in
    piece a w s (nat (decimal 0 (a ∷ w))) (no-blank a (w ++ s) b c) (nat-at a w s l d h k)

-- `=` or `>`: a byte that may lengthen a sign
unfoldable pub lengthens : ℕ → Bool
lengthens b = eqb 61 b || eqb 62 b

clear : (s : List ℕ) → Ends lengthens s → (starts_with (61 ∷ []) s ≡ false) × (starts_with (62 ∷ []) s ≡ false)
unfolding starts_with lengthens
clear [] h = (refl, refl)
clear (b ∷ s) h = by_tests (eqb 61 b) (eqb 62 b) h
  where
    by_tests : (x y : Bool) → (x || y) ≡ false → ((x && true) ≡ false) × ((y && true) ≡ false)
    by_tests true y h = impossible (cc)
    by_tests false true h = impossible (cc)
    by_tests false false h = (refl, refl)

-- a sign
pub cut-sign : (g : Sign) (s : List ℕ) → Ends lengthens s → cut (spelt g ++ s) ≡ sign g ∷ cut s
unfolding blank is_space starts_with
cut-sign '!' s h = piece 33 [] s (sign '!') refl (sign-token '!' s (clear s h).0)
cut-sign '-' s h = piece 45 [] s (sign '-') refl (sign-token '-' s tt)
cut-sign '*' s h = piece 42 [] s (sign '*') refl (sign-token '*' s tt)
cut-sign '+' s h = piece 43 [] s (sign '+') refl (sign-token '+' s tt)
cut-sign '==' s h = piece 61 (61 ∷ []) s (sign '==') refl (sign-token '==' s (clear s h).1)
cut-sign '!=' s h = piece 33 (61 ∷ []) s (sign '!=') refl (sign-token '!=' s tt)
cut-sign '<' s h = piece 60 [] s (sign '<') refl (sign-token '<' s (clear s h).0)
cut-sign '<=' s h = piece 60 (61 ∷ []) s (sign '<=') refl (sign-token '<=' s (clear s h).0)
cut-sign '>=' s h = piece 62 (61 ∷ []) s (sign '>=') refl (sign-token '>=' s tt)
cut-sign '>' s h = piece 62 [] s (sign '>') refl (sign-token '>' s (clear s h).0)
cut-sign '&&' s h = piece 38 (38 ∷ []) s (sign '&&') refl (sign-token '&&' s tt)
cut-sign '||' s h = piece 124 (124 ∷ []) s (sign '||') refl (sign-token '||' s tt)
cut-sign '==>' s h = piece 61 (61 ∷ 62 ∷ []) s (sign '==>') refl (sign-token '==>' s tt)
cut-sign '<==' s h = piece 60 (61 ∷ 61 ∷ []) s (sign '<==') refl (sign-token '<==' s (clear s h).1)
cut-sign '<==>' s h = piece 60 (61 ∷ 61 ∷ 62 ∷ []) s (sign '<==>') refl (sign-token '<==>' s tt)

-- a bracket or comma
pub cut-mark : (k : Mark) (s : List ℕ) → cut (spelt_mark k ++ s) ≡ mark k ∷ cut s
unfolding blank is_space starts_with
cut-mark lparen s = piece 40 [] s (mark lparen) refl (mark-token lparen s)
cut-mark rparen s = piece 41 [] s (mark rparen) refl (mark-token rparen s)
cut-mark comma s = piece 44 [] s (mark comma) refl (mark-token comma s)
