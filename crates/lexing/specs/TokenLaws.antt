-- Laws of words and signs: each lies inside the text with the blanks after it, makes progress, and is maximal.
use Rattle.std.specs.Prelude.{◌≡◌, refl, Bool, true, false, ◌&&◌, List, [], ◌∷◌, ◌++◌, ℕ, zero, suc, ◌+◌, ◌≤◌, ◌<◌, length, take, drop, get_or, leb, eqb}
use Rattle.std.proofs.Common.{sym, ap, ◌∙◌, zero-le, suc-le-suc, arith, le_refl, length-drop, length-take, drop-drop, eqb-true, eq-eqb}
use Rattle.lexing.specs.Answer.{Answer, ok, none, refused, large_natural, pick}
use Rattle.lexing.specs.Bytes.{run, starts_with, same_bytes, is_digit, identifier_char, can_start_identifier_char, custom_literal_char}
use Rattle.lexing.specs.Blanks.{Blanks, passed, unclosed, W, blank}
use Rattle.lexing.specs.Tokens.{closed, lexeme, unless_empty, identifier_length, parse_id, parse_custom_literal, keyword, sign, sign_not_prefix, natural, decimal, most_natural}
use Rattle.lexing.specs.RunLaws.{pick-case, run_inside, run_ends}
use Rattle.lexing.specs.BlankLaws.{W-inside, W-stops, reach}

-- What an answer says of a token: it takes at least k bytes and lies inside n bytes; a refusal's place lies there too.
abbrev pub Within : ℕ → ℕ → Answer ℕ → Type 0
Within k n (ok v next) = (k ≤ next) × (next ≤ n)
Within k n none = Unit {0}
Within k n (refused number place) = place ≤ n

-- a token of n bytes with the blanks after it lies inside the text
pub lexeme-within : (v k n : ℕ) (s : List ℕ) → k ≤ n → n ≤ length s → Within k (length s) (lexeme v n s)
unfolding lexeme
lexeme-within v k n s h l = by-blanks (W (drop n s)) (W-inside (drop n s))
  where
    by-blanks : (r : Blanks) → reach r ≤ length (drop n s) → Within k (length s) (closed v n r)
    by-blanks (passed m) i = (omega arith, omega (arith, length-drop n s))
    by-blanks (unclosed m) i = omega (arith, length-drop n s)

-- What the readers of tokens answer: nothing, a natural that is too large, in a text of some bytes, or a token of at least k bytes with the blanks after it.
pub data Token (k : ℕ) (s : List ℕ) : Answer ℕ → Type 0 where
  absent : Token k s none
  too_large : 0 < length s → Token k s (refused large_natural 0)
  present : (v n : ℕ) → k ≤ n → n ≤ length s → Token k s (lexeme v n s)

-- a token lies inside the text
pub token-within : {k : ℕ} {s : List ℕ} {r : Answer ℕ} → Token k s r → Within k (length s) r
token-within absent = tt
token-within (too_large h) = zero-le
token-within {k} {s} (present v n h l) = lexeme-within v k n s h l

-- and no blank stands after it
abbrev pub Stopped : List ℕ → Answer ℕ → Type 0
Stopped s (ok v next) = blank (drop next s) ≡ passed 0
Stopped s none = Unit {0}
Stopped s (refused number place) = Unit {0}

-- no blank stands after the blanks after a token
pub lexeme-stops : (v n : ℕ) (s : List ℕ) → Stopped s (lexeme v n s)
unfolding lexeme
lexeme-stops v n s = by-blanks (W (drop n s)) refl
  where
    by-blanks : (r : Blanks) → W (drop n s) ≡ r → Stopped s (closed v n r)
    by-blanks (passed k) e = rw (← drop-drop k n s) (W-stops (drop n s) e)
    by-blanks (unclosed k) e = tt

-- so no blank stands after a token
pub token-stops : {k : ℕ} {s : List ℕ} {r : Answer ℕ} → Token k s r → Stopped s r
token-stops absent = tt
token-stops (too_large h) = tt
token-stops {k} {s} (present v n h l) = lexeme-stops v n s

-- a token of no bytes is none
pub unless_empty-none : (n : ℕ) (r : Answer ℕ) → n ≡ 0 → none ≡ unless_empty n r
unless_empty-none zero r h = refl
unless_empty-none (suc n) r h = absurd (omega arith)

-- one of some bytes is read
pub unless_empty-some : (n : ℕ) (r : Answer ℕ) → (n ≡ 0 → ⊥) → r ≡ unless_empty n r
unless_empty-some zero r h = absurd (h refl)
unless_empty-some (suc n) r h = refl

-- either way the answer is that of a token
unless_empty-token : (n k : ℕ) (s : List ℕ) (r : Answer ℕ) → (0 < n → Token k s r) → Token k s (unless_empty n r)
unless_empty-token zero k s r f = absent
unless_empty-token (suc n) k s r f = f (omega arith)

-- an identifier lies inside the text
pub identifier-inside : (s : List ℕ) → identifier_length s ≤ length s
unfolding identifier_length
identifier-inside [] = le_refl _
identifier-inside (a ∷ s) = pick-case (λ n. n ≤ suc (length s)) (can_start_identifier_char a) (λ _. suc-le-suc (run_inside identifier_char s)) (λ _. zero-le)

-- an identifier is maximal: its first byte can start one, all its bytes are identifier characters, and the byte after it is none
pub identifier-starts : (s : List ℕ) → 0 < identifier_length s → can_start_identifier_char (get_or s 0 0) ≡ true
unfolding identifier_length
identifier-starts [] h = absurd (omega arith)
identifier-starts (a ∷ s) h = pick-case (λ n. 0 < n → can_start_identifier_char a ≡ true) (can_start_identifier_char a) (λ e _. e) (λ _ h. absurd (omega arith)) h

-- the byte after an identifier cannot continue it
pub identifier-maximal : (s : List ℕ) → 0 < identifier_length s → identifier_char (get_or s (identifier_length s) 0) ≡ false
unfolding identifier_length identifier_char
identifier-maximal [] h = absurd (omega arith)
identifier-maximal (a ∷ s) h =
    pick-case (λ n. 0 < n → identifier_char (get_or (a ∷ s) n 0) ≡ false) (can_start_identifier_char a) (λ _ _. run_ends identifier_char refl s)
    (λ _ h. absurd (omega arith)) h

-- a name is a token of at least one byte
pub parse_id-token : (s : List ℕ) → Token 1 s (parse_id s)
unfolding parse_id
parse_id-token s = unless_empty-token (identifier_length s) 1 s _ (λ h. present _ _ h (identifier-inside s))

-- so it lies inside the text
pub parse_id-within : (s : List ℕ) → Within 1 (length s) (parse_id s)
parse_id-within s = token-within (parse_id-token s)

-- a custom literal's text has at least one byte and lies inside the text
pub parse_custom_literal-within : (s : List ℕ) → Within 1 (length s) (parse_custom_literal s)
unfolding parse_custom_literal
parse_custom_literal-within s = by_count (run custom_literal_char s) (run_inside custom_literal_char s)
  where
    by_count : (n : ℕ) → n ≤ length s → Within 1 (length s) (unless_empty n (ok n n))
    by_count zero h = tt
    by_count (suc n) h = (omega arith, h)

-- a natural is maximal: the byte after its digits is none
pub natural-maximal : (s : List ℕ) → is_digit (get_or s (run is_digit s) 0) ≡ false
unfolding is_digit
natural-maximal s = run_ends is_digit refl s

-- a natural is a token of at least one byte
pub natural-token : (s : List ℕ) → Token 1 s (natural s)
unfolding natural
natural-token s =
    unless_empty-token (run is_digit s) 1 s _
    (λ h. pick-case (Token 1 s) (leb (decimal 0 (take (run is_digit s) s)) most_natural) (λ _. present _ _ h (run_inside is_digit s)) (λ _. too_large (omega (arith, h, run_inside is_digit s))))

-- so it lies inside the text
pub natural-within : (s : List ℕ) → Within 1 (length s) (natural s)
natural-within s = token-within (natural-token s)

-- a conjunction is true where both are
and-true : (a b : Bool) → (a && b) ≡ true → (a ≡ true) × (b ≡ true)
and-true true b e = (refl, e)
and-true false b e = cc

-- texts that are the same bytes are equal
pub same_bytes-true : (a b : List ℕ) → same_bytes a b ≡ true → a ≡ b
unfolding same_bytes
same_bytes-true [] [] e = refl
same_bytes-true [] (y ∷ b) e = cc
same_bytes-true (x ∷ a) [] e = cc
same_bytes-true (x ∷ a) (y ∷ b) e =
    let (p, q) = and-true (eqb y x) (same_bytes a b) e in
    let h : y ≡ x = eqb-true y x p in
    let t : a ≡ b = same_bytes-true a b q in cc

-- and equal texts are the same bytes
pub same_bytes-refl : (a : List ℕ) → same_bytes a a ≡ true
unfolding same_bytes
same_bytes-refl [] = refl
same_bytes-refl (x ∷ a) = rw (eq-eqb x x refl) (same_bytes-refl a)

-- w stands at the start: the text is w and the rest
pub starts_with-true : (w s : List ℕ) → starts_with w s ≡ true → s ≡ w ++ drop (length w) s
unfolding starts_with
starts_with-true [] s e = refl
starts_with-true (a ∷ w) [] e = cc
starts_with-true (a ∷ w) (b ∷ s) e =
    let (p, q) = and-true (eqb a b) (starts_with w s) e in
    let h : a ≡ b = eqb-true a b p in
    let t : s ≡ w ++ drop (length w) s = starts_with-true w s q in cc

-- what stands at the start is no longer than the text
pub starts_with-inside : (w s : List ℕ) → starts_with w s ≡ true → length w ≤ length s
unfolding starts_with
starts_with-inside [] s e = zero-le
starts_with-inside (a ∷ w) [] e = cc
starts_with-inside (a ∷ w) (b ∷ s) e = suc-le-suc (starts_with-inside w s (and-true (eqb a b) (starts_with w s) e).1)

-- a sign is a token of its own bytes
pub sign-token : (w s : List ℕ) → Token (length w) s (sign w s)
unfolding sign
sign-token w s = pick-case (Token (length w) s) (starts_with w s) (λ e. present _ _ (le_refl _) (starts_with-inside w s e)) (λ _. absent)

-- so it lies inside the text
pub sign-within : (w s : List ℕ) → Within (length w) (length s) (sign w s)
sign-within w s = token-within (sign-token w s)

-- the same of a sign that is no prefix of a longer one
pub sign_not_prefix-token : (w longer s : List ℕ) → Token (length w) s (sign_not_prefix w longer s)
unfolding sign_not_prefix
sign_not_prefix-token w longer s = pick-case (Token (length w) s) (starts_with longer s) (λ _. absent) (λ _. sign-token w s)

-- so it lies inside the text
pub sign_not_prefix-within : (w longer s : List ℕ) → Within (length w) (length s) (sign_not_prefix w longer s)
sign_not_prefix-within w longer s = token-within (sign_not_prefix-token w longer s)

-- a keyword is an identifier equal to its bytes
pub keyword-is : (w s : List ℕ) → same_bytes (take (identifier_length s) s) w ≡ true → (take (identifier_length s) s ≡ w) × (identifier_length s ≡ length w)
keyword-is w s e =
    let h : take (identifier_length s) s ≡ w = same_bytes-true _ w e in
    (h, omega (arith, length-take (identifier_length s) s, ap length h, identifier-inside s))

-- a keyword is a token of its own bytes
pub keyword-token : (w s : List ℕ) → Token (length w) s (keyword w s)
unfolding keyword
keyword-token w s =
    pick-case (Token (length w) s) (same_bytes (take (identifier_length s) s) w)
    (λ e. present _ _ (omega (arith, (keyword-is w s e).1)) (identifier-inside s)) (λ _. absent)

-- so it lies inside the text
pub keyword-within : (w s : List ℕ) → Within (length w) (length s) (keyword w s)
keyword-within w s = token-within (keyword-token w s)

-- the blanks after a token do not depend on its value
lexeme-value : (u v n : ℕ) (s : List ℕ) {w m : ℕ} → lexeme u n s ≡ ok w m → (u ≡ w) × (lexeme v n s ≡ ok v m)
unfolding lexeme
lexeme-value u v n s {w} {m} e = by-blanks (W (drop n s)) e
  where
    by-blanks : (r : Blanks) → closed u n r ≡ ok w m → (u ≡ w) × (closed v n r ≡ ok v m)
    by-blanks (passed k) e = (cc, let h : n + k ≡ m = cc in ap (ok v) h)
    by-blanks (unclosed k) e = cc

-- the value of `parse_id` is the identifier's length
pub parse_id-value : (s : List ℕ) {v n : ℕ} → parse_id s ≡ ok v n → (identifier_length s ≡ v) × (lexeme v v s ≡ ok v n)
unfolding parse_id
parse_id-value s {v} {n} e = by_length (identifier_length s) e
  where
    by_length : (k : ℕ) → unless_empty k (lexeme k k s) ≡ ok v n → (k ≡ v) × (lexeme v v s ≡ ok v n)
    by_length zero e = cc
    by_length (suc k) e = let h : suc k ≡ v = (lexeme-value (suc k) 0 (suc k) s e).0 in (h, rw h at e)

-- where a keyword stands `parse_id` reads its bytes, and where `parse_id` reads them the keyword stands
pub keyword-parse_id : (w s : List ℕ) {v n : ℕ} → 0 < length w → keyword w s ≡ ok v n → (parse_id s ≡ ok (length w) n) × (take (length w) s ≡ w)
unfolding keyword parse_id
keyword-parse_id w s {v} {n} h e = by-test (same_bytes (take (identifier_length s) s) w) refl e
  where
    by-test : (t : Bool) → same_bytes (take (identifier_length s) s) w ≡ t → pick t (lexeme 0 (identifier_length s) s) none ≡ ok v n
        → (unless_empty (identifier_length s) (lexeme (identifier_length s) (identifier_length s) s) ≡ ok (length w) n) × (take (length w) s ≡ w)
    by-test true q e =
        let (p, l) = keyword-is w s q in
        (rw l (sym (unless_empty-some (length w) _ (λ z. omega arith)) ∙ (lexeme-value 0 (length w) (length w) s (rw l at e)).1), rw l at p)
    by-test false q e = cc

-- and the identifier with these bytes is the keyword
pub parse_id-keyword : (w s : List ℕ) {n : ℕ} → parse_id s ≡ ok (length w) n → take (length w) s ≡ w → keyword w s ≡ ok 0 n
unfolding keyword
parse_id-keyword w s {n} e p =
    let (l, q) = parse_id-value s e in
    rw (l, p, same_bytes-refl w) (lexeme-value (length w) 0 (length w) s q).1
