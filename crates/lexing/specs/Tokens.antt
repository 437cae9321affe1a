-- Words and signs (Parser.dfy, `parseIdentifierRaw` to `SymNotPrefix`, and `Nat`), each over the rest of the text.
use Rattle.std.specs.Prelude.{List, [], ◌∷◌, ℕ, zero, suc, ◌+◌, ◌*◌, ◌-◌, length, take, drop, leb}
use Rattle.lexing.specs.Answer.{Answer, ok, none, refused, unclosed_comment, large_natural, pick}
use Rattle.lexing.specs.Bytes.{is_digit, can_start_identifier_char, identifier_char, custom_literal_char, run, starts_with, same_bytes}
use Rattle.lexing.specs.Blanks.{Blanks, passed, unclosed, W}

-- the answer of a token of n bytes with the blanks after it
abbrev pub closed : ℕ → ℕ → Blanks → Answer ℕ
closed v n (passed k) = ok v (n + k)
closed v n (unclosed place) = refused unclosed_comment (n + place)

-- `.I_e(W)`: a token with the value v that takes n bytes, and the blanks after it
unfoldable pub lexeme : ℕ → ℕ → List ℕ → Answer ℕ
lexeme v n s = closed v n (W (drop n s))

-- a token of n bytes, none where n is 0
abbrev pub unless_empty : ℕ → Answer ℕ → Answer ℕ
unless_empty zero r = none
unless_empty (suc n) r = r

-- `parseIdentifierRaw`: how many bytes the identifier at the start has, 0 where there is none
unfoldable pub identifier_length : List ℕ → ℕ
identifier_length [] = 0
identifier_length (a ∷ s) = pick (can_start_identifier_char a) (suc (run identifier_char s)) 0

-- `parseId`: the value is the identifier's length
unfoldable pub parse_id : List ℕ → Answer ℕ
parse_id s = unless_empty (identifier_length s) (lexeme (identifier_length s) (identifier_length s) s)

-- `parseCustomLiteral`: the value is the length; no blank is taken after it
unfoldable pub parse_custom_literal : List ℕ → Answer ℕ
parse_custom_literal s = unless_empty (run custom_literal_char s) (ok (run custom_literal_char s) (run custom_literal_char s))

-- `T(w)`: the whole identifier at the start is w
unfoldable pub keyword : List ℕ → List ℕ → Answer ℕ
keyword w s = pick (same_bytes (take (identifier_length s) s) w) (lexeme 0 (identifier_length s) s) none

-- `Sym(w)`
unfoldable pub sign : List ℕ → List ℕ → Answer ℕ
sign w s = pick (starts_with w s) (lexeme 0 (length w) s) none

-- `SymNotPrefix(w, [longer])`
unfoldable pub sign_not_prefix : List ℕ → List ℕ → List ℕ → Answer ℕ
unfolding sign
sign_not_prefix w longer s = pick (starts_with longer s) none (sign w s)

-- the number that decimal digits stand for, after digits that stand for v
unfoldable pub decimal : ℕ → List ℕ → ℕ
decimal v [] = v
decimal v (d ∷ s) = decimal (v * 10 + (d - 48)) s

-- the largest natural, 18446744073709551615 (REFERENCE, "Limits")
abbrev pub most_natural : ℕ
most_natural = 0xffff_ffff_ffff_ffff

-- `Nat.I_e(W)`: the value is the natural; refused at its first digit where it exceeds the largest
unfoldable pub natural : List ℕ → Answer ℕ
natural s =
    unless_empty (run is_digit s)
    (pick (leb (decimal 0 (take (run is_digit s) s)) most_natural) (lexeme (decimal 0 (take (run is_digit s) s)) (run is_digit s) s) (refused large_natural 0))
