-- What is proved of blanks and words. That the code's answer is the definition's, for every input, is the contract of each function in src/;
-- these claims are about the definitions, each by citation.
use Rattle.std.specs.Prelude.{◌≡◌, ◌↔◌, ◌⊎◌, true, false, List, ℕ, ◌+◌, ◌≤◌, ◌<◌, length, take, drop, get_or, leb}
use Rattle.std.proofs.Math.Option.{none, some}
use Rattle.lexing.specs.Answer.{ok, refused, large_natural}
use Rattle.lexing.specs.Bytes.{is_digit, identifier_char, run, starts_with, same_bytes}
use Rattle.lexing.specs.Blanks.{passed, unclosed, long_comment, closing, opening, neither, mark, W}
use Rattle.lexing.specs.Refused.{Meets, Refused}
use Rattle.lexing.specs.Tokens.{identifier_length, parse_id, parse_custom_literal, keyword, sign, sign_not_prefix, natural, decimal, most_natural}
use Rattle.lexing.specs.BlankLaws as laws
use Rattle.lexing.specs.TokenLaws as tokens
use Rattle.lexing.specs.Upstream as upstream
use Rattle.lexing.proofs.Refusals as refusals
use Rattle.lexing.proofs.UpstreamBlanks as blanks

-- ---- upstream's `PositionAfterEndOfLongComment`: `start <= len <= end`, and the four equations of its body

module _ (input : List ℕ) (start end : ℕ) (h : start ≤ end) (k : end ≤ length input) where
  start-len-end : (start ≤ upstream.position_from input start end) × (upstream.position_from input start end ≤ end)
  start-len-end = upstream.position-range input start end h k

  at-the-end : end ≤ start + 2 → upstream.position_from input start end ≡ end
  at-the-end = upstream.position-last input start end h k

module _ (input : List ℕ) (start end : ℕ) (h : start + 2 < end) (k : end ≤ length input) where
  at-closing : mark (get_or input start 0) (get_or input (start + 1) 0) ≡ closing → upstream.position_from input start end ≡ start + 2
  at-closing = upstream.position-at-closing input start end h k

  at-opening : mark (get_or input start 0) (get_or input (start + 1) 0) ≡ opening
      → upstream.position_from input start end ≡ upstream.position_from input (upstream.position_from input (start + 2) end) end
  at-opening = upstream.position-at-opening input start end h k

  at-neither : mark (get_or input start 0) (get_or input (start + 1) 0) ≡ neither
      → upstream.position_from input start end ≡ upstream.position_from input (start + 1) end
  at-neither = upstream.position-at-neither input start end h k

-- ---- what is consumed lies inside the text, and a token takes at least one byte, a keyword or sign at least its own

blanks-inside : (s : List ℕ) → laws.reach (W s) ≤ length s
blanks-inside = laws.W-inside

names-inside : (s : List ℕ) → tokens.Within 1 (length s) (parse_id s)
names-inside = tokens.parse_id-within

literals-inside : (s : List ℕ) → tokens.Within 1 (length s) (parse_custom_literal s)
literals-inside = tokens.parse_custom_literal-within

naturals-inside : (s : List ℕ) → tokens.Within 1 (length s) (natural s)
naturals-inside = tokens.natural-within

keywords-inside : (w s : List ℕ) → tokens.Within (length w) (length s) (keyword w s)
keywords-inside = tokens.keyword-within

signs-inside : (w s : List ℕ) → tokens.Within (length w) (length s) (sign w s)
signs-inside = tokens.sign-within

signs-not-prefix-inside : (w longer s : List ℕ) → tokens.Within (length w) (length s) (sign_not_prefix w longer s)
signs-not-prefix-inside = tokens.sign_not_prefix-within

-- ---- blanks are refused at the long comment that they meet and that is not closed, and only there: `Meets`, an outermost opening mark

pub unclosed-exactly : (s : List ℕ) (p : ℕ) → (W s ≡ unclosed p) ↔ (Meets s p × (long_comment 0 (drop (p + 2) s) ≡ none))
unclosed-exactly = refusals.W-refused

unclosed-once : (s : List ℕ) (p q : ℕ) → Meets s p × (long_comment 0 (drop (p + 2) s) ≡ none)
    → Meets s q × (long_comment 0 (drop (q + 2) s) ≡ none) → p ≡ q
unclosed-once = refusals.W-refused-once

closed-else : (s : List ℕ) (p : ℕ) → Meets s p → (W s ≡ unclosed p → ⊥) → (n : ℕ) × (long_comment 0 (drop (p + 2) s) ≡ some n)
closed-else = refusals.met-closed

-- upstream takes as many bytes, and all of the text where blanks are refused

blanks-as-upstream : (s : List ℕ) → upstream.W s ≡ upstream.to_end (length s) (W s)
blanks-as-upstream = blanks.W-to_end

-- ---- a token is refused in the blanks after it alone, at the comment's place; a natural also where it is too large

module _ (number place : ℕ) where
  pub names-refused : (s : List ℕ) → (parse_id s ≡ refused number place) ↔ ((0 < identifier_length s) × Refused (identifier_length s) s number place)
  names-refused = refusals.parse_id-refused

  keywords-refused : (w s : List ℕ) → (keyword w s ≡ refused number place)
      ↔ ((same_bytes (take (identifier_length s) s) w ≡ true) × Refused (identifier_length s) s number place)
  keywords-refused = refusals.keyword-refused

  signs-refused : (w s : List ℕ) → (sign w s ≡ refused number place) ↔ ((starts_with w s ≡ true) × Refused (length w) s number place)
  signs-refused = refusals.sign-refused

  signs-not-prefix-refused : (w longer s : List ℕ) → (sign_not_prefix w longer s ≡ refused number place)
      ↔ ((starts_with longer s ≡ false) × ((starts_with w s ≡ true) × Refused (length w) s number place))
  signs-not-prefix-refused = refusals.sign_not_prefix-refused

  naturals-refused : (s : List ℕ) → (natural s ≡ refused number place)
      ↔ ((0 < run is_digit s)
      × (((leb (decimal 0 (take (run is_digit s) s)) most_natural ≡ true) × Refused (run is_digit s) s number place)
      ⊎ ((leb (decimal 0 (take (run is_digit s) s)) most_natural ≡ false) × (number ≡ large_natural) × (place ≡ 0))))
  naturals-refused = refusals.natural-refused

  literals-unrefused : (s : List ℕ) → parse_custom_literal s ≡ refused number place → ⊥
  literals-unrefused = refusals.parse_custom_literal-unrefused

-- ---- blanks are taken whole: none stands after them, nor after a token

blanks-idempotent : (s : List ℕ) (n : ℕ) → W s ≡ passed n → W (drop n s) ≡ passed 0
blanks-idempotent s n = laws.W-idempotent s

names-stop : (s : List ℕ) → tokens.Stopped s (parse_id s)
names-stop s = tokens.token-stops (tokens.parse_id-token s)

naturals-stop : (s : List ℕ) → tokens.Stopped s (natural s)
naturals-stop s = tokens.token-stops (tokens.natural-token s)

keywords-stop : (w s : List ℕ) → tokens.Stopped s (keyword w s)
keywords-stop w s = tokens.token-stops (tokens.keyword-token w s)

signs-stop : (w longer s : List ℕ) → tokens.Stopped s (sign_not_prefix w longer s)
signs-stop w longer s = tokens.token-stops (tokens.sign_not_prefix-token w longer s)

-- ---- words are maximal, and a keyword is an identifier equal to its bytes

names-maximal : (s : List ℕ) → 0 < identifier_length s → identifier_char (get_or s (identifier_length s) 0) ≡ false
names-maximal = tokens.identifier-maximal

naturals-maximal : (s : List ℕ) → is_digit (get_or s (run is_digit s) 0) ≡ false
naturals-maximal = tokens.natural-maximal

keyword-is-name : (w s : List ℕ) (v n : ℕ) → 0 < length w → keyword w s ≡ ok v n → (parse_id s ≡ ok (length w) n) × (take (length w) s ≡ w)
keyword-is-name w s v n = tokens.keyword-parse_id w s

name-is-keyword : (w s : List ℕ) (n : ℕ) → parse_id s ≡ ok (length w) n → take (length w) s ≡ w → keyword w s ≡ ok 0 n
name-is-keyword w s n = tokens.parse_id-keyword w s

keyword-as-upstream : (w s : List ℕ) → 0 < length w → identifier_length w ≡ length w → keyword w s ≡ upstream.T w s
keyword-as-upstream = upstream.keyword-T
