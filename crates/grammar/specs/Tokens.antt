-- Tokens, and the cut of a text into them (REFERENCE, "The operator grammar"): blanks are passed over, then one token is cut, a whole
-- identifier, a whole natural or the longest of the signs. `false`, `true`, `old`, `div` and `mod` are identifiers.
use Rattle.std.specs.Prelude.{ℕ, zero, suc, pred, ◌+◌, true, false, List, [], ◌∷◌, length, take, drop}
use Prim.Native.String.{String}
use Rattle.lexing.specs.Bytes.{is_digit, run, starts_with, bytes}
use Rattle.lexing.specs.Blanks.{Blanks, passed, unclosed, W}
use Rattle.lexing.specs.Tokens.{identifier_length, decimal}

pub data Mark : Type 0 where
  lparen rparen comma : Mark
  deriving Discrete as Mark-discrete

-- the signs of the operators, each named by its spelling
pub data Sign : Type 0 where
  '!' '-' '*' '+' '==' '!=' '<' '<=' '>=' '>' '&&' '||' '==>' '<==' '<==>' : Sign

-- `illegal` stands where bytes are left and none can be cut. No rule of the grammar takes it, so such a text has no derivation.
pub data Token : Type 0 where
  name : List ℕ → Token
  nat : ℕ → Token
  mark : Mark → Token
  sign : Sign → Token
  illegal : Token

infixl 70 ◌is◌
-- how a token is spelt
pub data Spelling : Type 0 where
  ◌is◌ : String → Token → Spelling

-- brackets, comma and signs, longer ones first
abbrev pub signs : List Spelling
signs =
    "<==>" is sign '<==>' ∷ "==>" is sign '==>' ∷ "<==" is sign '<==' ∷ "==" is sign '==' ∷ "!=" is sign '!=' ∷ "<=" is sign '<='
    ∷ ">=" is sign '>=' ∷ "&&" is sign '&&' ∷ "||" is sign '||' ∷ "<" is sign '<' ∷ ">" is sign '>' ∷ "!" is sign '!' ∷ "-" is sign '-'
    ∷ "*" is sign '*' ∷ "+" is sign '+' ∷ "(" is mark lparen ∷ ")" is mark rparen ∷ "," is mark comma ∷ []

-- what is cut at the start of a text: a token, and how many bytes it has
pub data Cut : Type 0 where
  token : Token → ℕ → Cut
  nothing : Cut

-- the first of the signs that stands at the start
unfoldable pub sign_at : List Spelling → List ℕ → Cut
sign_at [] s = nothing
sign_at (◌is◌ w t ∷ g) s = elim (starts_with (bytes w) s) [ true ↦ token t (length (bytes w)) | false ↦ sign_at g s ]

-- the natural of n digits at the start, else a sign
unfoldable pub natural_at : ℕ → List ℕ → Cut
natural_at zero s = sign_at signs s
natural_at (suc n) s = token (nat (decimal 0 (take (suc n) s))) (suc n)

-- the identifier of n bytes at the start, else a natural or a sign
unfoldable pub name_at : ℕ → List ℕ → Cut
name_at zero s = natural_at (run is_digit s) s
name_at (suc n) s = token (name (take (suc n) s)) (suc n)

-- the token at the start
unfoldable pub token_at : List ℕ → Cut
token_at s = name_at (identifier_length s) s

-- the tokens after blanks, which `rest` finds after so many bytes more
abbrev pub after_blanks : Blanks → (ℕ → List Token) → List Token
after_blanks (passed k) rest = rest k
after_blanks (unclosed place) rest = illegal ∷ []

-- the tokens of s from a token's start on; `rest` finds those after its first byte and so many bytes more
unfoldable pub at_token : Cut → List ℕ → (ℕ → List Token) → List Token
at_token (token t n) s rest = t ∷ after_blanks (W (drop n s)) (λ k. rest (pred n + k))
at_token nothing s rest = illegal ∷ []

-- the tokens after k bytes, where a token begins: each is cut with the blanks after it
unfoldable pub tokens_after : ℕ → List ℕ → List Token
tokens_after k [] = []
tokens_after zero (a ∷ s) = at_token (token_at (a ∷ s)) (a ∷ s) (λ k. tokens_after k s)
tokens_after (suc k) (a ∷ s) = tokens_after k s

-- the cut of a text
unfoldable pub cut : List ℕ → List Token
cut s = after_blanks (W s) (λ k. tokens_after k s)
