-- Byte classes (Parser.dfy, `canStartIdentifierChar` to `customLiteralChar`), and runs of bytes. A text is a list of bytes, each a number.
use Rattle.std.specs.Prelude.{Bool, true, false, ◌&&◌, ◌||◌, not, List, [], ◌∷◌, ℕ, suc, leb, eqb}
use Prim.Native.Char.{code}
use Prim.Native.String.{String}

-- an ASCII text as the list of its bytes
abbrev pub bytes : String → List ℕ
bytes String.[] = []
bytes (String.◌∷◌ c s) = code c ∷ bytes s

-- from the least byte to the most
abbrev pub between : ℕ → ℕ → ℕ → Bool
between least most b = leb least b && leb b most

-- `c in ".."`
abbrev pub one_of : List ℕ → ℕ → Bool
one_of [] b = false
one_of (a ∷ w) b = eqb b a || one_of w b

-- space, tab, CR, LF
unfoldable pub is_space : ℕ → Bool
is_space b = one_of (32 ∷ 9 ∷ 13 ∷ 10 ∷ []) b

-- `0` to `9`
unfoldable pub is_digit : ℕ → Bool
is_digit b = between 48 57 b

-- an ASCII letter or `%`
unfoldable pub can_start_identifier_char : ℕ → Bool
can_start_identifier_char b = between 97 122 b || between 65 90 b || eqb b 37

-- those, digits, `_`, `$` and `.`
unfoldable pub identifier_char : ℕ → Bool
unfolding can_start_identifier_char is_digit
identifier_char b = can_start_identifier_char b || is_digit b || one_of (95 ∷ 36 ∷ 46 ∷ []) b

-- those, and `+-*/@#!^`
unfoldable pub custom_literal_char : ℕ → Bool
unfolding identifier_char
custom_literal_char b = identifier_char b || one_of (43 ∷ 45 ∷ 42 ∷ 47 ∷ 64 ∷ 35 ∷ 33 ∷ 94 ∷ []) b

-- anything except a line end
unfoldable pub not_newline : ℕ → Bool
not_newline b = not (eqb b 10)

-- `CharTest(p).Rep()`: how many bytes from the start on satisfy p
unfoldable pub run : (ℕ → Bool) → List ℕ → ℕ
run p [] = 0
run p (b ∷ s) = elim (p b) [ true ↦ suc (run p s) | false ↦ 0 ]

-- `S(w)`: w stands at the start
unfoldable pub starts_with : List ℕ → List ℕ → Bool
starts_with [] s = true
starts_with (a ∷ w) [] = false
starts_with (a ∷ w) (b ∷ s) = eqb a b && starts_with w s

-- the same bytes
unfoldable pub same_bytes : List ℕ → List ℕ → Bool
same_bytes [] [] = true
same_bytes [] (b ∷ s) = false
same_bytes (a ∷ w) [] = false
same_bytes (a ∷ w) (b ∷ s) = eqb b a && same_bytes w s
