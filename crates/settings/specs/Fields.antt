-- A record of fields: each a one-byte tag, a two-byte length (high byte first), and a content of one byte. Its layout has the fixed bytes, and
-- `None` for each content.
use Rattle.std.specs.Prelude.{ℕ, suc, Bool, true, List, [], ◌∷◌, eqb, Option, None, Some}
use Rattle.lexing.specs.Answer.{pick}

-- a field, of bytes or of what is laid out
abbrev pub field : {A : Type 0} → (fixed : ℕ → A) → (tag : ℕ) → (content : A) → List A
field fixed tag content = fixed tag ∷ fixed 0 ∷ fixed 1 ∷ content ∷ []

-- a byte that may stand where `expected` is laid out
abbrev pub admits : (expected : Option ℕ) (byte : ℕ) → Bool
admits None b = true
admits (Some fixed) b = eqb fixed b

-- the place, counted from `at`, of the first byte that is not as laid out, or that is missing or too many
unfoldable pub misplaced : (layout : List (Option ℕ)) (at : ℕ) (bytes : List ℕ) → Option ℕ
misplaced [] at [] = None
misplaced [] at (b ∷ s) = Some at
misplaced (t ∷ layout) at [] = Some at
misplaced (t ∷ layout) at (b ∷ s) = pick (admits t b) (misplaced layout (suc at) s) (Some at)
