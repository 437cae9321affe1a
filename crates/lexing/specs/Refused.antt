-- Where blanks are refused, and with them the token before them.
use Rattle.std.specs.Prelude.{◌≡◌, true, List, [], ◌∷◌, ℕ, suc, ◌+◌, drop}
use Rattle.lexing.specs.Answer.{unclosed_comment}
use Rattle.lexing.specs.Bytes.{starts_with}
use Rattle.lexing.specs.Blanks.{passed, unclosed, blank, W}

-- Blanks, one after another, lead from the start of s to the place p. A long comment among them is passed whole, so no place inside one is led to.
pub data Leads : List ℕ → ℕ → Type 0 where
  here : {s : List ℕ} → Leads s 0
  later : {s : List ℕ} {k p : ℕ} → blank s ≡ passed (suc k) → Leads (drop (suc k) s) p → Leads s (suc k + p)

-- `/*` stands at the start
abbrev pub Opens : List ℕ → Type 0
Opens s = starts_with (47 ∷ 42 ∷ []) s ≡ true

-- Blanks meet a long comment at the place p: its opening mark is an outermost one.
abbrev pub Meets : List ℕ → ℕ → Type 0
Meets s p = Leads s p × Opens (drop p s)

-- the blanks after a token of n bytes are refused, by this number at this place
abbrev pub Refused : ℕ → List ℕ → ℕ → ℕ → Type 0
Refused n s number place = (k : ℕ) × (number ≡ unclosed_comment) × (W (drop n s) ≡ unclosed k) × (n + k ≡ place)
