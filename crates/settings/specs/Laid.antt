-- Bytes that are laid out, and the first bad byte of others: what refusal 9 is about.
use Rattle.std.specs.Prelude.{ℕ, suc, ◌<◌, ◌≤◌, ◌≡◌, ◌⊎◌, List, [], ◌∷◌, ◌++◌, length, take, Option, None, Some}
use Rattle.settings.specs.Records.{least_step, most_step, form_number, settings_record}
use Rattle.layout.specs.declared.settings.Form.TheVariants.{Broken}

-- as many bytes as are laid out, the fixed ones at their places
abbrev pub LaidOut : (layout : List (Option ℕ)) (bytes : List ℕ) → Type 0
LaidOut [] [] = Unit {0}
LaidOut [] (b ∷ bytes) = ⊥
LaidOut (t ∷ layout) [] = ⊥
LaidOut (None ∷ layout) (b ∷ bytes) = LaidOut layout bytes
LaidOut (Some fixed ∷ layout) (b ∷ bytes) = (fixed ≡ b) × LaidOut layout bytes

-- the bytes of a record, whatever its contents
pub record IsRecord (bytes : List ℕ) : Type 0 where
  pub version : ℕ
  pub step : ℕ
  pub form : ℕ
  pub is : bytes ≡ settings_record version step form

module _ (Whole : List ℕ → Type 0) where
  -- more bytes make a whole of these
  abbrev pub Begins : List ℕ → Type 0
  Begins bytes = (rest : List ℕ) × Whole (bytes ++ rest)

  -- The bytes before the place begin a whole. Those through the place do not, or the place is the byte count, and bytes are missing.
  pub record FirstBad (bytes : List ℕ) (place : ℕ) : Type 0 where
    pub begins : Begins (take place bytes)
    pub bad : ((place < length bytes) × (Begins (take (suc place) bytes) → ⊥)) ⊎ ((place ≡ length bytes) × (Whole bytes → ⊥))

-- the contents of settings are in their ranges
abbrev pub StepInRange : ℕ → Type 0
StepInRange step = (least_step ≤ step) × (step ≤ most_step)

abbrev pub FormInRange : ℕ → Type 0
FormInRange form = form ≤ form_number Broken

abbrev pub InRange : (step form : ℕ) → Type 0
InRange step form = StepInRange step × FormInRange form
