-- What an entry answers, by the settings or the refusal that it met.
use Rattle.std.specs.Prelude.{ℕ, ◌<◌, ◌≤◌, ◌≡◌, List, ◌++◌, length, drop, Option, Result}
use Rattle.std.proofs.Common.{refl, ap}
use borrow.Author.Tests.{le-leb, lt-leb}
use Rattle.tree.specs.Check.{Refusal}
use Rattle.layout.specs.declared.settings.Settings.{Settings}
use Rattle.settings.specs.Errors.{refusal, output_too_short}
use Rattle.settings.specs.Answers.{done, refused}
use Rattle.settings.specs.Fields.{misplaced}
use Rattle.settings.specs.Records.{record_length, settings_layout, of_layout, settings_of, settings_in, read, read_settings}
use Rattle.settings.specs.Records.{stored, write, write_settings}

-- ---- reading

module _ (bytes : List ℕ) where
  pub by-layout : {place : Option ℕ} → place ≡ misplaced settings_layout 0 bytes → of_layout place bytes ≡ settings_in bytes
  unfolding settings_in
  by-layout e = ap (λ (m : Option ℕ). of_layout m bytes) e

  pub is-read : {a : Result Settings Refusal} → a ≡ settings_in bytes → read a ≡ read_settings bytes
  unfolding read_settings
  is-read e = ap read e

-- ---- writing

module _ (out : List ℕ) where
  pub is-written : (step form : ℕ) {a : Result Settings Refusal} → a ≡ settings_of step form → write a out ≡ write_settings step form out
  unfolding write_settings
  is-written step form e = ap (λ (a : Result Settings Refusal). write a out) e

  module _ (bytes : List ℕ) where
    -- with room for a record
    pub is-stored : record_length ≤ length out → done record_length (bytes ++ drop record_length out) ≡ stored bytes out
    is-stored l = rw (le-leb record_length (length out) l) refl

    -- and with less
    pub is-too-long : length out < record_length → refused (refusal output_too_short 0) out ≡ stored bytes out
    is-too-long l = rw (lt-leb record_length (length out) l) refl
