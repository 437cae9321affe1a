-- Print settings as a record of three fields: the version, the indent step and the form of expressions; reading and writing.
use Rattle.std.specs.Prelude.{ℕ, zero, suc, List, ◌++◌, length, drop, get_or, eqb, leb, Option, None, Some, Result, Ok, Err, ⊤}
use Rattle.lexing.specs.Answer.{pick}
use Rattle.lexing.specs.Bytes.{between}
use Rattle.tree.specs.Check.{Refusal}
use Rattle.layout.specs.declared.settings.Form.{Form}
use Rattle.layout.specs.declared.settings.Form.TheVariants.{OneLine, Broken}
use Rattle.layout.specs.declared.settings.Settings.{Settings}
use Rattle.layout.specs.Settings.{defaults}
use Rattle.settings.specs.Errors.{output_too_short, bad_layout, unknown_version, content_out_of_range, version_place, step_place, form_place, refusal}
use Rattle.settings.specs.Answers.{Outcome, done, refused}
use Rattle.settings.specs.Fields.{field, misplaced}

abbrev pub version_tag : ℕ
version_tag = 1

abbrev pub step_tag : ℕ
step_tag = 2

abbrev pub form_tag : ℕ
form_tag = 3

-- the version that is written, and the only one that is read
abbrev pub present_version : ℕ
present_version = 1

-- the range of the step
abbrev pub least_step : ℕ
least_step = 1

abbrev pub most_step : ℕ
most_step = 8

abbrev pub record_length : ℕ
record_length = 12

-- ---- layout

-- the three fields, of bytes or of what is laid out
abbrev pub fields : {A : Type 0} → (fixed : ℕ → A) → (version step form : A) → List A
fields fixed version step form = field fixed version_tag version ++ (field fixed step_tag step ++ field fixed form_tag form)

abbrev pub settings_layout : List (Option ℕ)
settings_layout = fields Some None None None

abbrev pub settings_record : (version step form : ℕ) → List ℕ
settings_record = fields (λ byte. byte)

-- ---- contents

abbrev pub form_number : Form → ℕ
form_number OneLine = 0
form_number Broken = 1

-- the settings of a step in range
abbrev pub with_step : (step form : ℕ) → Result Settings Refusal
with_step step zero = Ok (record { step = step; form = OneLine })
with_step step (suc zero) = Ok (record { step = step; form = Broken })
with_step step (suc (suc n)) = Err (refusal content_out_of_range form_place)

-- the settings of a step and a form, or refusal 11 by the first that is out of range
unfoldable pub settings_of : (step form : ℕ) → Result Settings Refusal
settings_of step form = pick (between least_step most_step step) (with_step step form) (Err (refusal content_out_of_range step_place))

-- ---- reading

-- of a version, a step and a form: refusal 10 by the version comes first
abbrev pub of_contents : (version step form : ℕ) → Result Settings Refusal
of_contents version step form = pick (eqb version present_version) (settings_of step form) (Err (refusal unknown_version 0))

-- of bytes with this place misplaced, or none: refusal 9 comes before all others
abbrev pub of_layout : (misplaced : Option ℕ) (bytes : List ℕ) → Result Settings Refusal
of_layout None bytes = of_contents (get_or bytes version_place 0) (get_or bytes step_place 0) (get_or bytes form_place 0)
of_layout (Some place) bytes = Err (refusal bad_layout place)

-- the settings of a record, or its refusal
unfoldable pub settings_in : List ℕ → Result Settings Refusal
settings_in bytes = of_layout (misplaced settings_layout 0 bytes) bytes

-- the answer of a reading, and the settings afterwards: those of the record, or the defaults
abbrev pub read : Result Settings Refusal → Outcome ⊤ Settings
read (Ok s) = done tt s
read (Err r) = refused r defaults

unfoldable pub read_settings : List ℕ → Outcome ⊤ Settings
read_settings bytes = read (settings_in bytes)

-- ---- writing

-- the record of settings
abbrev pub settings_bytes : Settings → List ℕ
settings_bytes s = settings_record present_version s.step (form_number s.form)

-- a record and then the output's old bytes, or refusal 8
abbrev pub stored : (bytes out : List ℕ) → Outcome ℕ (List ℕ)
stored bytes out =
    pick (leb record_length (length out)) (done record_length (bytes ++ drop record_length out)) (refused (refusal output_too_short 0) out)

-- the answer of a writing, and the output afterwards; refusal 11 comes first
abbrev pub write : Result Settings Refusal → (out : List ℕ) → Outcome ℕ (List ℕ)
write (Ok s) out = stored (settings_bytes s) out
write (Err r) out = refused r out

unfoldable pub write_settings : (step form : ℕ) (out : List ℕ) → Outcome ℕ (List ℕ)
write_settings step form out = write (settings_of step form) out
