-- The errors of settings, by the numbers and places of their refusals (REFERENCE, "The refusals").
use Rattle.std.specs.Prelude.{ℕ}
use Rattle.tree.specs.Check.{Refusal}
use Rattle.settings.specs.declared.error.ContentError.{ContentError}
use Rattle.settings.specs.declared.error.ContentError.TheVariants.{Step, Form}
use Rattle.settings.specs.declared.error.RecordError.{RecordError}
use Rattle.settings.specs.declared.error.RecordError.TheVariants.{Layout, Version, Content}
use Rattle.settings.specs.declared.error.WriteError.{WriteError}
use Rattle.settings.specs.declared.error.WriteError.TheVariants.{Content as WriteContent, TooShort}

-- The numbers of the refusals. The output is shorter than a record:
abbrev pub output_too_short : ℕ
output_too_short = 8

-- the fields are not as laid out:
abbrev pub bad_layout : ℕ
bad_layout = 9

-- the version isn't the present one:
abbrev pub unknown_version : ℕ
unknown_version = 10

-- a content is outside its range:
abbrev pub content_out_of_range : ℕ
content_out_of_range = 11

-- the places of the contents in a record
abbrev pub version_place : ℕ
version_place = 3

abbrev pub step_place : ℕ
step_place = 7

abbrev pub form_place : ℕ
form_place = 11

abbrev pub refusal : (number place : ℕ) → Refusal
refusal number place = record { number = number; place = place }

abbrev pub content_refusal : ContentError → Refusal
content_refusal Step = refusal content_out_of_range step_place
content_refusal Form = refusal content_out_of_range form_place

abbrev pub record_refusal : RecordError → Refusal
record_refusal (Layout place) = refusal bad_layout place
record_refusal Version = refusal unknown_version 0
record_refusal (Content e) = content_refusal e

abbrev pub write_refusal : WriteError → Refusal
write_refusal (WriteContent e) = content_refusal e
write_refusal TooShort = refusal output_too_short 0
