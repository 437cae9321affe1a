-- Closed examples, by computation: what reading and writing answer, with the numbers written out.
use Rattle.std.specs.Prelude.{ℕ, List, [], ◌∷◌, ◌++◌, ◌≡◌, refl, map, set, take, replicate, None, Some, ⊤}
use Rattle.layout.specs.declared.settings.Form.{Form}
use Rattle.layout.specs.declared.settings.Form.TheVariants.{OneLine, Broken}
use Rattle.layout.specs.declared.settings.Settings.{Settings}
use Rattle.tree.specs.Check.{Refusal}
use Rattle.settings.specs.declared.error.ContentError.TheVariants.{Step, Form as FormOut}
use Rattle.settings.specs.declared.error.RecordError.TheVariants.{Layout, Version, Content}
use Rattle.settings.specs.declared.error.WriteError.TheVariants.{Content as WriteContent, TooShort}
use Rattle.settings.specs.Errors.{record_refusal, write_refusal}
use Rattle.settings.specs.Answers.{Outcome, done, refused}
use Rattle.settings.specs.Fields.{field, misplaced}
use Rattle.settings.specs.Records.{settings_of, settings_in, read_settings, write_settings}

-- `unfolding computed` opens the definitions, so that they compute on closed bytes
unfoldable computed : Unit {0}
unfolding misplaced settings_of settings_in read_settings write_settings
computed = tt

-- the record of step 5 and form 0
abbrev sample : List ℕ
sample = 1 ∷ 0 ∷ 1 ∷ 1 ∷ 2 ∷ 0 ∷ 1 ∷ 5 ∷ 3 ∷ 0 ∷ 1 ∷ 0 ∷ []

abbrev at : (number place : ℕ) → Refusal
at number place = record { number = number; place = place }

abbrev read : ℕ → Form → Outcome ⊤ Settings
read step form = done tt (record { step = step; form = form })

abbrev unread : (number place : ℕ) → Outcome ⊤ Settings
unread number place = refused (at number place) (record { step = 2; form = Broken })

-- ---- errors

errors : map record_refusal (Layout 5 ∷ Version ∷ Content Step ∷ Content FormOut ∷ []) ≡ at 9 5 ∷ at 10 0 ∷ at 11 7 ∷ at 11 11 ∷ []
errors = refl

write-errors : map write_refusal (WriteContent Step ∷ WriteContent FormOut ∷ TooShort ∷ []) ≡ at 11 7 ∷ at 11 11 ∷ at 8 0 ∷ []
write-errors = refl

-- ---- layout

-- at the place that it is given, and of any layout
misplaced-from : map (misplaced (field Some 7 None) 20) ((7 ∷ 0 ∷ 1 ∷ 9 ∷ []) ∷ (7 ∷ 0 ∷ 2 ∷ 9 ∷ []) ∷ (7 ∷ []) ∷ (7 ∷ 0 ∷ 1 ∷ 9 ∷ 9 ∷ []) ∷ [])
    ≡ None ∷ Some 22 ∷ Some 21 ∷ Some 24 ∷ []
unfolding computed
misplaced-from = refl

-- each fixed byte, with another in its place
abbrev fixed : List ℕ
fixed = 0 ∷ 1 ∷ 2 ∷ 4 ∷ 5 ∷ 6 ∷ 8 ∷ 9 ∷ 10 ∷ []

fixed-byte : map (λ place. read_settings (set sample place 4)) fixed ≡ map (unread 9) fixed
unfolding computed
fixed-byte = refl

-- the first of two that are wrong
first-of_two : map (λ place. read_settings (set (set sample 10 0) place 4)) fixed ≡ map (unread 9) fixed
unfolding computed
first-of_two = refl

missing : map (λ n. read_settings (take n sample)) (0 ∷ 1 ∷ 2 ∷ 3 ∷ 4 ∷ 5 ∷ 6 ∷ 7 ∷ 8 ∷ 9 ∷ 10 ∷ 11 ∷ [])
    ≡ map (unread 9) (0 ∷ 1 ∷ 2 ∷ 3 ∷ 4 ∷ 5 ∷ 6 ∷ 7 ∷ 8 ∷ 9 ∷ 10 ∷ 11 ∷ [])
unfolding computed
missing = refl

too-many : map (λ rest. read_settings (sample ++ rest)) ((1 ∷ []) ∷ replicate 13 0 ∷ sample ∷ []) ≡ unread 9 12 ∷ unread 9 12 ∷ unread 9 12 ∷ []
unfolding computed
too-many = refl

-- a wrong byte comes before what is missing or too many
wrong-and_missing : read_settings (take 11 (set sample 9 1)) ≡ unread 9 9
unfolding computed
wrong-and_missing = refl

wrong-and_too_many : read_settings (set sample 10 0 ++ 1 ∷ []) ≡ unread 9 10
unfolding computed
wrong-and_too_many = refl

-- ---- version and contents

abbrev contents : (version step form : ℕ) → List ℕ
contents version step form = set (set (set sample 3 version) 7 step) 11 form

versions : map (λ version. read_settings (contents version 5 0)) (0 ∷ 1 ∷ 2 ∷ 3 ∷ 255 ∷ [])
    ≡ unread 10 0 ∷ read 5 OneLine ∷ unread 10 0 ∷ unread 10 0 ∷ unread 10 0 ∷ []
unfolding computed
versions = refl

steps : map (λ step. read_settings (contents 1 step 0)) (0 ∷ 1 ∷ 2 ∷ 7 ∷ 8 ∷ 9 ∷ 255 ∷ [])
    ≡ unread 11 7 ∷ read 1 OneLine ∷ read 2 OneLine ∷ read 7 OneLine ∷ read 8 OneLine ∷ unread 11 7 ∷ unread 11 7 ∷ []
unfolding computed
steps = refl

forms : map (λ form. read_settings (contents 1 5 form)) (0 ∷ 1 ∷ 2 ∷ 3 ∷ 255 ∷ [])
    ≡ read 5 OneLine ∷ read 5 Broken ∷ unread 11 11 ∷ unread 11 11 ∷ unread 11 11 ∷ []
unfolding computed
forms = refl

-- layout before version, version before step, step before form
layout-first : map read_settings (set (contents 2 0 2) 10 0 ∷ take 11 (contents 2 0 2) ∷ (contents 2 0 2 ++ 1 ∷ []) ∷ [])
    ≡ unread 9 10 ∷ unread 9 11 ∷ unread 9 12 ∷ []
unfolding computed
layout-first = refl

version-first : read_settings (contents 2 0 2) ≡ unread 10 0
unfolding computed
version-first = refl

step-first : read_settings (contents 1 0 2) ≡ unread 11 7
unfolding computed
step-first = refl

-- ---- writing

abbrev out : ℕ → List ℕ
out room = replicate room 66

abbrev unwritten : (number place room : ℕ) → Outcome ℕ (List ℕ)
unwritten number place room = refused (at number place) (out room)

rooms : map (λ room. write_settings 5 0 (out room)) (0 ∷ 11 ∷ 12 ∷ 13 ∷ 15 ∷ [])
    ≡ unwritten 8 0 0 ∷ unwritten 8 0 11 ∷ done 12 sample ∷ done 12 (sample ++ out 1) ∷ done 12 (sample ++ out 3) ∷ []
unfolding computed
rooms = refl

steps-written : map (λ step. write_settings step 1 (out 12)) (0 ∷ 1 ∷ 8 ∷ 9 ∷ 256 ∷ 257 ∷ [])
    ≡ unwritten 11 7 12 ∷ done 12 (contents 1 1 1) ∷ done 12 (contents 1 8 1) ∷ unwritten 11 7 12 ∷ unwritten 11 7 12 ∷ unwritten 11 7 12 ∷ []
unfolding computed
steps-written = refl

forms-written : map (λ form. write_settings 3 form (out 12)) (0 ∷ 1 ∷ 2 ∷ 256 ∷ 257 ∷ [])
    ≡ done 12 (contents 1 3 0) ∷ done 12 (contents 1 3 1) ∷ unwritten 11 11 12 ∷ unwritten 11 11 12 ∷ unwritten 11 11 12 ∷ []
unfolding computed
forms-written = refl

-- step before form, and both before room
step-written_first : write_settings 9 2 (out 12) ≡ unwritten 11 7 12
unfolding computed
step-written_first = refl

range-first : map (λ step. write_settings step 2 (out 11)) (0 ∷ 1 ∷ []) ≡ unwritten 11 7 11 ∷ unwritten 11 11 11 ∷ []
unfolding computed
range-first = refl
