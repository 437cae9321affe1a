-- Where no level is left: by what a token's method answered, refusal 3 at a place if the token stands, though the blanks after it be refused.
use Rattle.std.specs.Prelude.{ℕ, Bool, true, false, Result, Ok, Err}
use Rattle.lexing.specs.declared.refusal.Reason.TheVariants.{LevelTooDeep}
use Rattle.lexing.specs.declared.refusal.Refusal.{Refusal}

abbrev pub too_deep_if : ℕ → Result Bool Refusal → Result Unit Refusal
too_deep_if place (Ok true) = Err (record { reason = LevelTooDeep; place = place })
too_deep_if place (Ok false) = Ok tt
too_deep_if place (Err e) = Err (record { reason = LevelTooDeep; place = place })
