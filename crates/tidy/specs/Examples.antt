-- Refusals by tidy, by computation: document 01's trial of one (REFERENCE, "Trials"), whose other trials of tidy are run, and a text that ends too soon.
use Rattle.std.specs.Prelude.{◌≡◌, refl, replicate}
use Rattle.lexing.specs.Bytes.{bytes}
use Rattle.grammar.specs.ProgramExamples.{computed}
use Rattle.tidy.specs.Tidy.{tidied, refusal_number}

-- `type 5`: refused 2 at 5, and the output is as it was
five : tidied (bytes "type 5") (replicate 3 7) ≡ record { answer = refusal_number 2 5; output = replicate 3 7 }
unfolding tidied computed
five = refl

-- `type`: 13 at 4, and the same
ended : tidied (bytes "type") (replicate 3 7) ≡ record { answer = refusal_number 13 4; output = replicate 3 7 }
unfolding tidied computed
ended = refl
