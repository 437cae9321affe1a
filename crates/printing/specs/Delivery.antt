-- From a buffer to the output.
use Rattle.std.specs.Prelude.{ℕ, List, ◌++◌, length, drop, leb}
use Rattle.lexing.specs.Answer.{pick}
use Rattle.rendering.specs.Errors.{print_too_long}
use Rattle.printing.specs.Entries.{Outcome, written, refusal}

-- a print and then the output's old bytes, or refusal 8
unfoldable pub delivered : (print out : List ℕ) → Outcome
delivered print out = pick (leb (length print) (length out)) (written (length print) (print ++ drop (length print) out)) (refusal print_too_long 0 out)
