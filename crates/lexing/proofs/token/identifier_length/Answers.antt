-- `token::identifier_length` meets its contract: a law for each way out (Returns: `identifier-empty`, `identifier-run`, `identifier-none`).
use Rattle.std.proofs.Common.{sym, arith, rules}
use Rattle.lexing.specs.Bytes.{identifier_char}
use Rattle.lexing.proofs.Returns.{run-after-one, identifier-empty, identifier-run, identifier-none}
use Rattle.lexing.proofs.token.identifier_length.Goals as goal

pub overflow_add-result : goal.overflow_add-result
overflow_add-result c =
    omega (arith, run-after-one identifier_char c.args.text.now (omega arith) (c.run_length.ensures identifier_char (λ b r e. search rules)))

pub returns-then-can_start_identifier_char : goal.returns-then-can_start_identifier_char
returns-then-can_start_identifier_char c = identifier-run _ (omega arith) (sym c.if-can_start_identifier_char.ensures) _ (c.run_length.ensures identifier_char (λ b r e. search rules))

pub returns-in_default : goal.returns-in_default
returns-in_default c = identifier-empty _ (omega arith)

pub returns : goal.returns
returns c = identifier-none _ (omega arith) (sym c.if-can_start_identifier_char.ensures)
