-- `blank::blank_at_start` meets its contract: a law for each way out, by the tests that led there (Returns, `blank_empty` to `blank_slash`).
use Rattle.std.proofs.Common.{arith, rules}
use Rattle.lexing.specs.Bytes.{not_newline}
use Rattle.lexing.proofs.Returns.{blank_empty, blank_space, blank_word, blank_alone, blank_line, blank_long, blank_slash, run-after-one}
use Rattle.lexing.proofs.blank.blank_at_start.Goals as goal

pub returns-in_default : goal.returns-in_default
returns-in_default c = blank_empty _ (omega arith)

pub returns-then-is_space : goal.returns-then-is_space
returns-then-is_space c = blank_space _ (omega arith) c.if-is_space.ensures

pub returns-then-first-ne47 : goal.returns-then-first-ne47
returns-then-first-ne47 c = blank_word _ (omega arith) c.if-is_space.ensures c.if-first-ne47.true

pub returns-in_default-rest : goal.returns-in_default-rest
returns-in_default-rest c = blank_alone _ (omega arith) c.if-is_space.ensures c.in_default-rest.len_below

pub overflow_add-result : goal.overflow_add-result
overflow_add-result c = omega (arith, run-after-one not_newline c.args.s.now (omega arith) (c.run_length.ensures not_newline (λ b r e. search rules)))

pub returns-in-47 : goal.returns-in-47
returns-in-47 c =
    blank_line _ (omega arith) c.if-first-ne47.false c.in-len1-up-rest.len_at_least c.in-47.is
    (c.run_length.ensures not_newline (λ b r e. search rules))

pub returns-in-42 : goal.returns-in-42
returns-in-42 c =
    rw c.ok_or.ensures.value
    (blank_long _ (omega arith) c.if-first-ne47.false c.in-len1-up-rest.len_at_least c.in-42.is _ c.position_after_end_of_long_comment.ensures)

pub returns-in_default-second : goal.returns-in_default-second
returns-in_default-second c =
    blank_slash _ (omega arith) c.if-first-ne47.false c.in-len1-up-rest.len_at_least (λ e. omega arith) (λ e. omega arith)
