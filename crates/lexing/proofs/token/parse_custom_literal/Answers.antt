-- `token::parse_custom_literal` meets its contract, by that of `run_length`.
use Rattle.std.proofs.Common.{sym, ◌∙◌, rules}
use Rattle.lexing.specs.TokenLaws.{unless_empty-none, unless_empty-some}
use Rattle.lexing.specs.Bytes.{custom_literal_char}
use Rattle.lexing.specs.Tokens.{parse_custom_literal}
use Rattle.lexing.proofs.token.parse_custom_literal.Goals as goal

pub returns-then-n-eq0 : goal.returns-then-n-eq0
unfolding parse_custom_literal
returns-then-n-eq0 c = unless_empty-none _ _ (sym (c.run_length-n.ensures custom_literal_char (λ b r e. search rules)) ∙ c.if-n-eq0.true)

pub returns : goal.returns
unfolding parse_custom_literal
returns c = rw (← c.run_length-n.ensures custom_literal_char (λ b r e. search rules)) (unless_empty-some _ _ c.if-n-eq0.false)
