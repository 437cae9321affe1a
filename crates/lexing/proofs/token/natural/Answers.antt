-- `token::natural` meets its contract, by those of `run_length`, `decimal` and `lexeme` (Naturals: `natural_none`, `natural_value`, `natural_large`).
use Rattle.std.proofs.Common.{sym, ◌∙◌, arith, rules}
use Rattle.std.proofs.Math.Seq.{length-take-le}
use Rattle.lexing.specs.RunLaws.{run_inside}
use Rattle.lexing.specs.Bytes.{is_digit}
use Rattle.lexing.proofs.Naturals.{natural_none, natural_value, natural_large}
use Rattle.lexing.proofs.token.natural.Goals as goal

pub returns-then-n-eq0 : goal.returns-then-n-eq0
returns-then-n-eq0 c = natural_none _ (c.run_length-n.ensures is_digit (λ b r e. search rules)) c.if-n-eq0.true

pub slice_bounds-decimal-end : goal.slice_bounds-decimal-end
slice_bounds-decimal-end c =
    let d = c.run_length-n.ensures is_digit (λ b r e. search rules) in
    sym (length-take-le _ _ (omega (arith, d, run_inside is_digit c.args.text.now)))

pub returns-in-Some : goal.returns-in-Some
returns-in-Some c =
    c.lexeme.ensures ∙ natural_value _ (c.run_length-n.ensures is_digit (λ b r e. search rules)) c.if-n-eq0.false c.in-Some.ensures

pub returns-in-None : goal.returns-in-None
returns-in-None c = rw c.new.ensures (natural_large _ (c.run_length-n.ensures is_digit (λ b r e. search rules)) c.if-n-eq0.false c.in-None.ensures)
