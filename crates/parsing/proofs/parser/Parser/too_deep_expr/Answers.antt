use Rattle.std.proofs.Common.{sym, ◌∙◌}
use Rattle.parsing.proofs.Openings.{deep-opens, deep-stops}
use Rattle.parsing.proofs.parser.Parser.too_deep_expr.Goals as goal

pub returns-then-opens_expr : goal.returns-then-opens_expr
returns-then-opens_expr c = rw c.too_deep.ensures (deep-opens c.args.self.now (sym c.opens_expr.ensures ∙ c.if-opens_expr.true))

pub returns : goal.returns
returns c = deep-stops c.args.self.now (sym c.opens_expr.ensures ∙ c.if-opens_expr.false)
