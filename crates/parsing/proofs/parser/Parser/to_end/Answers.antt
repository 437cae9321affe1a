use Rattle.parsing.proofs.Entries.{at-end, before-end}
use Rattle.parsing.proofs.parser.Parser.to_end.Goals as goal

pub returns-then-self : goal.returns-then-self
returns-then-self c = rw c.unusable.ensures (before-end _ _ _ c.in_ok-root.ensures c.if-self.true)

pub returns : goal.returns
returns c = at-end _ _ _ c.in_ok-root.ensures c.if-self.false
