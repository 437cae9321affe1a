use Rattle.parsing.proofs.FirstBytes.{sign-absent}
use Rattle.parsing.proofs.parser.Parser.sym.Goals as goal

pub returns : goal.returns
returns c = sign-absent _ _ c.may_stand.ensures c.if-may_stand.false
