use Rattle.parsing.proofs.FirstBytes.{sign_but-absent}
use Rattle.parsing.proofs.parser.Parser.sym_not_prefix.Goals as goal

pub returns : goal.returns
returns c = sign_but-absent _ _ c.may_stand.ensures c.if-may_stand.false _
