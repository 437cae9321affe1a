use Rattle.parsing.proofs.FirstBytes.{word-absent}
use Rattle.parsing.proofs.parser.Parser.keyword.Goals as goal

pub returns : goal.returns
returns c = word-absent _ _ c.may_stand.ensures c.if-may_stand.false
