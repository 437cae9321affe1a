use Rattle.parsing.specs.Signs.{build_of}
use Rattle.parsing.proofs.SignTables.{mapped-operates}
use Rattle.parsing.proofs.parser.Parser.level_operator.Goals as goal

pub first_of-requires : goal.first_of-requires
first_of-requires c = c.table.ensures.filled

pub returns : goal.returns
returns c = mapped-operates build_of _ _ _ _ _ (c.table.ensures.reads _ _) c.first_of.ensures
