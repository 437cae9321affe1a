use Rattle.std.proofs.Common.{refl}
use Rattle.grammar.specs.Rules.{unary_operator}
use Rattle.tree.specs.Codes.{as_operator}
use Rattle.parsing.proofs.SignTables.{operates-as}
use Rattle.parsing.proofs.parser.Parser.unary_operator.Goals as goal

pub returns : goal.returns
unfolding unary_operator
returns c = operates-as as_operator _ _ _ _ _ c.first_of.ensures refl
