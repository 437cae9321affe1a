use Rattle.std.proofs.Common.{refl}
use Rattle.parsing.specs.Signs.{build_of, level_rule}
use Rattle.parsing.proofs.ExpressionPlaces.{sees-back}
use Rattle.parsing.proofs.parser.Parser.sees.Goals as goal

pub returns : goal.returns
returns c = sees-back build_of (level_rule c.args.level) _ _ _ _ c.in_ok-operator.ensures c.is_some-found.ensures refl refl refl refl
