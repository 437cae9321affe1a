use Rattle.std.proofs.Common.{refl}
use Rattle.grammar.specs.Rules.{after_old}
use Rattle.parsing.proofs.Places.{begin, named, ident-made, done}
use Rattle.parsing.proofs.parser.Parser.old.Goals as goal

pub returns : goal.returns
unfolding after_old
returns c = done _ (ident-made c.push.ensures (named _ _ c.in_ok-name.ensures begin) refl) refl refl
