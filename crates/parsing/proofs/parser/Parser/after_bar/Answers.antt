use Rattle.std.proofs.Common.{refl}
use Rattle.grammar.specs.Rules.{after_bar}
use Rattle.parsing.proofs.Places.{begin, read, named, took, three-made, paired, done}
use Rattle.parsing.proofs.parser.Parser.after_bar.Goals as goal

pub returns : goal.returns
unfolding after_bar
returns c =
    done _ (paired c.pair.ensures (took _ _ c.in_ok-need_sym-2.ensures (read _ _ c.in_ok-typ.ensures (took _ _ c.in_ok-need_sym.ensures
    (three-made c.push-value.ensures (named _ _ c.in_ok-text.ensures begin) refl)) refl)) refl) refl refl
