use Rattle.std.proofs.Common.{refl}
use Rattle.grammar.specs.Declarations.{after_tagger}
use Rattle.parsing.proofs.Places.{begin, read, took, paired, done}
use Rattle.parsing.proofs.parser.Parser.tagger_decl.Goals as goal

pub returns : goal.returns
unfolding after_tagger
returns c =
    done _ (paired c.pair.ensures (read _ _ c.in_ok-typ.ensures (took _ _ c.in_ok-need_keyword.ensures (read _ _ c.in_ok-name.ensures begin refl)) refl)
    refl) refl refl
