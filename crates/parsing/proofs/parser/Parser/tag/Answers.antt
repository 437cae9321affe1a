use Rattle.std.proofs.Common.{refl}
use Rattle.lexing.specs.Bytes.{bytes}
use Rattle.grammar.specs.Declarations.{parse_tag}
use Rattle.parsing.specs.Contract.{word}
use Rattle.parsing.proofs.Places.{with_end, begin, skipped, absent, done}
use Rattle.parsing.proofs.parser.Parser.tag.Goals as goal

pub returns : goal.returns
unfolding parse_tag
returns c = done _ (with_end (skipped _ _ _ (absent (word (bytes "tag")) 3 _ _ c.in_ok-keyword.ensures c.if-branch.false) begin)) refl refl
