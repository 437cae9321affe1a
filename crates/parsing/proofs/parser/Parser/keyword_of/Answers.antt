use Rattle.std.proofs.Common.{refl, sym, ◌∙◌}
use Rattle.parsing.proofs.Tokens.{here-spelt, no-keyword}
use Rattle.parsing.proofs.parser.Parser.keyword_of.Goals as goal

pub returns-then-not-word_is : goal.returns-then-not-word_is
returns-then-not-word_is c = no-keyword _ _ _ (sym (here-spelt _ _ c.requires c.word_is.ensures) ∙ c.if-not-word_is.true) refl
