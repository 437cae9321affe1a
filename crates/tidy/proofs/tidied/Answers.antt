-- `tidied` meets its contract, by that of `tidied_in`: either table gives the same (Answers).
use Rattle.tidy.proofs.Answers.{gives-same, small-tidied, any-tidied}
use Rattle.tidy.proofs.tidied.Goals as goal

pub returns-then-text-le512 : goal.returns-then-text-le512
returns-then-text-le512 c = gives-same (small-tidied _ _ c.if-text-le512.true) c.tidied_in.ensures

pub returns-else-text-le512 : goal.returns-else-text-le512
returns-else-text-le512 c = gives-same (any-tidied _ _) c.tidied_in-else-text-le512.ensures
