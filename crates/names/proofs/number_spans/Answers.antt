-- `number_spans` meets its contract: a longer text has the names of what is read of it.
use Rattle.names.specs.RankLaws.{numbered-read}
use Rattle.names.proofs.number_spans.Goals as goal

pub returns-then-max-le-SMALL : goal.returns-then-max-le-SMALL
returns-then-max-le-SMALL c = numbered-read c.args.text.now _ _ _ _ _ c.min.ensures c.new.ensures.text c.new.ensures.words c.number_in.ensures

pub returns-else-max-le-SMALL : goal.returns-else-max-le-SMALL
returns-else-max-le-SMALL c =
    numbered-read c.args.text.now _ _ _ _ _ c.min.ensures c.new-else-max-le-SMALL.ensures.text c.new-else-max-le-SMALL.ensures.words c.number_in-else-max-le-SMALL.ensures
