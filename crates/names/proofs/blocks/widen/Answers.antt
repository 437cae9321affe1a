-- `blocks::widen` meets its contract: the classes are of twice the width, where a span is so long.
use Rattle.names.specs.BlockLaws.{blocks-double}
use Rattle.names.proofs.blocks.widen.Goals as goal

pub returns-then-w-longest : goal.returns-then-w-longest
returns-then-w-longest c = λ h. blocks-double _ _ _ _ _ _ c.requires h c.pair_classes.ensures
