-- `Classes::classify` meets its contract: `Classifying` is the loop's invariant.
use Rattle.names.proofs.Classifying.{classify-goes}
use Rattle.names.proofs.classes.Classes.classify.Goals as goal

pub loop-v-preserved : goal.loop-v-preserved
loop-v-preserved g c = classify-goes c.loop-v.invariant c.follow.ensures
