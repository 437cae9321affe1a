use Rattle.parsing.proofs.Folds.{unary-turn, unary-next, binary-turn, binary-next, folding-end}
use Rattle.parsing.proofs.parser.Parser.fold.Goals as goal

pub push-e-requires : goal.push-e-requires
push-e-requires c = (unary-turn c.loop-self.invariant c.in-Unary.is c.requires).room

pub loop-self-smaller-in-Unary : goal.loop-self-smaller-in-Unary
loop-self-smaller-in-Unary c = (unary-turn c.loop-self.invariant c.in-Unary.is c.requires).falls

pub loop-self-preserved-in-Unary : goal.loop-self-preserved-in-Unary
loop-self-preserved-in-Unary c = let l = c.loop-self.invariant in unary-next l c.in-Unary.is (unary-turn l c.in-Unary.is c.requires) c.push-e.ensures

pub push-e-requires-in-Binary : goal.push-e-requires-in-Binary
push-e-requires-in-Binary c = (binary-turn c.loop-self.invariant c.in-Binary.is c.requires).room

pub loop-self-smaller : goal.loop-self-smaller
loop-self-smaller c = (binary-turn c.loop-self.invariant c.in-Binary.is c.requires).falls

pub loop-self-preserved : goal.loop-self-preserved
loop-self-preserved c = let l = c.loop-self.invariant in binary-next l c.in-Binary.is (binary-turn l c.in-Binary.is c.requires) c.push-e-in-Binary.ensures

pub returns-in_default : goal.returns-in_default
returns-in_default c = folding-end c.loop-self.invariant c.in_default.not-Unary c.in_default.not-Binary c.requires
