use Rattle.std.proofs.Common.{refl}
use Rattle.tree.specs.Ast.{Check, Assume, Reach, Assert, Probe}
use Rattle.parsing.proofs.Places.{begin_with, one-made, done}
use Rattle.parsing.proofs.SimpleStatements.{stated-as}
use Rattle.parsing.proofs.parser.Parser.simple.Goals as goal

pub returns-in-Return : goal.returns-in-Return
returns-in-Return c = rw c.in-Return.is (done _ (one-made c.push.ensures (begin_with c.requires) refl) refl refl)

pub returns-in-Check : goal.returns-in-Check
returns-in-Check c = rw c.in-Check.is (stated-as c.args.depth Check (λ e. refl) _ c.requires _ c.stated.ensures)

pub returns-in-Assume : goal.returns-in-Assume
returns-in-Assume c = rw c.in-Assume.is (stated-as c.args.depth Assume (λ e. refl) _ c.requires _ c.stated-in-Assume.ensures)

pub returns-in-Reach : goal.returns-in-Reach
returns-in-Reach c = rw c.in-Reach.is (stated-as c.args.depth Reach (λ e. refl) _ c.requires _ c.stated-in-Reach.ensures)

pub returns-in-Assert : goal.returns-in-Assert
returns-in-Assert c = rw c.in-Assert.is (stated-as c.args.depth Assert (λ e. refl) _ c.requires _ c.stated-in-Assert.ensures)

pub returns-in-Probe : goal.returns-in-Probe
returns-in-Probe c = rw c.in-Probe.is (stated-as c.args.depth Probe (λ e. refl) _ c.requires _ c.stated-in-Probe.ensures)
