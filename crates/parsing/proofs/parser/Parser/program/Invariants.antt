use Rattle.std.proofs.Common.{◌-◌, length}
use Rattle.parsing.proofs.ProgramPlaces.{Declaring}
use Rattle.parsing.proofs.parser.Parser.program.Given as goal

abbrev pub invariant-loop-kind : goal.invariant-loop-kind
invariant-loop-kind l = Declaring l.depth l.fn.self l.self l.lists

abbrev pub decreases-loop-kind : goal.decreases-loop-kind
decreases-loop-kind l = length l.self.text.now - l.self.at
