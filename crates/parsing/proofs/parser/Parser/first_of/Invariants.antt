use Rattle.std.proofs.Common.{drop}
use Rattle.parsing.proofs.SignTables.{Trying}
use Rattle.parsing.proofs.parser.Parser.first_of.Given as goal

abbrev pub invariant-loop-spelling : goal.invariant-loop-spelling
invariant-loop-spelling g l = Trying l.table (drop l.spelling-index l.table) l.fn.self l.self
