use Rattle.std.proofs.Common.{drop}
use Rattle.parsing.proofs.ProgramRules.{Seeking}
use Rattle.parsing.proofs.parser.Parser.begin.Given as goal

abbrev pub invariant-loop-word : goal.invariant-loop-word
invariant-loop-word l = Seeking l.fn.self l.self (drop l.word-index l.word-items)
