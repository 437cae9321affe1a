use Rattle.std.proofs.Common.{refl}
use Rattle.lexing.specs.Bytes.{bytes}
use Rattle.grammar.specs.Rules.{after_bar}
use Rattle.parsing.specs.Contract.{sign}
use Rattle.parsing.proofs.Places.{begin, taken, read_last, stood, done}
use Rattle.parsing.proofs.parser.Parser.custom.Goals as goal

pub returns-then-branch : goal.returns-then-branch
returns-then-branch c =
    let s = stood (sign (bytes "|")) 1 _ _ c.in_ok-sym.ensures c.if-branch.true in
    done _ (read_last after_bar c.in_ok-after_bar.ensures (taken _ _ _ s begin) refl) refl refl
