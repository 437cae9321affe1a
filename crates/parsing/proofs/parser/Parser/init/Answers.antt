use Rattle.std.proofs.Common.{refl}
use Rattle.std.proofs.Math.Option.{some}
use Rattle.lexing.specs.Bytes.{bytes}
use Rattle.grammar.specs.Statements.{parse_init}
use Rattle.parsing.specs.Contract.{sign, needed}
use Rattle.parsing.specs.Code.{inner}
use Rattle.parsing.proofs.Places.{begin, said, with_end, taken, skipped, stood, absent, done}
use Rattle.parsing.proofs.StatementPlaces.{tail-mapped}
use Rattle.parsing.proofs.StatementEquations.{expr-mapped}
use Rattle.parsing.proofs.parser.Parser.init.Goals as goal

pub returns-then-branch : goal.returns-then-branch
unfolding parse_init
returns-then-branch c =
    tail-mapped _ _ (needed (inner c.args.depth)) some (λ e. refl) 0 0 1 1 _ _ c.stated.ensures
    (said (expr-mapped some _ c.args.depth _) (taken _ _ _ (stood (sign (bytes ":=")) 2 _ _ c.in_ok-sym.ensures c.if-branch.true) begin)) refl refl

pub returns : goal.returns
unfolding parse_init
returns c = done _ (with_end (skipped _ _ _ (absent (sign (bytes ":=")) 2 _ _ c.in_ok-sym.ensures c.if-branch.false) begin)) refl refl
