use Rattle.std.proofs.Common.{refl}
use Rattle.lexing.specs.Bytes.{bytes}
use Rattle.grammar.specs.Rules.{parse_optional_type, some_type}
use Rattle.parsing.specs.Contract.{sign_but}
use Rattle.parsing.proofs.Places.{begin, taken, skipped, with_end, stood, absent, tail, done}
use Rattle.parsing.proofs.parser.Parser.optional_type.Goals as goal

pub returns-then-branch : goal.returns-then-branch
unfolding parse_optional_type
returns-then-branch c =
    let s = stood (sign_but (bytes ":") (bytes ":=")) 1 _ _ c.in_ok-sym_not_prefix.ensures c.if-branch.true in
    tail _ _ some_type 0 0 1 0 _ _ c.typed.ensures (taken _ _ _ s begin) refl refl refl

pub returns : goal.returns
unfolding parse_optional_type
returns c =
    let a = absent (sign_but (bytes ":") (bytes ":=")) 1 _ _ c.in_ok-sym_not_prefix.ensures c.if-branch.false in
    done _ (with_end (skipped _ _ _ a begin)) refl refl
