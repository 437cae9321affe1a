use Rattle.std.proofs.Common.{refl, true, false}
use Rattle.lexing.specs.Bytes.{bytes}
use Rattle.grammar.specs.Declarations.{formal, parse_function_formal}
use Rattle.grammar.specs.Rules.{parse_id_type}
use Rattle.parsing.specs.Contract.{word}
use Rattle.parsing.proofs.Laws.{after-none}
use Rattle.parsing.proofs.Openings.{formal-words}
use Rattle.parsing.proofs.Places.{begin, taken, read_mapped, as_run, mapped_if, stood, absent, done}
use Rattle.parsing.proofs.parser.Parser.formal.Goals as goal

pub returns-then-branch : goal.returns-then-branch
unfolding parse_function_formal
returns-then-branch c =
    let s = stood (word (bytes "injective")) 9 _ _ c.in_ok-keyword.ensures c.if-branch.true in
    let typ = c.in_ok-need_marked_type.ensures in
    done _ (as_run (formal-words true typ.value) (read_mapped _ _ typ (taken _ _ _ s begin) refl)) refl refl

pub returns : goal.returns
unfolding parse_function_formal
returns c =
    let a = absent (word (bytes "injective")) 9 _ _ c.in_ok-keyword.ensures c.if-branch.false in
    let r = c.marked_type.ensures in
    let r = rw a.same at r in
    mapped_if _ _ _ parse_id_type (formal false) 1 0 _ _ _ (formal-words false) (after-none _ _ _ a.says) r
