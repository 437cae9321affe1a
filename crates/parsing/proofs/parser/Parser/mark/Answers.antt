use Rattle.std.proofs.Common.{refl, ◌∙◌}
use Rattle.lexing.specs.Bytes.{bytes}
use Rattle.grammar.specs.Statements.{mark}
use Rattle.parsing.specs.Contract.{sign}
use Rattle.parsing.proofs.Laws.{after-ok, after-none}
use Rattle.parsing.proofs.Places.{stood, absent, took-as, takes_if_same}
use Rattle.parsing.proofs.parser.Parser.mark.Goals as goal

pub returns-then-branch : goal.returns-then-branch
unfolding mark
returns-then-branch c =
    let s = stood (sign (bytes ":=")) 2 _ _ c.in_ok-sym.ensures c.if-branch.true in
    took-as _ _ 1 2 _ _ s (after-ok _ _ _ s.says) refl

pub returns-then-branch-2 : goal.returns-then-branch-2
unfolding mark
returns-then-branch-2 c =
    let a = absent (sign (bytes ":=")) 2 _ _ c.in_ok-sym.ensures c.if-branch.false in
    let s = stood (sign (bytes ":")) 1 _ _ c.in_ok-sym-2.ensures c.if-branch-2.true in
    let s = rw a.same at s in
    took-as _ _ 1 1 _ _ s (after-none _ _ _ a.says ∙ after-ok _ _ _ s.says) refl

pub returns : goal.returns
unfolding mark
returns c =
    let a = absent (sign (bytes ":=")) 2 _ _ c.in_ok-sym.ensures c.if-branch.false in
    let b = absent (sign (bytes ":")) 1 _ _ c.in_ok-sym-2.ensures c.if-branch-2.false in
    let s = c.sym-3.ensures in
    let s = rw b.same at s in
    let b = rw a.same at b in
    let s = rw a.same at s in
    takes_if_same _ (sign (bytes "(")) 1 _ _ _ (after-none _ _ _ a.says ∙ after-none _ _ _ b.says) s
