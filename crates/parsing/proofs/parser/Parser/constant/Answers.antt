use Rattle.std.proofs.Common.{refl, ◌∙◌, true, false}
use Rattle.lexing.specs.Bytes.{bytes}
use Rattle.tree.specs.Ast.{BLiteral}
use Rattle.grammar.specs.Steps.{mapped, T}
use Rattle.parsing.specs.Contract.{word}
use Rattle.parsing.proofs.Laws.{after-ok, after-none}
use Rattle.parsing.proofs.Places.{begin, taken, two-made, stood, absent, read_as, done}
use Rattle.parsing.proofs.parser.Parser.constant.Goals as goal

pub returns-then-branch : goal.returns-then-branch
returns-then-branch c =
    let s = stood (word (bytes "false")) 5 _ _ c.in_ok-keyword_of.ensures c.if-branch.true in
    let l = two-made c.push.ensures (taken _ _ _ s begin) refl in
    let r = done (λ text at. mapped (λ _. BLiteral false) (T text "false" at)) {least = 1} {credit = 0} l refl refl in
    read_as _ _ _ 1 0 _ _ r (after-ok _ _ _ r.says)

pub returns-then-branch-2 : goal.returns-then-branch-2
returns-then-branch-2 c =
    let a = absent (word (bytes "false")) 5 _ _ c.in_ok-keyword_of.ensures c.if-branch.false in
    let s = stood (word (bytes "true")) 4 _ _ c.in_ok-keyword_of-2.ensures c.if-branch-2.true in
    let s = rw a.same at s in
    let l = two-made c.push-then-branch-2.ensures (taken _ _ _ s begin) refl in
    let r = done (λ text at. mapped (λ _. BLiteral true) (T text "true" at)) {least = 1} {credit = 0} l refl refl in
    read_as _ _ _ 1 0 _ _ r (after-none _ _ _ (after-none _ _ _ a.says) ∙ after-ok _ _ _ r.says)
