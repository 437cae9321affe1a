use Rattle.std.proofs.Common.{refl, ◌∙◌}
use Rattle.lexing.specs.Answer.{Answer}
use Rattle.lexing.specs.Bytes.{bytes}
use Rattle.tree.specs.Ast.{In, InOut, Out}
use Rattle.grammar.specs.Declarations.{moded, parse_moded}
use Rattle.grammar.specs.Rules.{parse_id_type}
use Rattle.grammar.specs.Steps.{after, must, mapped, T}
use Rattle.parsing.specs.Contract.{word}
use Rattle.parsing.proofs.Laws.{reads_if_err, after-ok, after-none, after-refused}
use Rattle.parsing.proofs.Openings.{mode-words}
use Rattle.parsing.proofs.Places.{begin, taken, read_mapped, refused_mapped, as_run, mapped_if, read_as, stood, absent, done}
use Rattle.parsing.proofs.parser.Parser.moded.Goals as goal

pub returns-in_err-need_marked_type : goal.returns-in_err-need_marked_type
unfolding parse_moded
returns-in_err-need_marked_type c =
    let s = stood (word (bytes "inout")) 5 _ _ c.in_ok-keyword.ensures c.if-branch.true in
    reads_if_err _ _ _ _ _ _ _ _ c.from_residual-in_err-need_marked_type.ensures.1
    (after-refused _ _ _ (refused_mapped parse_id_type _ (taken _ _ _ s begin) c.in_err-need_marked_type.ensures))

pub returns-then-branch : goal.returns-then-branch
unfolding parse_moded
returns-then-branch c =
    let s = stood (word (bytes "inout")) 5 _ _ c.in_ok-keyword.ensures c.if-branch.true in
    let typ = c.in_ok-need_marked_type.ensures in
    let l = as_run (mode-words InOut typ.value) (read_mapped _ _ typ (taken _ _ _ s begin) refl) in
    let r = done (λ text at. after (T text "inout" at) Answer.none (λ _ at₁. must at₁ (mapped (moded InOut) (parse_id_type text at₁)))) {least = 1} {credit = 0} l refl refl in
    read_as _ _ _ 1 0 _ _ r (after-ok _ _ _ r.says)

pub returns-then-branch-2 : goal.returns-then-branch-2
unfolding parse_moded
returns-then-branch-2 c =
    let a = absent (word (bytes "inout")) 5 _ _ c.in_ok-keyword.ensures c.if-branch.false in
    let s = stood (word (bytes "out")) 3 _ _ c.in_ok-keyword-2.ensures c.if-branch-2.true in
    let s = rw a.same at s in
    let typ = c.in_ok-need_marked_type-2.ensures in
    let l = as_run (mode-words Out typ.value) (read_mapped _ _ typ (taken _ _ _ s begin) refl) in
    let r = done (λ text at. after (T text "out" at) Answer.none (λ _ at₁. must at₁ (mapped (moded Out) (parse_id_type text at₁)))) {least = 1} {credit = 0} l refl refl in
    read_as _ _ _ 1 0 _ _ r (after-none _ _ _ (after-none _ _ _ a.says) ∙ after-ok _ _ _ r.says)

pub returns : goal.returns
unfolding parse_moded
returns c =
    let a = absent (word (bytes "inout")) 5 _ _ c.in_ok-keyword.ensures c.if-branch.false in
    let b = absent (word (bytes "out")) 3 _ _ c.in_ok-keyword-2.ensures c.if-branch-2.false in
    let r = c.marked_type.ensures in
    let r = rw b.same at r in
    let b = rw a.same at b in
    let r = rw a.same at r in
    mapped_if _ _ _ parse_id_type (moded In) 1 0 _ _ _ (mode-words In) (after-none _ _ _ (after-none _ _ _ a.says) ∙ after-none _ _ _ (after-none _ _ _ b.says)) r
