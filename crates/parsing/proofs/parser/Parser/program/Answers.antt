use Rattle.parsing.proofs.Laws.{reads_err}
use Rattle.parsing.proofs.ProgramPlaces.{kind-place, none-declared, declared, word-refused, decl-refused, program-ends}
use Rattle.parsing.proofs.parser.Parser.program.Goals as goal

pub loop-kind-init : goal.loop-kind-init
loop-kind-init c = none-declared _ _ c.requires

pub loop-kind-preserved : goal.loop-kind-preserved
loop-kind-preserved c =
    declared c.args.depth c.in-Some.kind (kind-place c.in-Some.kind) c.loop-kind.invariant (rw c.in-Some.is at c.in_ok-kind.ensures) c.in_ok-d.ensures c.push.ensures

pub returns-in_err-kind : goal.returns-in_err-kind
returns-in_err-kind c = reads_err _ _ _ _ _ _ _ _ c.from_residual.ensures.1 (word-refused _ c.loop-kind.invariant c.in_err-kind.ensures)

pub returns-in_err-d : goal.returns-in_err-d
returns-in_err-d c =
    reads_err _ _ _ _ _ _ _ _ c.from_residual-in_err-d.ensures.1
    (decl-refused _ c.loop-kind.invariant (rw c.in-Some.is at c.in_ok-kind.ensures) c.in_err-d.ensures)

pub returns : goal.returns
returns c = program-ends _ c.loop-kind.invariant (rw c.in_default.is at c.in_ok-kind.ensures) c.joined.ensures
