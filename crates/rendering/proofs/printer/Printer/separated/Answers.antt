-- Each round adds an item to the calls.
use Rattle.std.proofs.Common.{◌<◌, arith, refl, subst}
use Rattle.rendering.specs.Parts.{Reads}
use Rattle.rendering.specs.Sequences.{Calls, end, item}
use Rattle.rendering.proofs.Words.{passed}
use Rattle.rendering.proofs.printer.Printer.separated.Goals as goal

called : (g : _) (c : goal.After-item g) → Calls g.F.Fn c.args.item c.put_any.new.self c.item.new.arg2
called g c = record { shown = _; shows = refl; left = _; met = c.item.ensures; leaves = refl }

some : (g : _) (c : goal.After-item g) → 0 < c.word.result
some g c = let n = c.loop-before-test.true in omega arith

pub loop-before-init : goal.loop-before-init
loop-before-init g c = λ s x. x

pub loop-before-smaller : goal.loop-before-smaller
loop-before-smaller g c =
    let m = c.requires.moves _ _ (called g c) in
    let p = passed c.word.ensures (some g c) in
    rw (m.source, c.put_any.ensures.source) (omega (arith, p, m.forward, c.put_any.ensures.still))

pub loop-before-preserved : goal.loop-before-preserved
loop-before-preserved g c = λ s x. c.loop-before.invariant s (item _ _ _ _ c.word.ensures (some g c) c.put_any.ensures (called g c) x)

pub returns : goal.returns
returns g c = c.loop-before.invariant _ (end (subst (λ w. Reads c.loop-before.self w c.word.new.self) c.loop-before-test.false c.word.ensures))
