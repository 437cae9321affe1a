-- `Table::walk` meets its contract: `Walking` is the loop's invariant, and each turn's end and each answer a law of it.
use mathlib.Core.Path.{refl}
use Rattle.tree.proofs.Walking.{started, after-step, at-surplus, at-whole}
use Rattle.tree.proofs.walk.Table.walk.Goals as goal

pub loop-kind-init : goal.loop-kind-init
loop-kind-init c =
    started c.args.self.now.text_len _ c.args.self.now.words.now c.args.counts.now c.args.kinds.now _ refl c.new-stack.ensures.empty c.new-stack.ensures.free c.requires.0 c.requires.1

pub loop-kind-preserved-in-Some : goal.loop-kind-preserved-in-Some
loop-kind-preserved-in-Some c =
    after-step c.loop-kind.invariant c.in-Some.kind c.in-Some.rest c.in-Some.ensures _ c.in_ok-step.ensures c.mark_before-mark.ensures c.more.ensures c.note.ensures c.note_kind.ensures
    c.enter-top.ensures

pub returns-then-at-self : goal.returns-then-at-self
returns-then-at-self c = at-surplus c.loop-kind.invariant c.in_default.ensures c.in_default-pop.ensures.0 c.if-at-self.true

pub returns-else-at-self : goal.returns-else-at-self
returns-else-at-self c = at-whole c.loop-kind.invariant c.in_default.ensures c.in_default-pop.ensures.0 c.if-at-self.false
