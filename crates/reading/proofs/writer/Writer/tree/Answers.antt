-- `Writer::tree` meets its contract, by the loop's invariant (Walk).
use native.Mathlib.Omega.{arith}
use mathlib.Core.Path.{ap}
use lib.ListN.{length}
use Rattle.std.proofs.lemmas.Result.{err_from_is_err_and}
use Rattle.tree.specs.StackLaws.{put-on}
use Rattle.reading.proofs.flat.Walk.{walks-start, walks-inside, walks-less, walks-room, walks-next, walks-full, walks-end, places-popped, places-put, replaced, room-left}
use Rattle.reading.proofs.writer.Writer.tree.Goals as goal

pub loop-frame-init : goal.loop-frame-init
loop-frame-init c =
    let p = put-on c.push.result (omega (arith, c.new-stack.ensures.free, c.requires.below, c.requires.room)) c.push.ensures in
    record {
      places = omega (arith, c.new-stack.ensures.free, ap length c.new-stack.ensures.empty, p.free, ap length p.items);
      walks = rw (p.items, c.new-stack.ensures.empty) walks-start;
    }

pub head-requires : goal.head-requires
head-requires c = let p = rw c.in-Some.is at c.pop.ensures in walks-inside c.requires (rw p.0 at c.loop-frame.invariant.walks)

pub parts-upper-requires : goal.parts-upper-requires
parts-upper-requires c = let p = rw c.in-Some.is at c.pop.ensures in walks-inside c.requires (rw p.0 at c.loop-frame.invariant.walks)

pub put-requires-in-Some : goal.put-requires-in-Some
put-requires-in-Some c =
    let p = rw c.in-Some.is at c.pop.ensures in
    room-left c.parts-upper.result.0 c.parts-upper.result.1 c.parts-upper.ensures c.put.ensures
    (walks-room c.requires (rw p.0 at c.loop-frame.invariant.walks)) (places-popped c.loop-frame.stack c.pop.new.self p c.loop-frame.invariant.places)

pub loop-frame-smaller : goal.loop-frame-smaller
loop-frame-smaller c =
    let p = rw c.in-Some.is at c.pop.ensures in
    rw (replaced c.parts-upper.result.0 c.parts-upper.result.1 c.parts-upper.ensures c.put.ensures c.put-in-Some.ensures, p.0)
    (walks-less c.requires (rw p.0 at c.loop-frame.invariant.walks))

pub loop-frame-preserved : goal.loop-frame-preserved
loop-frame-preserved c =
    let p = rw c.in-Some.is at c.pop.ensures in
    record {
      places =
          places-put c.parts-upper.result.0 c.put-in-Some.ensures
          (places-put c.parts-upper.result.1 c.put.ensures (places-popped c.loop-frame.stack c.pop.new.self p c.loop-frame.invariant.places));
      walks =
          rw (replaced c.parts-upper.result.0 c.parts-upper.result.1 c.parts-upper.ensures c.put.ensures c.put-in-Some.ensures)
          (walks-next c.requires (rw p.0 at c.loop-frame.invariant.walks) (rw c.in_ok-head.was at c.head.ensures));
    }

pub returns : goal.returns
returns c = let p = rw c.in_default.is at c.pop.ensures in walks-end (rw p.0 at c.loop-frame.invariant.walks)

pub returns-in_err-head : goal.returns-in_err-head
returns-in_err-head c =
    let p = rw c.in-Some.is at c.pop.ensures in
    let e = err_from_is_err_and c.from_residual.result c.from_residual.ensures.1 in
    rw e.1 (walks-full c.requires (rw p.0 at c.loop-frame.invariant.walks) (rw c.in_err-head.was at c.head.ensures))
