-- `Spans::span_keys` meets its contract: at a width w the spans shorter than w have keys.
use Rattle.std.proofs.Common.{arith}
use Rattle.names.specs.SpanLaws.{keyed-none, keyed-next}
use Rattle.names.proofs.spans.Spans.span_keys.Goals as goal

pub loop-w-init : goal.loop-w-init
loop-w-init g c =
    let s = c.args.self.now in
    let b = c.bytes.ensures.blocks in
    record {
      positive = omega arith;
      blocks = λ h. record { below = λ i k. omega (arith, b.below i k, s.sized.bytes_below); equal = b.equal };
      keyed = keyed-none s.text.now s.words.now s.count s.most c.args.keys.now _ (c.fill.ensures.after (λ y e. e)) (omega arith) (omega (arith, s.sized.bytes_below));
    }

pub loop-w-preserved : goal.loop-w-preserved
loop-w-preserved g c =
    let s = c.args.self.now in
    let r = c.loop-w.invariant in
    record {
      positive = omega (arith, r.positive);
      blocks = c.widen.ensures;
      keyed = keyed-next s.text.now s.words.now c.loop-w.classes c.loop-w.w _ _ (r.blocks c.loop-w-test.true) _ _ r.keyed c.take_keys.ensures;
    }
