-- `Spans::new` meets its contract: the spans are as many as their names.
use Rattle.std.proofs.Common.{arith}
use Rattle.names.specs.Parts.{names-length}
use Rattle.names.specs.RoomLaws.{sized_in}
use Rattle.names.proofs.spans.Spans.new.Goals as goal

pub invariant_of-result : goal.invariant_of-result
invariant_of-result g c =
    record {
      sized = sized_in c.args.text.now c.args.words.now _ _ c.requires.few_bytes (omega (arith, names-length c.args.text.now c.args.words.now, c.min-count.ensures)) (omega (arith, c.max.ensures, c.max-most.ensures));
      bytes_fit = c.requires.bytes_fit;
      keys_fit = omega (arith, c.min-count.ensures, c.requires.keys_fit);
      size = c.requires.size;
    }
