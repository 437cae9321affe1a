-- `blocks::bytes` meets its contract: the first i bytes are written.
use Rattle.std.proofs.Common.{length, arith}
use Rattle.names.specs.BlockLaws.{blocks-one}
use Rattle.names.specs.WriteLaws.{written-to}
use Rattle.names.proofs.blocks.bytes.Goals as goal

pub returns-clause-blocks : goal.returns-clause-blocks
returns-clause-blocks c =
    let text = c.args.text.now in
    blocks-one text c.args.classes.now c.loop-i.classes 256 (written-to _ c.loop-i.i (length text) _ _ (omega arith) c.loop-i.invariant) (λ i. omega (arith, c.type_inv.text i)) (omega arith)
