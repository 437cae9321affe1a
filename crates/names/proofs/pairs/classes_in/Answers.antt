-- `pairs::classes_in` meets its contract: the classes of the keys and of the keys from the place w on, copied.
use Rattle.std.proofs.Common.{◌<◌, arith}
use Rattle.names.specs.PairLaws.{parted, parted-length, parted-classed}
use Rattle.names.specs.WriteLaws.{written_front}
use Rattle.names.proofs.pairs.classes_in.Goals as goal

pub invariant_of-places : goal.invariant_of-places
invariant_of-places g c =
    let p = c.requires.pairs in
    let parts = parted c.args.keys.now c.args.w c.args.n in
    let long = parted-length c.args.keys.now c.args.w c.args.n p.enough in
    record {
      few = omega (arith, long.0, p.few);
      few_keys = c.requires.keys;
      room = omega (arith, long.0, c.requires.places);
      size = c.requires.size;
      both = omega (arith, long.0, long.1);
      firsts = λ i h. let l : i < c.args.n = omega (arith, long.0) in omega (arith, parts.firsts i l, p.firsts i l);
      seconds = λ i h. let l : i < c.args.n = omega (arith, long.0) in omega (arith, parts.seconds i l, p.seconds i l);
    }

pub returns : goal.returns
returns g c =
    let p = c.requires.pairs in
    let long = parted-length c.args.keys.now c.args.w c.args.n p.enough in
    parted-classed c.args.keys.now _ _ c.args.w c.args.n c.args.most _ _ p (parted c.args.keys.now c.args.w c.args.n) (rw long.0 at c.classify.ensures)
    (written_front c.classify.new.self.out c.args.keys.now c.copy_from_slice.new.self c.args.n (omega (arith, long.0)) (omega arith) c.copy_from_slice.ensures.after)
