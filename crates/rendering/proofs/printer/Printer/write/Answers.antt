-- Bytes that fit are stored; bytes that do not leave the buffer as it was.
use Rattle.std.proofs.Common.{◌≡◌, arith, refl, rules}
use Rattle.std.proofs.lemmas.Grind.{common_steps}
use Rattle.std.proofs.lemmas.Slice.{put_mid-paste}
use Rattle.rendering.proofs.Writing.Bytes.{over, stored}
use Rattle.rendering.proofs.printer.Printer.write.Goals as goal

pub fill-requires : goal.fill-requires
fill-requires g c = c.requires _ (search rules)

pub returns-then-fits : goal.returns-then-fits
returns-then-fits g c x l h =
    let same : c.fill.new.arg2 ≡ x = h _ _ (search rules) (record { shown = _; shows = refl; left = _; met = c.fill.ensures; leaves = refl }) in
    record {
      source = refl;
      output = refl;
      still = refl;
      wrote = stored _ _ x _ _ l (search rules) (put_mid-paste _ _ _ _ x c.args.size same (omega arith) (omega (arith, l)));
    }

pub returns-else-fits : goal.returns-else-fits
returns-else-fits g c x l h = record { source = refl; output = refl; still = refl; wrote = over _ _ x _ l (grind (arith, common_steps)) }
