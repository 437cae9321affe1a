use Rattle.std.proofs.Common.{refl}
use Rattle.parsing.proofs.Places.{begin, named_mapped, ident-made, headed, done}
use Rattle.parsing.proofs.parser.Parser.reference.Goals as goal

pub returns : goal.returns
returns c =
    let last = rw c.from.ensures at c.push.ensures in
    done _ (headed last (ident-made c.push-variable.ensures (named_mapped _ _ c.in_ok-name.ensures begin) refl) refl) refl refl
