use Rattle.parsing.proofs.ProgramPlaces.{all-joined}
use Rattle.parsing.proofs.parser.Parser.joined.Goals as goal

pub returns : goal.returns
returns c =
    all-joined c.close-types.ensures c.close-taggers.ensures c.close-functions.ensures c.close-axioms.ensures c.close-procedures.ensures c.pair-first.ensures
    c.four.ensures
