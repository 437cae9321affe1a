-- `entry::read_sized` meets its contract, by those of `parse` and `store` (Outcomes).
use Rattle.std.proofs.lemmas.List.{length-replicate}
use Rattle.parsing.specs.Arena.{outside}
use Rattle.reading.proofs.entry.Outcomes.{parse-refused, parse-stored}
use Rattle.reading.proofs.entry.read_sized.Goals as goal

pub returns-in-Err : goal.returns-in-Err
returns-in-Err g c =
    parse-refused c.args.whole c.requires (length-replicate g.row.SIZE outside) c.parse.result c.parse.ensures c.in-Err.is c.told.result c.told.ensures

pub returns-in-Ok : goal.returns-in-Ok
returns-in-Ok g c = parse-stored c.args.whole c.requires (length-replicate g.row.SIZE outside) c.parse.result c.parse.ensures c.in-Ok.is c.store.ensures
