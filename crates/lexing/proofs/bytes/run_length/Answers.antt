use Rattle.std.proofs.Common.{rules, tests, ◌∙◌}
use Rattle.std.proofs.lemmas.Iterator.{YieldsList-from_slice}
use Rattle.std.proofs.lemmas.Iterator.Consumers.{count_from_yields_List}
use Rattle.std.proofs.lemmas.Iterator.Search.{YieldsList-from_take_while}
use Rattle.lexing.proofs.Lists.{run_prefix}
use Rattle.lexing.proofs.bytes.run_length.Goals as goal

pub returns : goal.returns
returns g c p h =
    count_from_yields_List c.take_while.result _ c.count.ensures.ran
    (YieldsList-from_take_while _ p (YieldsList-from_slice c.args.s.now cc) c.take_while.ensures.closure c.take_while.ensures.done
    (λ x b q k. search (rules, tests, h)))
    ∙ run_prefix p c.args.s.now
