use Rattle.std.proofs.Common.{refl, subst, arith}
use Rattle.std.proofs.lemmas.List.{drop_all}
use Rattle.parsing.proofs.Laws.{operates_err}
use Rattle.parsing.proofs.Places.{stood, absent}
use Rattle.parsing.proofs.SignTables.{Trying, next-filled, trying-next, tried, tried-refused, none-tried}
use Rattle.parsing.proofs.parser.Parser.first_of.Goals as goal

pub loop-spelling-init : goal.loop-spelling-init
loop-spelling-init g c = record { same = refl; says = refl; filled = c.requires }

pub spelt-requires : goal.spelt-requires
spelt-requires g c = next-filled _ _ c.loop-spelling-test.true c.loop-spelling.invariant c.loop-spelling-item.is

pub loop-spelling-preserved : goal.loop-spelling-preserved
loop-spelling-preserved g c = trying-next _ _ c.loop-spelling-test.true c.loop-spelling.invariant c.loop-spelling-item.is (absent _ _ _ _ c.in_ok-spelt.ensures c.if-branch.false)

pub returns-in_err-spelt : goal.returns-in_err-spelt
returns-in_err-spelt g c =
    operates_err _ _ _ _ _ _ c.from_residual.ensures.1 (tried-refused _ _ c.loop-spelling-test.true c.loop-spelling.invariant c.loop-spelling-item.is c.in_err-spelt.ensures)

pub returns-then-branch : goal.returns-then-branch
returns-then-branch g c = tried _ _ c.loop-spelling-test.true c.loop-spelling.invariant c.loop-spelling-item.is (stood _ _ _ _ c.in_ok-spelt.ensures c.if-branch.true)

pub returns : goal.returns
returns g c =
    none-tried (subst (λ rest. Trying c.args.table.now rest c.args.self.now c.loop-spelling.self) (drop_all c.loop-spelling.spelling-index c.args.table.now (omega (arith, c.loop-spelling-test.false))) c.loop-spelling.invariant)
