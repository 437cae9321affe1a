use Rattle.std.proofs.Common.{refl, ◌≡◌, arith}
use Rattle.parsing.proofs.Places.{stood, absent}
use Rattle.parsing.proofs.ProgramRules.{begins_err, seeking-next, found, found-refused, none-found, no-kind}
use Rattle.parsing.proofs.parser.Parser.begin.Goals as goal

pub returns-in_default : goal.returns-in_default
returns-in_default c = no-kind _ (rw c.in_default.is at c.word_ahead.ensures)

pub loop-word-init : goal.loop-word-init
loop-word-init c = record { same = refl; says = refl; long = (refl, (refl, (refl, (refl, (refl, tt))))) }

pub loop-word-preserved : goal.loop-word-preserved
loop-word-preserved c = seeking-next _ _ _ c.loop-word-test.true c.loop-word.invariant (absent _ _ _ _ c.in_ok-keyword_of.ensures c.if-branch.false)

pub returns-in_err-keyword_of : goal.returns-in_err-keyword_of
returns-in_err-keyword_of c =
    begins_err _ _ _ _ _ c.from_residual.ensures.1 (found-refused _ _ _ c.loop-word-test.true c.loop-word.invariant c.in_err-keyword_of.ensures)

pub returns-then-branch : goal.returns-then-branch
returns-then-branch c = found _ _ _ c.loop-word-test.true c.loop-word.invariant (stood _ _ _ _ c.in_ok-keyword_of.ensures c.if-branch.true)

pub returns : goal.returns
returns c = let e : c.loop-word.word-index ≡ 5 = omega (arith, c.loop-word-test.false, c.loop-word.auto.word-index-end) in none-found (rw e at c.loop-word.invariant)
