use Rattle.parsing.proofs.Places.{binary-holds}
use Rattle.parsing.proofs.parser.Parser.combine.Goals as goal

pub returns-in-Straight : goal.returns-in-Straight
returns-in-Straight c =
    let m = c.push.ensures in
    record { made = m.made; holds = λ t u x y. rw c.in-Straight.is (binary-holds x y m) }

pub returns-in-Swapped : goal.returns-in-Swapped
returns-in-Swapped c =
    let m = c.push-in-Swapped.ensures in
    record { made = m.made; holds = λ t u x y. rw c.in-Swapped.is (binary-holds y x m) }
