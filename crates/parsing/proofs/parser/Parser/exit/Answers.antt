use Rattle.std.proofs.Common.{refl, ◌∙◌}
use Rattle.grammar.specs.Statements.{mark}
use Rattle.parsing.proofs.Laws.{reads_err}
use Rattle.parsing.proofs.Places.{begin_with, said, stood, absent, later-next, three-made, two-made, headed, done}
use Rattle.parsing.proofs.StatementPlaces.{stay, stayed, back, says-of, word-passed}
use Rattle.parsing.proofs.SimpleStatements.{exit-none, exit-refused, exit-labelled, exit-marked, exit-mark-refused}
use Rattle.parsing.proofs.parser.Parser.exit.Goals.{in-Some+in_ok-mark+else-not-branch, in_default}
use Rattle.parsing.proofs.parser.Parser.exit.Goals as goal

pub returns-in_err-name : goal.returns-in_err-name
returns-in_err-name c = reads_err _ _ _ _ _ _ _ _ c.from_residual.ensures.1 (exit-refused _ _ c.in_err-name.ensures)

pub returns-in_err-mark : goal.returns-in_err-mark
returns-in_err-mark c =
    let n = rw c.in-Some.is at c.in_ok-name.ensures in
    reads_err _ _ _ _ _ _ _ _ c.from_residual-in_err-mark.ensures.1 (exit-mark-refused _ _ n.says (says-of mark n.went.later c.in_err-mark.ensures))

pub returns-then-not-branch : goal.returns-then-not-branch
returns-then-not-branch c =
    let n = rw c.in-Some.is at c.in_ok-name.ensures in
    let no = absent mark 1 _ _ c.in_ok-mark.ensures c.if-not-branch.true in
    done _ (headed c.push.ensures (three-made c.push-label.ensures (stayed (stay no.same)
    (word-passed 1 _ n c.requires n.went.onward (exit-labelled _ _ n.says (says-of mark n.went.later no.says)))) refl) refl) refl refl

pub returns : goal.returns
returns c =
    elim c.match-branch-2.branch [
      | in-Some+in_ok-mark+else-not-branch w ↦
          let n = rw w.in-Some.is at c.in_ok-name.ensures in
          let m = stood mark 1 _ _ w.in_ok-mark.ensures w.if-not-branch.false in
          let l = later-next n.went.later m.went.later in
          let e = exit-marked _ _ n.says (says-of mark n.went.later m.says) in
          done _ (two-made c.push-2.ensures (stayed (rw w.self-is (back l (m.top_same ∙ n.top_same) refl refl refl refl)) (said e (begin_with c.requires))) refl) refl refl
      | in_default w ↦
          let no = rw w.in_default.is at c.in_ok-name.ensures in
          done _ (two-made c.push-2.ensures (stayed (rw w.self-is (stay no.same)) (said (exit-none _ _ no.says) (begin_with c.requires))) refl) refl refl
    ]
