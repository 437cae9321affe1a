use Rattle.settings.proofs.FieldLaws.{Passed}
use Rattle.settings.proofs.fields.misplaced.Given as goal

abbrev pub invariant-loop-i : goal.invariant-loop-i
invariant-loop-i l = Passed l.layout l.bytes l.i
