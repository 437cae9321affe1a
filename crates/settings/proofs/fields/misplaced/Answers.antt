-- Place by place as the definition goes.
use Rattle.std.specs.Prelude.{None}
use Rattle.std.proofs.Common.{arith, sym, ◌∙◌}
use Rattle.settings.proofs.FieldLaws.{missing, passed, differs, too-many, complete}
use Rattle.settings.proofs.fields.misplaced.Goals as goal
use Rattle.settings.proofs.fields.misplaced.Goals.{then-i-bytes-via-then-i-bytes, then-i-bytes-via-else-i-bytes+then-not-admits}

pub loop-i-preserved : goal.loop-i-preserved
loop-i-preserved c =
    passed c.loop-i.invariant c.loop-i-test.true (omega arith) None (sym c.admits.ensures ∙ c.if-not-admits.false)

pub returns-then-i-bytes : goal.returns-then-i-bytes
returns-then-i-bytes c =
    elim c.then-i-bytes.branch [
      | then-i-bytes-via-then-i-bytes w ↦ missing c.loop-i.invariant c.loop-i-test.true w.if-i-bytes.true
      | then-i-bytes-via-else-i-bytes+then-not-admits w ↦
          differs c.loop-i.invariant c.loop-i-test.true (omega arith) None (sym w.admits.ensures ∙ w.if-not-admits.true)
    ]

pub returns-then-layout-bytes : goal.returns-then-layout-bytes
returns-then-layout-bytes c = too-many c.loop-i.invariant (omega arith) c.if-layout-bytes.true

pub returns-else-layout-bytes : goal.returns-else-layout-bytes
returns-else-layout-bytes c = complete c.loop-i.invariant (omega arith) c.if-layout-bytes.false
