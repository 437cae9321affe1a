-- `outline::end_of` meets its contract: a second word, a first of two, or a row's fields.
use mathlib.Core.Path.{◌≡◌, refl, sym, ap, ◌∙◌}
use mathlib.Core.List.{map}
use lib.ListN.{get_or, length, length-map}
use Rattle.tree.specs.KindCodes.{as_kind}
use Rattle.tree.specs.Notes.{field_count}
use Rattle.tree.proofs.Outlines.{fields-none, fields-pair, fields-row, end_by}
use Rattle.tree.proofs.outline.end_of.Goals as goal

pub returns-in_default : goal.returns-in_default
returns-in_default c =
    let a = c.args in
    end_by a.words.now a.kinds.now a.ends.now a.at c.item_or.ensures 0 (fields-none _ (get_or a.words.now a.at 0) _ c.in_default.ensures) refl

pub returns-in-Name : goal.returns-in-Name
returns-in-Name c =
    let a = c.args in
    let k = c.in-Ok.kind in
    end_by a.words.now a.kinds.now a.ends.now a.at ((c.in-Ok.ensures k).0 refl ∙ c.item_or.ensures) 1
    (fields-pair k (get_or a.words.now a.at 0) c.in-Name.is) c.item_or-in-Name.ensures

pub returns-in-Some : goal.returns-in-Some
returns-in-Some c =
    let a = c.args in
    let many : length (map as_kind c.in-Some.row.now) ≡ length c.in-Some.row.now = simp length-map in
    let k = c.in-Ok.kind in
    let d = c.in_default-kind in
    end_by a.words.now a.kinds.now a.ends.now a.at ((c.in-Ok.ensures k).0 refl ∙ c.item_or.ensures) _
    (fields-row k (get_or a.words.now a.at 0) d.not-Name d.not-Natural ∙ ap field_count (rw c.get.ensures at (sym c.in-Some.ensures)) ∙ many) c.after_fields.ensures

pub returns-in-None : goal.returns-in-None
returns-in-None c =
    let a = c.args in
    let k = c.in-Ok.kind in
    let d = c.in_default-kind in
    end_by a.words.now a.kinds.now a.ends.now a.at ((c.in-Ok.ensures k).0 refl ∙ c.item_or.ensures) 0
    (fields-row k (get_or a.words.now a.at 0) d.not-Name d.not-Natural ∙ ap field_count (rw c.get.ensures at (sym c.in-None.ensures))) refl
